-- What a call of the program does, from its words and what it reads to its output and its status.
use Rattle.std.specs.Prelude.{◌≡◌, ◌⊎◌, ℕ, List, [], Bool, true, false, Option, None, Some, IsSomeAnd, Result, Ok, Err, String, string_bytes}
use Rattle.std.specs.Borrow.{Bor}
use Rattle.std.specs.declared.alloc.Global.{Global}
use Rattle.upon_types.specs.Tree.{Statements}
use Rattle.upon_types.specs.Val.{Val}
use Rattle.upon_types.specs.declared.error.Error.{Error}
use Rattle.upon_language_spec.specs.DefaultDelimiters.{default_delimiters}
use Rattle.upon_language_spec.specs.Grammar.{HasTree}
use Rattle.upon_vm.specs.declared.limits.Limits.{Limits}
use Rattle.upon_engine.specs.Changes.{with_text}
use Rattle.upon_engine.specs.Faults.{IsSyntaxErrorOf}
use Rattle.upon_engine.specs.Texts.{Texts}
use Rattle.upon_tool_io.specs.World.{World, RefusesName}
use Rattle.upon_tool_io.specs.Written.{Log}
use Rattle.upon_tool_io.specs.declared.files.ReadFault.{ReadFault}
use Rattle.upon_tool_io.specs.declared.arguments.Call.{Call}
use Rattle.upon_tool_io.specs.declared.arguments.Call.TheVariants.{Render as RenderAsked, Check as CheckAsked, Fit as FitAsked, Shape as ShapeAsked, Names as NamesAsked, Each as EachAsked, Build as BuildAsked}
use Rattle.upon_tool_io.specs.declared.arguments.BuildCall.{BuildCall}
use Rattle.upon_tool_io.specs.declared.arguments.CheckCall.{CheckCall}
use Rattle.upon_tool_io.specs.declared.arguments.DataCall.{DataCall}
use Rattle.upon_tool_io.specs.declared.arguments.EachCall.{EachCall}
use Rattle.upon_tool_io.specs.declared.arguments.NamesCall.{NamesCall}
use Rattle.upon_tool_io.specs.declared.arguments.RenderCall.{RenderCall}
use Rattle.upon_tool_data.specs.Context.{IsContext, RefusesContext}
use Rattle.upon_tool_data.specs.Sources.{is_standard, IsNoTextOf, IsTextOf}
use Rattle.upon_tool_data.specs.Words.{IsWordFault}
use Rattle.upon_tool_data.specs.declared.fault.ContextFault.{ContextFault}
use Rattle.upon_tool_many.specs.declared.build.Build.{Build}
use Rattle.upon_tool_many.specs.declared.each.Each.{Each}
use Rattle.upon_tool_messages.specs.Status.{tool_end_status, tool_status}
use Rattle.upon_tool_messages.specs.declared.failure.Failure.{Failure}
use Rattle.upon_tool.specs.Checked.{ChecksCall}
use Rattle.upon_calls.specs.Filled.{functions_if}
use Rattle.upon_tool.specs.Filled.{tool_engine, with_page, TakesFiles}
use Rattle.upon_tool.specs.Fitting.{FitsCall, WritesShape}
use Rattle.upon_tool_pages.specs.ManyPages.{limits_set, BuildIsWell, EachIsWell}
use Rattle.upon_tool_pages.specs.Refusals.{RefusesOrFails}
use Rattle.upon_tool_pages.specs.Rendering.{SendsPage, SendsWhole, StaysWithin}
use Rattle.upon_calls.specs.Rendering.{EachHasTree}
use Rattle.upon_tool_pages.specs.Sources.{AreFolderFiles}
use Rattle.upon_tool.specs.Work.{output_name, to_standard, IsOneUnread, ListsNames, SendsToFile}
use Rattle.upon_tool_pages.specs.declared.sources.FolderFile.{FolderFile}

-- the limits that a call asks for
abbrev pub limits_asked : RenderCall → Limits
limits_asked call = record { steps = call.max_steps; output = call.max_output; values = call.max_memory }

-- what the engine of a call holds before its templates
abbrev pub engine_asked : RenderCall → Texts
engine_asked call = tool_engine call.escape (functions_if call.standard)

-- what is rendered for each item
abbrev pub each_asked : EachCall → Each
each_asked call = record {
  key = call.key;
  page = call.render.file;
  name = call.name;
  out = call.out;
  limits = limits_set (limits_asked call.render);
  keep_going = call.keep_going;
}

-- what is built
abbrev pub build_asked : BuildCall → Build
build_asked call = record {
  source = call.render.file;
  follows = call.render.follow;
  out = call.out;
  layout = call.layout;
  limits = limits_set (limits_asked call.render);
  keep_going = call.keep_going;
}

-- a file that may be named is standard input
abbrev pub may_be_input : Option (Bor (List ℕ)) → Bool
may_be_input None = false
may_be_input (Some name) = is_standard name.now

-- the status by how a call's work ended
abbrev pub status_at : Result ℕ Failure → ℕ
status_at (Ok status) = status
status_at (Err failure) = tool_status failure

module _ (world : World) where
  -- the value that a call's data are, by what standard input had left and has left, if that is known
  abbrev pub IsCallContext : DataCall → Option (List ℕ) → Val → Option (List ℕ) → Type 0
  IsCallContext call input v later =
      IsContext world call.env call.files.items call.format call.set_json.items call.set.items input v later

  -- A call of `render` ends with a status, by what standard input had left, if that is known. FILE's text was read, and
  -- the files of the context, after it, which is a value; and then the folder's files. Each text that is held has a
  -- tree, and so has FILE's. If the output is standard output, its meaning on that value was sent to it, with FILE over
  -- the folder's files, up to an end of this status, and no more bytes than the call allows; and no file was written.
  -- If it is a file, nothing was sent, and a new file received the same, and took the place of the one of that name, or
  -- none was written.
  pub record RendersCall (call : RenderCall) (input : Option (List ℕ)) (status : ℕ) (old new : Option (List ℕ))
      (was now : Log) : Type 0 where
    pub text : List ℕ
    pub later : Option (List ℕ)
    pub value : Val
    pub last : Option (List ℕ)
    pub files : List FolderFile
    pub folder : Texts
    pub read : IsTextOf world call.file.now input text
    pub left : is_standard call.file.now ≡ false → later ≡ input
    pub data_read : IsCallContext call.data later value last
    pub listed_files : AreFolderFiles world call.templates call.follow files
    pub taken : TakesFiles files (engine_asked call) folder
    pub trees : EachHasTree (with_text call.file.now text folder)
    pub shown : to_standard call.out ≡ true → (now ≡ was) × ((tree : Statements)
        × ∥ HasTree default_delimiters text tree ∥₁ × ((end : Result (Unit {0}) Failure)
        × (status ≡ tool_end_status end) × SendsWhole
        (λ r. SendsPage (limits_asked call) (with_text call.file.now text folder) (Some call.file.now) text tree value r
        old new) end × StaysWithin call.max_output old new))
    pub filed : to_standard call.out ≡ false → (new ≡ old) × ((tree : Statements)
        × ∥ HasTree default_delimiters text tree ∥₁ × ((end : Result (Unit {0}) Failure)
        × (status ≡ tool_end_status end) × SendsToFile
        (λ r first last. SendsPage (limits_asked call) (with_text call.file.now text folder) (Some call.file.now) text
        tree value r first last) (output_name call.out) end was now))

  -- A call of `names` ends with a status, so. If that is 0, it was listed what FILE's text needs, with the folder's
  -- files.
  pub record ListsCall (call : NamesCall) (input : Option (List ℕ)) (status : ℕ) (old new : Option (List ℕ))
      : Type 0 where
    pub text : List ℕ
    pub files : List FolderFile
    pub folder : Texts
    pub read : IsTextOf world call.file.now input text
    pub listed_files : AreFolderFiles world call.templates call.follow files
    pub taken : TakesFiles files (tool_engine None []) folder
    pub trees : EachHasTree (with_text call.file.now text folder)
    pub listed : ListsNames (with_text call.file.now text folder) call.file.now call.json status old new

  -- A call of `render` with `--each` ends with a status, so. FILE's text was read, and the files of the context, after
  -- it, and then the folder's files. FILE was rendered for each item of the list, with the folder's files, and no page
  -- failed if the status is 0; or none was, and nothing written.
  pub record RendersEachCall (call : EachCall) (input : Option (List ℕ)) (status : ℕ) (was now : Log) : Type 0 where
    pub text : List ℕ
    pub later : Option (List ℕ)
    pub value : Val
    pub last : Option (List ℕ)
    pub files : List FolderFile
    pub folder : Texts
    pub read : IsTextOf world call.render.file.now input text
    pub left : is_standard call.render.file.now ≡ false → later ≡ input
    pub data_read : IsCallContext call.render.data later value last
    pub listed_files : AreFolderFiles world call.render.templates call.render.follow files
    pub taken : TakesFiles files (engine_asked call.render) folder
    pub trees : EachHasTree (with_text call.render.file.now text folder)
    pub rendered : EachIsWell world (with_text call.render.file.now text folder) value (each_asked call) status was now

  -- the template that a layout is, under its file's name, if that is named
  abbrev pub IsLayout : Option (Bor (List ℕ)) → Option (List ℕ) → Option (Bor (List ℕ) × String Global) → Type 0
  IsLayout None input page = page ≡ None
  IsLayout (Some name) input page =
      IsSomeAnd page (λ page. (page.0 ≡ name) × IsTextOf world name.now input (string_bytes page.1))

  -- A call of `build` ends with a status, so. The layout's text was read, and the files of the context, after it, and
  -- then the files of the folder of templates. The folder was built, with the layout over those files, and no page
  -- failed if the status is 0; or it was not, and nothing written.
  pub record BuildsCall (call : BuildCall) (input : Option (List ℕ)) (status : ℕ) (was now : Log) : Type 0 where
    pub layout : Option (Bor (List ℕ) × String Global)
    pub later : Option (List ℕ)
    pub value : Val
    pub last : Option (List ℕ)
    pub files : List FolderFile
    pub folder : Texts
    pub read : IsLayout call.layout input layout
    pub left : may_be_input call.layout ≡ false → later ≡ input
    pub data_read : IsCallContext call.render.data later value last
    pub listed_files : AreFolderFiles world call.render.templates call.render.follow files
    pub taken : TakesFiles files (engine_asked call.render) folder
    pub trees : EachHasTree (with_page layout folder)
    pub built : BuildIsWell world (with_page layout folder) value (build_asked call) status was now

  -- FILE's text, as it was read, has this fault
  abbrev pub IsTextFault : Bor (List ℕ) → Option (List ℕ) → Error → Type 0
  IsTextFault file input error =
      (text : List ℕ) × IsTextOf world file.now input text × IsSyntaxErrorOf file.now default_delimiters text error

  -- The words of a call's data are wrong, where standard input may have been taken; or they give no context, by what
  -- standard input has left after that.
  abbrev pub IsNoContext : Bool → DataCall → Option (List ℕ) → ContextFault → Type 0
  IsNoContext taken call input fault = IsWordFault taken call.files.items call.set_json.items call.set.items fault
      ⊎ ((later : Option (List ℕ)) × (taken ≡ false → later ≡ input)
      × RefusesContext world call.env call.files.items call.format call.set_json.items call.set.items later fault)

  -- the layout's text, as it was read, has this fault
  abbrev pub IsFaultOfLayout : Option (Bor (List ℕ)) → Option (List ℕ) → Error → Type 0
  IsFaultOfLayout layout input error = IsSomeAnd layout (λ name. IsTextFault name input error)

  -- FILE gives no text, for this reason
  abbrev pub IsNoFile : Bor (List ℕ) → Option (List ℕ) → Bor (List ℕ) → ReadFault → Type 0
  IsNoFile file input name fault = (name ≡ file) × IsNoTextOf world name.now input fault

  -- so the file of a layout, if there is one
  abbrev pub IsNoLayout : Option (Bor (List ℕ)) → Option (List ℕ) → Bor (List ℕ) → ReadFault → Type 0
  IsNoLayout layout input name fault = (layout ≡ Some name) × IsNoTextOf world name.now input fault

  -- a folder of templates is refused so
  abbrev pub IsNoFolder : Option (Bor (List ℕ)) → Bor (List ℕ) → ReadFault → Type 0
  IsNoFolder folder name fault = (folder ≡ Some name) × RefusesName world name.now fault

  -- what is said of a file or folder that a call names, if it is not read
  abbrev pub NamedByRender : RenderCall → Option (List ℕ) → Bor (List ℕ) → ReadFault → Type 0
  NamedByRender call input name fault = IsNoFile call.file input name fault ⊎ IsNoFolder call.templates name fault

  abbrev pub NamedByCheck : CheckCall → Bor (List ℕ) → ReadFault → Type 0
  NamedByCheck call name fault = IsOneUnread world call.files.items name fault ⊎ IsNoFolder call.templates name fault

  abbrev pub NamedByNames : NamesCall → Option (List ℕ) → Bor (List ℕ) → ReadFault → Type 0
  NamedByNames call input name fault = IsNoFile call.file input name fault ⊎ IsNoFolder call.templates name fault

  abbrev pub NamedByBuild : BuildCall → Option (List ℕ) → Bor (List ℕ) → ReadFault → Type 0
  NamedByBuild call input name fault =
      IsNoLayout call.layout input name fault ⊎ IsNoFolder call.render.templates name fault

  -- Why a call ends before its work.
  abbrev pub RefusesCall : Call → Option (List ℕ) → Failure → Type 0
  RefusesCall (RenderAsked call) input = RefusesOrFails (IsNoContext (is_standard call.file.now) call.data input)
      (NamedByRender call input) (IsTextFault call.file input)
  RefusesCall (CheckAsked call) input = RefusesOrFails (λ fault. ⊥) (NamedByCheck call) (λ error. ⊥)
  RefusesCall (FitAsked call) input = RefusesOrFails (λ fault. Unit {0}) (NamedByCheck call.check) (λ error. ⊥)
  RefusesCall (ShapeAsked call) input = RefusesOrFails (λ fault. Unit {0}) (λ name fault. ⊥) (λ error. ⊥)
  RefusesCall (NamesAsked call) input =
      RefusesOrFails (λ fault. ⊥) (NamedByNames call input) (IsTextFault call.file input)
  RefusesCall (EachAsked call) input = RefusesOrFails
      (IsNoContext (is_standard call.render.file.now) call.render.data input) (NamedByRender call.render input)
      (IsTextFault call.render.file input)
  RefusesCall (BuildAsked call) input = RefusesOrFails (IsNoContext (may_be_input call.layout) call.render.data input)
      (NamedByBuild call input) (IsFaultOfLayout call.layout input)

  -- a call's work is done, and ends with a status; files are written by `render` and `build` alone
  abbrev pub DoesCall : Call → Option (List ℕ) → ℕ → Option (List ℕ) → Option (List ℕ) → Log → Log → Type 0
  DoesCall (RenderAsked call) input status old new was now = RendersCall call input status old new was now
  DoesCall (CheckAsked call) input status old new was now =
      (new ≡ old) × (now ≡ was) × ChecksCall world call input status
  DoesCall (FitAsked call) input status old new was now = (new ≡ old) × (now ≡ was) × FitsCall world call input status
  DoesCall (ShapeAsked call) input status old new was now = (now ≡ was) × WritesShape world call input status old new
  DoesCall (NamesAsked call) input status old new was now = (now ≡ was) × ListsCall call input status old new
  DoesCall (EachAsked call) input status old new was now = (new ≡ old) × RendersEachCall call input status was now
  DoesCall (BuildAsked call) input status old new was now = (new ≡ old) × BuildsCall call input status was now

  -- A call's work is done; or it is refused, and nothing was sent to the output, and no file written.
  abbrev pub RunsCall : Call → Option (List ℕ) → Result ℕ Failure → Option (List ℕ) → Option (List ℕ) → Log → Log
      → Type 0
  RunsCall call input (Ok status) old new was now = DoesCall call input status old new was now
  RunsCall call input (Err failure) old new was now = (new ≡ old) × (now ≡ was) × RefusesCall call input failure

  -- a call's work ends in one way, and that way has this status
  abbrev pub CallEnds : Call → Option (List ℕ) → ℕ → Option (List ℕ) → Option (List ℕ) → Log → Log → Type 0
  CallEnds call input status old new was now =
      (end : Result ℕ Failure) × (status ≡ status_at end) × RunsCall call input end old new was now
