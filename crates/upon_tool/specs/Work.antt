-- What is done with an engine that holds templates.
use Rattle.std.specs.Prelude.{◌≡◌, ℕ, List, [], Contains, Bool, true, false, Option, Some, None, IfSome, IsSome, IsSomeAnd, map, Result, Ok, Err, string_bytes}
use Rattle.std.specs.Borrow.{Bor}
use Rattle.std.specs.Io.KnownBytes.{Appends}
use Rattle.upon_types.specs.Tree.{Statements}
use Rattle.upon_types.specs.View.{view}
use Rattle.upon_types.specs.declared.error.Error.{Error}
use Rattle.upon_language_spec.specs.DefaultDelimiters.{default_delimiters}
use Rattle.upon_language_spec.specs.Grammar.{HasTree}
use Rattle.upon_meaning_spec.specs.Engine.{Table, Template}
use Rattle.upon_engine.specs.Faults.{IsSyntaxErrorOf}
use Rattle.upon_engine.specs.Texts.{Stored, Texts}
use Rattle.upon_engine.specs.Theorem.{IsTable}
use Rattle.upon_needs.specs.declared.needs.Needs.{Needs}
use Rattle.upon_calls.specs.Names.{NeededBy}
use Rattle.upon_tool_io.specs.World.{World}
use Rattle.upon_tool_io.specs.Written.{Adds, Log}
use Rattle.upon_tool_io.specs.declared.files.ReadFault.{ReadFault}
use Rattle.upon_tool_data.specs.Sources.{is_standard, IsNoTextOf}
use Rattle.upon_tool_messages.specs.Status.{tool_end_status}
use Rattle.upon_tool_messages.specs.declared.failure.Failure.{Failure}
use Rattle.upon_tool_messages.specs.declared.judge.Declared.{Declared}
use Rattle.upon_tool_messages.specs.declared.failure.Failure.TheVariants.{Unreadable, NotText, Data, Unwritable, Fault}
use Rattle.upon_calls.specs.Rendering.{EachHasTree}
use Rattle.upon_tool.specs.Filled.{Fills}
use Rattle.upon_tool_pages.specs.ManyPages.{BuildIsWell, EachIsWell}
use Rattle.upon_tool_pages.specs.Missing.{EachIsRight, EachName, HeldIsRight}
use Rattle.upon_tool.specs.Names.{needs_text}
use Rattle.upon_tool_pages.specs.Refusals.{RefusesOrFails}
use Rattle.upon_tool_pages.specs.Rendering.{SendsPage, ShowsPage}
use Rattle.upon_tool_pages.specs.declared.rendering.Page.{Page}
use Rattle.upon_tool_pages.specs.Sources.{AreTexts}
use Rattle.upon_tool_pages.specs.declared.sources.FolderFile.{FolderFile}
use Rattle.upon_tool.specs.declared.work.Templates.{Templates}
use Rattle.upon_tool.specs.declared.work.Work.{Work}
use Rattle.upon_tool.specs.declared.work.Work.TheVariants.{Render, Check, Names, Each as EachWork, Build as BuildWork}

-- the output is standard output
abbrev pub to_standard : Option (Bor (List ℕ)) → Bool
to_standard None = true
to_standard (Some path) = is_standard path.now

-- it is listed what the template of a name needs, if the status is 0
abbrev pub ListsNames : Texts → List ℕ → Bool → ℕ → Option (List ℕ) → Option (List ℕ) → Type 0
ListsNames e name json status old new =
    (table : Table) (t : Template) → IsTable e.texts table → table name ≡ Some t → status ≡ 0
    → (needs : Needs) × NeededBy table t.tree needs × Appends old new (needs_text json needs)

-- the files that are checked
abbrev pub checked_files : Work → List (Bor (List ℕ))
checked_files (Render page path) = []
checked_files (Check names callables) = names.now
checked_files (Names name json) = []
checked_files (EachWork value asked terminal) = []
checked_files (BuildWork value asked terminal) = []

-- if files are to be checked, this holds of what they may call
abbrev pub IfChecked : Work → (Declared → Type 0) → Type 0
IfChecked (Render page path) Is = Unit {0}
IfChecked (Check names callables) Is = Is callables
IfChecked (Names name json) Is = Unit {0}
IfChecked (EachWork value asked terminal) Is = Unit {0}
IfChecked (BuildWork value asked terminal) Is = Unit {0}

-- each file of a folder is held, and right
abbrev pub EachFileIsRight : Declared → Texts → List FolderFile → Type 0
EachFileIsRight callables e files =
    EachName (λ name. IsSome (e.texts name) × HeldIsRight callables e name) (map (λ file. string_bytes file.name) files)

-- A new file received what was sent of a text, and took the place of the one of a name; or that failed, and nothing was
-- written. What it held at first is nothing, if it is known what was written.
abbrev pub SendsToFile : (Result (Unit {0}) Error → Option (List ℕ) → Option (List ℕ) → Type 0) → List ℕ
    → Result (Unit {0}) Failure → Log → Log → Type 0
SendsToFile Sent path (Ok u) was now = (first : Option (List ℕ)) × (last : Option (List ℕ))
    × IfSome was (λ known. first ≡ Some []) × Sent (Ok tt) first last × Adds last path was now
SendsToFile Sent path (Err (Unwritable name error)) was now = (name.now ≡ path) × (now ≡ was)
SendsToFile Sent path (Err (Fault error)) was now = (now ≡ was) × (first : Option (List ℕ)) × (last : Option (List ℕ))
    × IfSome was (λ known. first ≡ Some []) × Sent (Err error) first last
SendsToFile Sent path (Err (Data fault)) was now = ⊥
SendsToFile Sent path (Err (Unreadable name error)) was now = ⊥
SendsToFile Sent path (Err (NotText name)) was now = ⊥

-- A page is rendered to the file of a name by an engine that holds these texts. If a text is held under the page's
-- name, a new file received what its tree means on the value, up to an end that has this status.
abbrev pub FilesPage : Texts → Page → List ℕ → ℕ → Log → Log → Type 0
FilesPage e page path status was now = (held : Stored) (tree : Statements) → e.texts page.name.now ≡ Some held
    → ∥ HasTree held.syntax held.text tree ∥₁
    → (end : Result (Unit {0}) Failure) × (status ≡ tool_end_status end) × SendsToFile
    (λ r first last. SendsPage page.limits e (Some page.name.now) held.text tree (view page.value.now) r first last)
    path end was now

-- the name of the file of an output
abbrev pub output_name : Option (Bor (List ℕ)) → List ℕ
output_name None = []
output_name (Some path) = path.now

module _ (world : World) where
  -- files are checked, by what they may call and what standard input had left: if the status is 0, each of their texts
  -- is right
  abbrev pub ChecksFiles : Declared → Texts → List (Bor (List ℕ)) → Option (List ℕ) → ℕ → Type 0
  ChecksFiles callables e names input status = (texts : List (List ℕ)) × (later : Option (List ℕ))
      × AreTexts world names input texts later
      × (status ≡ 0 → (table : Table) → IsTable e.texts table → EachIsRight callables e.syntax table names texts)

  -- A piece of work ends with a status, by what standard input had left. Files are written by pages alone.
  abbrev pub Works : Work → Texts → Option (List ℕ) → ℕ → Option (List ℕ) → Option (List ℕ) → Log → Log → Type 0
  Works (Render page path) e input status old new was now =
      (to_standard path ≡ true → (now ≡ was) × ShowsPage e page.now status old new)
      × (to_standard path ≡ false → (new ≡ old) × FilesPage e page.now (output_name path) status was now)
  Works (Check names callables) e input status old new was now =
      (new ≡ old) × (now ≡ was) × ChecksFiles callables e names.now input status
  Works (Names name json) e input status old new was now = (now ≡ was) × ListsNames e name.now json status old new
  Works (EachWork value asked terminal) e input status old new was now =
      (new ≡ old) × EachIsWell world e (view value) asked.now status was now
  Works (BuildWork value asked terminal) e input status old new was now =
      (new ≡ old) × BuildIsWell world e (view value.now) asked.now status was now

  -- one of some files gives no text, by what standard input had left at some time
  abbrev pub IsOneUnread : List (Bor (List ℕ)) → Bor (List ℕ) → ReadFault → Type 0
  IsOneUnread names name fault =
      Contains names name × ((input : Option (List ℕ)) × IsNoTextOf world name.now input fault)

  -- one of some files was not read, for a reason that there may be, or memory was out
  abbrev pub IsUnreadOf : List (Bor (List ℕ)) → Failure → Type 0
  IsUnreadOf names failure = RefusesOrFails (λ fault. ⊥) (IsOneUnread names) (λ error. ⊥) failure

  -- Why work was not done: a file that is to be checked was not read; or the template's text has a fault; or memory was
  -- out.
  abbrev pub RefusesWork : Templates → Work → Failure → Type 0
  RefusesWork templates work failure = RefusesOrFails (λ fault. ⊥) (IsOneUnread (checked_files work))
      (λ error. IsSomeAnd templates.page
      (λ page. IsSyntaxErrorOf page.0.now default_delimiters (string_bytes page.1) error))
      failure

  -- An engine is filled, and does a piece of work that ends with a status. If files were to be checked, and that is 0,
  -- those of the folder are right too.
  abbrev pub CarriesOut : Templates → Work → Option (List ℕ) → ℕ → Option (List ℕ) → Option (List ℕ) → Log → Log
      → Type 0
  CarriesOut templates work input status old new was now =
      (e : Texts) × Fills templates e × EachHasTree e × Works work e input status old new was now
      × (status ≡ 0 → IfChecked work (λ callables. EachFileIsRight callables e templates.files.items))
