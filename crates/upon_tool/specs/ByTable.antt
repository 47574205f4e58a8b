-- What many pages are by one table of the trees of the texts that an engine holds, and what is written of them.
use Rattle.std.specs.Prelude.{◌≡◌, ◌⊎◌, ℕ, List, [], ◌∷◌, Bool, true, false, Option, Some, None, Result, Ok, Err, String, string_bytes, unwrap_or, MatchOption}
use Rattle.std.specs.Borrow.{Bor}
use Rattle.std.specs.declared.alloc.Global.{Global}
use Rattle.upon_types.specs.Error.{fault_of}
use Rattle.upon_types.specs.Fault.{out_of_memory}
use Rattle.upon_types.specs.Tree.{Statements}
use Rattle.upon_types.specs.Val.{Val, Entries}
use Rattle.upon_types.specs.View.{view}
use Rattle.upon_types.specs.declared.error.Error.{Error}
use Rattle.upon_types.specs.declared.value.Value.{Value}
use Rattle.upon_language_spec.specs.Grammar.{HasTree}
use Rattle.upon_meaning_spec.specs.Engine.{Table, Template}
use Rattle.upon_meaning_spec.specs.Outcome.{good}
use Rattle.upon_vm.specs.Limits.{is_limited}
use Rattle.upon_vm.specs.Reports.{IsAnyIo, WritesReported}
use Rattle.upon_vm.specs.Within.{TextWithin, WritesWithin}
use Rattle.upon_vm.specs.declared.limits.Limits.{Limits}
use Rattle.upon_engine.specs.Answers.{AnswersText}
use Rattle.upon_engine.specs.Texts.{Texts}
use Rattle.upon_engine.specs.Theorem.{meaning}
use Rattle.upon_engine.specs.Within.{runs}
use Rattle.upon_calls.specs.Rendering.{IsFirstFaultOf}
use Rattle.upon_tool_io.specs.Paths.{joined_path}
use Rattle.upon_tool_io.specs.World.{World}
use Rattle.upon_tool_io.specs.Written.{written_as, Grows, Log}
use Rattle.upon_tool_io.specs.declared.files.ReadFault.{ReadFault}
use Rattle.upon_tool_many.specs.Build.{EndsOfCopy, IsUnreadPage}
use Rattle.upon_tool_many.specs.Each.{IsItemAnswer}
use Rattle.upon_tool_many.specs.Names.{page_name}
use Rattle.upon_tool_many.specs.Pages.{as_page, IsMemoryOut, PageEndsBy}
use Rattle.upon_tool_many.specs.Values.{IsContentValue, IsItemValue}
use Rattle.upon_tool_many.specs.declared.build.Build.{Build}
use Rattle.upon_tool_many.specs.declared.each.Each.{Each}
use Rattle.upon_tool_many.specs.declared.pages.DonePage.{DonePage}
use Rattle.upon_tool_many.specs.declared.pages.PageEnd.{PageEnd}
use Rattle.upon_tool_many.specs.declared.pages.PageEnd.TheVariants.{Failed}
use Rattle.upon_tool_many.specs.declared.pages.PageFault.{PageFault}
use Rattle.upon_tool_many.specs.declared.pages.PageFault.TheVariants.{Unread, Fault as PageFaulty}

module _ (e : Texts) (table : Table) where
  -- a text is the whole of what the tree of a text means on a value, which ends without a fault
  abbrev pub Means : Option (List ℕ) → List ℕ → Statements → Val → List ℕ → Type 0
  Means name source tree v text =
      ((meaning e table name source tree v).end ≡ good) × (text ≡ (meaning e table name source tree v).text)

  -- so of the template that the table has of a name
  abbrev pub NamedMeans : List ℕ → Val → List ℕ → Type 0
  NamedMeans name v text = (t : Template) × (table name ≡ Some t) × Means (Some name) t.source t.tree v text

  -- so of a text that has a tree
  abbrev pub SourceMeans : List ℕ → Val → List ℕ → Type 0
  SourceMeans source v text = (tree : Statements) × HasTree e.syntax source tree × Means None source tree v text

  -- the text of a page in its layout: as it is if there is no layout, else what that means on the context with the text
  abbrev pub Framed : Option (Bor (List ℕ)) → Val → List ℕ → List ℕ → Type 0
  Framed None context text whole = whole ≡ text
  Framed (Some layout) context text whole =
      (v : Val) × IsContentValue context text v × NamedMeans layout.now v whole

-- what the tree of a text answers on a value by a table, within limits if there are some
abbrev pub AnswersBy : Option Limits → Texts → Table → Option (List ℕ) → List ℕ → Statements → Val
    → Result (String Global) Error → Type 0
AnswersBy None e table name source tree v answer = AnswersText e.depth (meaning e table name source tree v) answer
AnswersBy (Some limits) e table name source tree v answer =
    TextWithin e.depth limits (runs e table name source tree v) (meaning e table name source tree v) answer

-- what is sent of the tree of a text by a table: without limits, or within them
abbrev pub SendsIfBy : Bool → Limits → Texts → Table → Option (List ℕ) → List ℕ → Statements → Val
    → Result (Unit {0}) Error → Option (List ℕ) → Option (List ℕ) → Type 0
SendsIfBy false limits e table name source tree v r old new =
    WritesReported e.depth IsAnyIo r old new (meaning e table name source tree v)
SendsIfBy true limits e table name source tree v r old new = WritesWithin e.depth IsAnyIo limits
    (runs e table name source tree v) r old new (meaning e table name source tree v)

-- what is sent of it, by the limits
abbrev pub SendsBy : Limits → Texts → Table → Option (List ℕ) → List ℕ → Statements → Val → Result (Unit {0}) Error
    → Option (List ℕ) → Option (List ℕ) → Type 0
SendsBy limits e table name source tree v r old new =
    SendsIfBy (is_limited limits) limits e table name source tree v r old new

module _ (limits : Option Limits) (e : Texts) (table : Table) where
  -- what the tree of a text answers on a value is this text of a page, or the fault of the page
  abbrev pub IsAnswerBy : Option (List ℕ) → List ℕ → Statements → Val → Result (String Global) PageFault → Type 0
  IsAnswerBy name source tree v result = (answer : Result (String Global) Error)
      × AnswersBy limits e table name source tree v answer × (result ≡ as_page answer)

  -- so of the template that the table has of a name
  abbrev pub IsHeldTextBy : List ℕ → Val → Result (String Global) PageFault → Type 0
  IsHeldTextBy name v result = (t : Template) × (table name ≡ Some t) × IsAnswerBy (Some name) t.source t.tree v result

  -- so of a text that has a tree; or the page's fault is the first one of the text, or memory is out
  abbrev pub IsSourceTextBy : List ℕ → Val → Result (String Global) PageFault → Type 0
  IsSourceTextBy source v result = ((tree : Statements) × HasTree e.syntax source tree
      × IsAnswerBy None source tree v result)
      ⊎ ((error : Error) × ((fault_of error ≡ out_of_memory) ⊎ IsFirstFaultOf e.syntax source (fault_of error))
      × (result ≡ Err (PageFaulty error)))

  -- so of the text of a page in its layout: as it is if there is no layout, else what that answers on the context with
  -- the text; or memory is out
  abbrev pub FramesTextBy : Option (Bor (List ℕ)) → Val → Result (String Global) PageFault
      → Result (String Global) PageFault → Type 0
  FramesTextBy layout context (Err fault) result = result ≡ Err fault
  FramesTextBy None context (Ok text) result = result ≡ Ok text
  FramesTextBy (Some layout) context (Ok text) result = ((v : Val) × IsContentValue context (string_bytes text) v
      × IsHeldTextBy layout.now v result) ⊎ IsMemoryOut result

-- this holds of the value that the page of an item is rendered on
abbrev pub OnItem : Entries → Val → (Val → Type 0) → Type 0
OnItem others item Holds = (v : Val) × IsItemValue others item v × Holds v

module _ (world : World) where
  -- bytes are written under a name, after what was written before; or the file of that name may hold them already
  abbrev pub Puts : List ℕ → List ℕ → Log → Log → Type 0
  Puts path bytes old new = Grows old new (written_as path bytes ∷ []) ⊎ (world.holds path bytes × (new ≡ old))

  -- the page of a file that is no template: its bytes
  abbrev pub PutsCopy : Build → List ℕ → Log → Log → Type 0
  PutsCopy asked path old new = (bytes : List ℕ) × world.holds (joined_path asked.source.now path) bytes
      × Puts (joined_path asked.out.now path) bytes old new

module _ (world : World) (e : Texts) (table : Table) where
  -- the page of an item: its name and its text are what both templates mean on the item's value
  abbrev pub PutsItem : Each → Entries → Value → Log → Log → Type 0
  PutsItem asked others item old new = (name : List ℕ) × (text : List ℕ)
      × OnItem others (view item) (λ v. SourceMeans e table asked.name.now v name)
      × OnItem others (view item) (λ v. NamedMeans e table asked.page.now v text)
      × Puts world (joined_path asked.out.now name) text old new

  -- the page of a template's file: what its text means on the context, in the layout
  abbrev pub PutsRendered : Build → Val → List ℕ → List ℕ → Log → Log → Type 0
  PutsRendered asked context path name old new = (source : List ℕ) × (text : List ℕ) × (whole : List ℕ)
      × world.holds (joined_path asked.source.now path) source × SourceMeans e table source context text
      × Framed e table asked.layout context text whole × Puts world (joined_path asked.out.now name) whole old new

  -- the page of a file: a template's if its path has the extension of templates
  abbrev pub PutsBy : Option (List ℕ) → Build → Val → List ℕ → Log → Log → Type 0
  PutsBy None asked context path old new = PutsCopy world asked path old new
  PutsBy (Some name) asked context path old new = PutsRendered asked context path name old new

  -- so of a file that a folder lists
  abbrev pub PutsFile : Build → Val → String Global × Option ReadFault → Log → Log → Type 0
  PutsFile asked context file old new =
      PutsBy (page_name (string_bytes file.0)) asked context (string_bytes file.0) old new

  -- The page of an item ends: its name is what the template of names answers on the item's value, and it ends by what
  -- the other template answers on it. That is written under the name; or the page fails, for the fault that is answered
  -- or as it is not written, and nothing is written.
  abbrev pub EndsItem : Each → Entries → Value → DonePage → Log → Log → Type 0
  EndsItem asked others item page old new = (text : Result (String Global) PageFault)
      × IsItemAnswer (IsSourceTextBy asked.limits e table asked.name.now) others (view item) (Ok page.name)
      × IsItemAnswer (IsHeldTextBy asked.limits e table asked.page.now) others (view item) text
      × PageEndsBy world (joined_path asked.out.now (string_bytes page.name)) text page.end old new

  -- The page of a template's file ends by what the text that the file holds answers on the context, in the layout; or
  -- the file is not read.
  abbrev pub EndsRendered : Build → Val → List ℕ → List ℕ → PageEnd → Log → Log → Type 0
  EndsRendered asked context path name end old new = ((source : String Global)
      × (text : Result (String Global) PageFault) × (whole : Result (String Global) PageFault)
      × world.holds (joined_path asked.source.now path) (string_bytes source)
      × IsSourceTextBy asked.limits e table (string_bytes source) context text
      × FramesTextBy asked.limits e table asked.layout context text whole
      × PageEndsBy world (joined_path asked.out.now name) whole end old new)
      ⊎ IsUnreadPage world (joined_path asked.source.now path) end old new

  -- the page of a file ends: a template's if its path has the extension of templates
  abbrev pub EndsByName : Option (List ℕ) → Build → Val → List ℕ → PageEnd → Log → Log → Type 0
  EndsByName None asked context path end old new = EndsOfCopy world path asked end old new
  EndsByName (Some name) asked context path end old new = EndsRendered asked context path name end old new

  -- so of a file that a folder lists; if it is known why it can't be read, its page fails for that
  abbrev pub EndsFile : Build → Val → String Global × Option ReadFault → DonePage → Log → Log → Type 0
  EndsFile asked context file page old new =
      (string_bytes page.name ≡ unwrap_or (page_name (string_bytes file.0)) (string_bytes file.0))
      × MatchOption file.1
      (EndsByName (page_name (string_bytes file.0)) asked context (string_bytes file.0) page.end old new)
      (λ fault. (page.end ≡ Failed (Unread fault)) × (new ≡ old))

-- each of some things is done, one after the other
abbrev pub InOrder : {A : Type 0} → (A → Log → Log → Type 0) → List A → Log → Log → Type 0
InOrder R [] old new = new ≡ old
InOrder R (x ∷ xs) old new = (next : Log) × R x old next × InOrder R xs next new
