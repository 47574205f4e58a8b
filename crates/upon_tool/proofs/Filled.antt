-- What an engine holds as it is filled, and what is shown of it.
use Rattle.std.proofs.Common.{◌≡◌, ◌≤◌, ◌∙◌, ◌∷◌, [], ℕ, List, length, take, Bool, Bor, Option, Some, None, Result, Ok, Err, IfErr, IfOk, IsErrAnd, IsSomeAnd, OnErr, String, Global, string_bytes, refl, sym, ap, subst, inl, inr, true, false}
use Rattle.std.specs.Io.KnownBytes.{Appends}
use Rattle.std.specs.Str.{bytes_eq}
use Rattle.std.proofs.lemmas.List.{take_all}
use Rattle.std.proofs.lemmas.Map.{update_same}
use Rattle.std.proofs.lemmas.Slice.Eq.{bytes_eq-Decides}
use Rattle.upon_types.specs.Error.{fault_of}
use Rattle.upon_types.specs.Fault.{syntax}
use Rattle.upon_types.specs.Tree.{Statements}
use Rattle.upon_types.specs.Val.{Val}
use Rattle.upon_types.specs.declared.error.Error.{Error}
use Rattle.upon_language_spec.specs.DefaultDelimiters.{default_delimiters}
use Rattle.upon_language_spec.specs.Grammar.{HasTree}
use Rattle.upon_meaning_spec.specs.Engine.{Table, Template}
use Rattle.upon_vm.specs.declared.limits.Limits.{Limits}
use Rattle.upon_engine.specs.Changes.{unless_refused, with_text}
use Rattle.upon_engine.specs.Faults.{IsSyntaxErrorOf}
use Rattle.upon_engine.specs.Texts.{Stored, Texts}
use Rattle.upon_engine.specs.Theorem.{IsTable}
use Rattle.upon_needs.specs.declared.needs.Needs.{Needs}
use Rattle.upon_tool_io.specs.declared.files.ReadFault.{ReadFault}
use Rattle.upon_tool_io.specs.declared.arguments.Escape.{Escape}
use Rattle.upon_tool_messages.specs.Library.{IsOfAdded}
use Rattle.upon_tool_messages.specs.Status.{tool_end_status}
use Rattle.upon_tool_messages.specs.declared.failure.Failure.{Failure}
use Rattle.upon_tool_messages.specs.declared.failure.Failure.TheVariants.{Fault}
use Rattle.upon_tool_messages.specs.declared.library.Refusal.{Refusal}
use Rattle.upon_calls.specs.Filled.{escaping_engine, with_functions}
use Rattle.upon_calls.specs.Names.{NeededBy}
use Rattle.upon_calls.proofs.Filled.{functions_syntax}
use Rattle.upon_calls.specs.declared.escaping.Language.{Language}
use Rattle.upon_tool_pages.specs.Fitting.{language_for}
use Rattle.upon_std.specs.declared.table.StandardFunction.{StandardFunction}
use Rattle.upon_tool.specs.Names.{needs_text}
use Rattle.upon_tool_pages.specs.Rendering.{SendsPage, SendsWhole, StaysWithin}
use Rattle.upon_calls.specs.Rendering.{EachHasTree}
use Rattle.upon_tool.specs.Filled.{tool_engine, with_page, TakesFiles, TakesRead, TakesText}
use Rattle.upon_tool_io.specs.World.{World}
use Rattle.upon_tool_io.specs.Written.{Log}
use Rattle.upon_tool_pages.specs.Rendering.{ShowsPage}
use Rattle.upon_tool_pages.specs.declared.rendering.Page.{Page}
use Rattle.upon_tool.specs.Work.{output_name, to_standard, FilesPage, ListsNames, RefusesWork, SendsToFile, Works}
use Rattle.upon_tool_pages.specs.declared.sources.FolderFile.{FolderFile}
use Rattle.upon_tool.specs.declared.work.Templates.{Templates}
use Rattle.upon_tool.specs.declared.work.Work.{Work}
use Rattle.upon_tool.specs.declared.work.Work.TheVariants.{Names, Render}
use Rattle.upon_tool.proofs.Taken.{taken}

-- ---- the delimiters stay
text_syntax : (name text : List ℕ) (old new : Texts) → TakesText name text old new → new.syntax ≡ old.syntax
text_syntax name text old new (inl is) = ap (λ e. e.syntax) is
text_syntax name text old new (inr said) = ap (λ e. e.syntax) said.1

read_syntax : (name : List ℕ) (read : Result (String Global) ReadFault) (old new : Texts) → TakesRead name read old new → new.syntax ≡ old.syntax
read_syntax name (Ok text) old new takes = text_syntax name (string_bytes text) old new takes
read_syntax name (Err fault) old new is = ap (λ e. e.syntax) is

pub takes_syntax : (files : List FolderFile) (old new : Texts) → TakesFiles files old new → new.syntax ≡ old.syntax
takes_syntax [] old new is = ap (λ e. e.syntax) is
takes_syntax (file ∷ files) old new takes = takes_syntax files takes.0 new takes.2 ∙ read_syntax (string_bytes file.name) file.read old takes.0 takes.1

escaping_syntax : (escape : Option Language) → (escaping_engine escape).syntax ≡ default_delimiters
escaping_syntax None = refl
escaping_syntax (Some language) = refl

pub begun_syntax : (escape : Option Escape) (functions : List StandardFunction) → (tool_engine escape functions).syntax ≡ default_delimiters
begun_syntax escape functions = functions_syntax functions (escaping_engine (language_for escape)) ∙ escaping_syntax (language_for escape)

-- ---- what is shown
-- a page of this name is shown on this value
abbrev ShowsOn : Texts → List ℕ → Val → Limits → ℕ → Option (List ℕ) → Option (List ℕ) → Type 0
ShowsOn e name v limits status old new = (held : Stored) (tree : Statements) → e.texts name ≡ Some held
    → ∥ HasTree held.syntax held.text tree ∥₁
    → (end : Result (Unit {0}) Failure) × (status ≡ tool_end_status end)
    × SendsWhole (λ r. SendsPage limits e (Some name) held.text tree v r old new) end × StaysWithin limits.output old new

-- the text of a page that an engine was given last
pub page_shown : (escape : Option Escape) (functions : List StandardFunction) (files : List FolderFile) (folder e : Texts) (name : List ℕ) (v : Val) (given limits : Limits) (text : List ℕ) (status : ℕ) (old new : Option (List ℕ)) → TakesFiles files (tool_engine escape functions) folder
    → e ≡ with_text name text folder → EachHasTree e → given ≡ limits → ShowsOn e name v given status old new
    → (tree : Statements) × ∥ HasTree default_delimiters text tree ∥₁
    × ((end : Result (Unit {0}) Failure) × (status ≡ tool_end_status end) × SendsWhole (λ r. SendsPage limits (with_text name text folder) (Some name) text tree v r old new) end
    × StaysWithin limits.output old new)
page_shown escape functions files folder e name v given limits text status old new takes is each same shows =
    let filled : Texts = with_text name text folder in
    let held : Stored = record { text = text; syntax = folder.syntax } in
    let there : filled.texts name ≡ Some held = update_same bytes_eq folder.texts name (Some held) name ((bytes_eq-Decides name name).1 refl) in
    let has = subst EachHasTree is each name held there in
    let said = subst (λ e. ShowsOn e name v given status old new) is shows held has.0 there has.1 in (
      has.0,
      subst (λ d. ∥ HasTree d text has.0 ∥₁) (takes_syntax files (tool_engine escape functions) folder takes ∙ begun_syntax escape functions) has.1,
      subst (λ limits. (end : Result (Unit {0}) Failure) × (status ≡ tool_end_status end) × SendsWhole (λ r. SendsPage limits filled (Some name) text has.0 v r old new) end × StaysWithin limits.output old new) same said,
    )

-- ---- what is written
-- a page of this name is rendered on this value to the file of a path
abbrev FilesOn : Texts → List ℕ → Val → Limits → List ℕ → ℕ → Log → Log → Type 0
FilesOn e name v limits path status was now = (held : Stored) (tree : Statements) → e.texts name ≡ Some held
    → ∥ HasTree held.syntax held.text tree ∥₁
    → (end : Result (Unit {0}) Failure) × (status ≡ tool_end_status end)
    × SendsToFile (λ r first last. SendsPage limits e (Some name) held.text tree v r first last) path end was now

-- the text of a page that an engine was given last
pub page_filed : (escape : Option Escape) (functions : List StandardFunction) (files : List FolderFile) (folder e : Texts) (name : List ℕ) (v : Val) (given limits : Limits) (text path : List ℕ) (status : ℕ) (was now : Log) → TakesFiles files (tool_engine escape functions) folder
    → e ≡ with_text name text folder → EachHasTree e → given ≡ limits → FilesOn e name v given path status was now
    → (tree : Statements) × ∥ HasTree default_delimiters text tree ∥₁
    × ((end : Result (Unit {0}) Failure) × (status ≡ tool_end_status end) × SendsToFile (λ r first last. SendsPage limits (with_text name text folder) (Some name) text tree v r first last) path end was now)
page_filed escape functions files folder e name v given limits text path status was now takes is each same files_page =
    let filled : Texts = with_text name text folder in
    let held : Stored = record { text = text; syntax = folder.syntax } in
    let there : filled.texts name ≡ Some held = update_same bytes_eq folder.texts name (Some held) name ((bytes_eq-Decides name name).1 refl) in
    let has = subst EachHasTree is each name held there in
    let said = subst (λ e. FilesOn e name v given path status was now) is files_page held has.0 there has.1 in (
      has.0,
      subst (λ d. ∥ HasTree d text has.0 ∥₁) (takes_syntax files (tool_engine escape functions) folder takes ∙ begun_syntax escape functions) has.1,
      subst (λ limits. (end : Result (Unit {0}) Failure) × (status ≡ tool_end_status end) × SendsToFile (λ r first last. SendsPage limits filled (Some name) text has.0 v r first last) path end was now) same said,
    )

-- ---- what is listed
pub listed : (e : Texts) (name : List ℕ) (json : Bool) (status : ℕ) (old new : Option (List ℕ)) (mine : Table) → IsTable e.texts mine → (table : Table) × IsTable e.texts table × ((other : Table) → IsTable e.texts other → other ≡ table)
    → ((t : Template) → mine name ≡ Some t → status ≡ 0 → (needs : Needs) × NeededBy mine t.tree needs × Appends old new (needs_text json needs))
    → ListsNames e name json status old new
listed e name json status old new mine is_mine one lists table t is there zero =
    let same : mine ≡ table = one.2 mine is_mine ∙ sym (one.2 table is) in
    subst (λ table. (needs : Needs) × NeededBy table t.tree needs × Appends old new (needs_text json needs)) same (lists t (ap (λ table. table name) same ∙ there) zero)

pub work_listed : (world : World) (work : Work) (name : Bor (List ℕ)) (json : Bool) (e : Texts) (input : Option (List ℕ)) (status : ℕ) (old new : Option (List ℕ)) (was : Log) → work ≡ Names name json → ListsNames e name.now json status old new
    → Works world work e input status old new was was
work_listed world work name json e input status old new was is lists = subst (λ w. Works world w e input status old new was was) (sym is) (refl, lists)

-- a page is rendered
pub work_rendered : (world : World) (work : Work) (page : Bor Page) (path : Option (Bor (List ℕ))) (e : Texts) (input : Option (List ℕ)) (status : ℕ) (old new : Option (List ℕ)) (was now : Log) → work ≡ Render page path
    → (to_standard path ≡ true → (now ≡ was) × ShowsPage e page.now status old new) → (to_standard path ≡ false → (new ≡ old) × FilesPage e page.now (output_name path) status was now) → Works world work e input status old new was now
work_rendered world work page path e input status old new was now is shown filed = subst (λ w. Works world w e input status old new was now) (sym is) (shown, filed)

-- work that was moved is the same work
pub work_kept : (world : World) (work same : Work) (e : Texts) (input : Option (List ℕ)) (status : ℕ) (old new : Option (List ℕ)) (was now : Log) → same ≡ work → Works world same e input status old new was now → Works world work e input status old new was now
work_kept world work same e input status old new was now is works = subst (λ work. Works world work e input status old new was now) is works

-- ---- how an engine is filled
-- its functions
pub all_added : (functions : List StandardFunction) (i : ℕ) (escape : Option Escape) (first e : Texts) → length functions ≤ i → e ≡ with_functions (take i functions) first → first ≡ escaping_engine (language_for escape) → e ≡ tool_engine escape functions
all_added functions i escape first e done is begun =
    is
    ∙ ap (λ fs. with_functions fs first) (take_all i functions done)
    ∙ ap (with_functions functions) begun

-- a file of the folder
pub read_taken : {F : Type 0} (key name : List ℕ) (read : Result (String Global) ReadFault) (text : String Global) (old after next : Texts) (added : Result (Unit {0}) Error) (q : Result (Option Refusal) F) (r : Option Refusal) → key ≡ name → read ≡ Ok text → next ≡ after → q ≡ Ok r → IsOfAdded added q
    → after ≡ unless_refused added (with_text key (string_bytes text)) old → IfErr added (IsSyntaxErrorOf key old.syntax (string_bytes text))
    → IfErr added (λ e. (fault_of e).kind ≡ syntax → (tree : Statements) → HasTree old.syntax (string_bytes text) tree → ⊥) → TakesRead name read old next
read_taken key name read text old after next added q r same is ends was of_added put faulty none =
    let takes = taken key (string_bytes text) old after added q r was of_added put faulty none in
    let here = subst (λ e. TakesText key (string_bytes text) old e) (sym ends) takes in
    subst (λ read. TakesRead name read old next) (sym is) (subst (λ key. TakesText key (string_bytes text) old next) same here)

pub read_passed : (name : List ℕ) (read : Result (String Global) ReadFault) (fault : ReadFault) (old new : Texts) → read ≡ Err fault → new ≡ old → TakesRead name read old new
read_passed name read fault old new is same = subst (λ read. TakesRead name read old new) (sym is) same

pub file_taken : (file : FolderFile) (files rest : List FolderFile) (old next e : Texts) → files ≡ file ∷ rest → TakesRead (string_bytes file.name) file.read old next → TakesFiles rest next e → TakesFiles files old e
file_taken file files rest old next e is takes others = subst (λ files. TakesFiles files old e) (sym is) (next, takes, others)

pub none_taken : (files : List FolderFile) (e : Texts) → files ≡ [] → TakesFiles files e e
none_taken files e is = subst (λ files. TakesFiles files e e) (sym is) refl

pub taken_from : (files listed : List FolderFile) (old start e : Texts) → listed ≡ files → start ≡ old → TakesFiles listed start e → TakesFiles files old e
taken_from files listed old start e same begun takes = subst (λ old. TakesFiles files old e) begun (subst (λ files. TakesFiles files start e) same takes)

-- the template over the files
pub page_put : (page : Option (Bor (List ℕ) × String Global)) (name : Bor (List ℕ)) (source : String Global) (folder e : Texts) → page ≡ Some (name, source) → e ≡ with_text name.now (string_bytes source) folder → e ≡ with_page page folder
page_put page name source folder e there is = is ∙ ap (λ page. with_page page folder) (sym there)

pub no_page : (page : Option (Bor (List ℕ) × String Global)) (folder e : Texts) → page ≡ None → e ≡ folder → e ≡ with_page page folder
no_page page folder e none is = is ∙ ap (λ page. with_page page folder) (sym none)

-- which is refused for its fault
pub page_refused : (world : World) (templates : Templates) (work : Work) (name : Bor (List ℕ)) (source : String Global) (folder : Texts) (e : Error) (r : Result ℕ Failure) → templates.page ≡ Some (name, source) → IsErrAnd r (λ f. f ≡ Fault e)
    → IsSyntaxErrorOf name.now folder.syntax (string_bytes source) e → TakesFiles templates.files.items (tool_engine templates.escape templates.functions.now) folder → IfErr r (RefusesWork world templates work)
page_refused world templates work name source folder e (Ok status) there is faulty takes = absurd is
page_refused world templates work name source folder e (Err f) there is faulty takes =
    let same = takes_syntax templates.files.items (tool_engine templates.escape templates.functions.now) folder takes ∙ begun_syntax templates.escape templates.functions.now in
    let fault = subst (λ d. IsSyntaxErrorOf name.now d (string_bytes source) e) same faulty in
    let said = subst (λ page. IsSomeAnd page (λ page. IsSyntaxErrorOf page.0.now default_delimiters (string_bytes page.1) e)) (sym there) fault in
    subst (RefusesWork world templates work) (sym is) (inr said)

-- ---- of calls
pub if_both : {A E : Type 0} (P Q : A → Type 0) (r : Result A E) → IfOk r P → IfOk r Q → IfOk r (λ a. P a × Q a)
if_both P Q (Ok a) p q = (p, q)
if_both P Q (Err e) p q = tt

pub names_listed : (e e' : Texts) (name : List ℕ) (json : Bool) (status : ℕ) (old new : Option (List ℕ)) → e ≡ e' → ListsNames e name json status old new → ListsNames e' name json status old new
names_listed e e' name json status old new is lists = subst (λ e. ListsNames e name json status old new) is lists

pub nothing_sent : {F X : Type 0} {P : ℕ → Type 0} (r : Result ℕ F) (old new : X) → IfOk r P → ((status : ℕ) → P status → new ≡ old) → OnErr r (new ≡ old) → new ≡ old
nothing_sent (Ok status) old new done so failed = so status done
nothing_sent (Err failure) old new done so failed = failed
