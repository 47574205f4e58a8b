-- Where the text of a page goes.
use Rattle.std.proofs.Common.{◌≡◌, ℕ, List, [], ◌∷◌, ◌++◌, Bool, true, false, not, Option, Some, None, Result, Ok, Err, IfSome, ap, subst, ◌∙◌}
use Rattle.std.specs.Io.KnownBytes.{Appends}
use Rattle.upon_types.specs.declared.error.Error.{Error}
use Rattle.upon_types.specs.Tree.{Statements}
use Rattle.upon_types.specs.Val.{Val}
use Rattle.upon_types.specs.View.{view}
use Rattle.upon_language_spec.specs.Grammar.{HasTree}
use Rattle.upon_meaning_spec.specs.Engine.{Table}
use Rattle.upon_vm.specs.Limits.{is_limited}
use Rattle.upon_vm.specs.declared.limits.Limits.{Limits}
use Rattle.upon_engine.specs.Texts.{Stored, Texts}
use Rattle.upon_engine.specs.Theorem.{IsTable, meaning}
use Rattle.upon_tool_io.specs.Written.{written_as, Adds, Log, Written}
use Rattle.upon_tool_messages.specs.Status.{tool_end_status}
use Rattle.upon_tool_messages.specs.declared.failure.Failure.{Failure}
use Rattle.upon_tool_messages.specs.declared.failure.Failure.TheVariants.{Unreadable, NotText, Data, Unwritable, Fault}
use Rattle.upon_tool_pages.specs.Rendering.{SendsIf, SendsPage, SendsWhole}
use Rattle.upon_tool_pages.specs.declared.rendering.Page.{Page}
use Rattle.upon_tool.specs.ByTable.{SendsBy, SendsIfBy}
use Rattle.upon_tool.specs.Work.{FilesPage, SendsToFile}

-- an output that is a file is not standard output
pub no_file : (b : Bool) → true ≡ not b → b ≡ true → ⊥
no_file true not_true is = absurd cc
no_file false not_true is = absurd cc

-- and one that is not is
pub no_output : (b : Bool) → false ≡ not b → b ≡ false → ⊥
no_output true not_true is = absurd cc
no_output false not_true is = absurd cc

-- what is sent to a file of one name
abbrev SendsOn : Texts → Page → List ℕ → Result (Unit {0}) Failure → Log → Log → Type 0
SendsOn e page path end was now = (held : Stored) (tree : Statements) → e.texts page.name.now ≡ Some held
    → ∥ HasTree held.syntax held.text tree ∥₁
    → SendsToFile (λ r first last. SendsPage page.limits e (Some page.name.now) held.text tree (view page.value.now) r first last) path end was now

pub filed_so : (e : Texts) (page : Page) (path name : List ℕ) (status : ℕ) (end : Result (Unit {0}) Failure) (was now : Log) → path ≡ name → status ≡ tool_end_status end → SendsOn e page path end was now → FilesPage e page name status was now
filed_so e page path name status end was now same is sends = λ held tree there has. (end, is, subst (λ path. SendsOn e page path end was now) same sends held tree there has)

-- what is added after nothing was written
pub added_after : (contents : Option (List ℕ)) (path : List ℕ) (was mid now : Log) → mid ≡ was → Adds contents path mid now → Adds contents path was now
added_after contents path was mid now same = subst (λ log. Adds contents path log now) same

-- a rendering to a new file failed, and that is removed
pub none_sent : (Sent : Result (Unit {0}) Error → Option (List ℕ) → Option (List ℕ) → Type 0) (path : List ℕ) (first last : Option (List ℕ)) (was mid now : Log) (f : Failure) → IfSome was (λ known. first ≡ Some []) → mid ≡ was → now ≡ mid
    → SendsWhole (λ r. Sent r first last) (Err f) → SendsToFile Sent path (Err f) was now
none_sent Sent path first last was mid now (Fault error) start same kept sent = (kept ∙ same, first, last, start, sent)
none_sent Sent path first last was mid now (Data fault) start same kept sent = absurd sent
none_sent Sent path first last was mid now (Unreadable name error) start same kept sent = absurd sent
none_sent Sent path first last was mid now (NotText name) start same kept sent = absurd sent
none_sent Sent path first last was mid now (Unwritable name error) start same kept sent = absurd sent

-- ---- what is sent, by a table of the texts that are held
module _ (limits : Limits) (e : Texts) (name text : List ℕ) (tree : Statements) (v : Val) (table : Table) (is : IsTable e.texts table) where
  sends_if : (limited : Bool) (r : Result (Unit {0}) Error) (old new : Option (List ℕ)) → SendsIf limited limits e (Some name) text tree v r old new → SendsIfBy limited limits e table (Some name) text tree v r old new
  sends_if false r old new sends = sends table is
  sends_if true r old new sends = sends table is

  pub sent_by : (end : Result (Unit {0}) Failure) (old new : Option (List ℕ)) → SendsWhole (λ r. SendsPage limits e (Some name) text tree v r old new) end → SendsWhole (λ r. SendsBy limits e table (Some name) text tree v r old new) end
  sent_by (Ok u) old new sends = sends_if (is_limited limits) (Ok tt) old new sends
  sent_by (Err (Fault error)) old new sends = sends_if (is_limited limits) (Err error) old new sends
  sent_by (Err (Data fault)) old new sends = absurd sends
  sent_by (Err (Unreadable file error)) old new sends = absurd sends
  sent_by (Err (NotText file)) old new sends = absurd sends
  sent_by (Err (Unwritable file error)) old new sends = absurd sends

  pub filed_by : (path : List ℕ) (end : Result (Unit {0}) Failure) (was now : Log) → SendsToFile (λ r first last. SendsPage limits e (Some name) text tree v r first last) path end was now → SendsToFile (λ r first last. SendsBy limits e table (Some name) text tree v r first last) path end was now
  filed_by path (Ok u) was now (first, last, start, sent, adds) = (first, last, start, sends_if (is_limited limits) (Ok tt) first last sent, adds)
  filed_by path (Err (Fault error)) was now (kept, first, last, start, sent) = (kept, first, last, start, sends_if (is_limited limits) (Err error) first last sent)
  filed_by path (Err (Unwritable file error)) was now sends = sends
  filed_by path (Err (Data fault)) was now sends = absurd sends
  filed_by path (Err (Unreadable file error)) was now sends = absurd sends
  filed_by path (Err (NotText file)) was now sends = absurd sends

-- ---- what is written of it, if it is known what was written before
appended : (first last : Option (List ℕ)) (bytes : List ℕ) → first ≡ Some [] → Appends first last bytes → last ≡ Some bytes
appended None last bytes is more = absurd cc
appended (Some xs) None bytes is more = absurd more
appended (Some xs) (Some ys) bytes is more = let none : xs ≡ [] = cc in ap Some (more ∙ ap (λ xs. xs ++ bytes) none)

grown : (path bytes : List ℕ) (was : List Written) (now : Log) → Adds (Some bytes) path (Some was) now → now ≡ Some (was ++ (written_as path bytes ∷ []))
grown path bytes was None adds = absurd adds
grown path bytes was (Some all) adds = ap Some adds

-- the whole text was received
received : (limited : Bool) (limits : Limits) (e : Texts) (table : Table) (name : Option (List ℕ)) (text : List ℕ) (tree : Statements) (v : Val) (old new : Option (List ℕ)) → SendsIfBy limited limits e table name text tree v (Ok tt) old new → Appends old new (meaning e table name text tree v).text
received false limits e table name text tree v old new (end, more) = more
received true limits e table name text tree v old new (end, more, fits) = more

pub written_by : (limits : Limits) (e : Texts) (name text : List ℕ) (tree : Statements) (v : Val) (table : Table) (path : List ℕ) (end : Result (Unit {0}) Failure) (was : List Written) (now : Log) → 0 ≡ tool_end_status end
    → SendsToFile (λ r first last. SendsBy limits e table (Some name) text tree v r first last) path end (Some was) now → now ≡ Some (was ++ (written_as path (meaning e table (Some name) text tree v).text ∷ []))
written_by limits e name text tree v table path (Ok u) was now well (first, last, start, sent, adds) =
    let more = received (is_limited limits) limits e table (Some name) text tree v first last sent in
    grown path (meaning e table (Some name) text tree v).text was now (subst (λ last. Adds last path (Some was) now) (appended first last (meaning e table (Some name) text tree v).text start more) adds)
written_by limits e name text tree v table path (Err (Fault error)) was now well sends = absurd cc
written_by limits e name text tree v table path (Err (Unwritable file error)) was now well sends = absurd cc
written_by limits e name text tree v table path (Err (Data fault)) was now well sends = absurd sends
written_by limits e name text tree v table path (Err (Unreadable file error)) was now well sends = absurd sends
written_by limits e name text tree v table path (Err (NotText file)) was now well sends = absurd sends
