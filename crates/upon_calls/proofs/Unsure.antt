-- Of which pages it isn't known whether they end well.
use Rattle.std.proofs.Common.{◌≡◌, ◌∙◌, ◌⊎◌, ◌<◌, arith, inl, inr, ℕ, zero, suc, List, [], ◌∷◌, Bor, Contains, Option, Some, None, Result, Ok, Err, IfErr, IsErrAnd, ap, is_some, length, get_or, string_bytes, sym, true, subst}
use Rattle.std.specs.Prelude.{IsErr, IsSomeAnd, OnOk}
use Rattle.std.proofs.lemmas.Bool.{false≢true}
use Rattle.std.proofs.lemmas.List.Elements.{All-contains, Contains-get_or}
use Rattle.std.proofs.lemmas.List.{get_or-map, length-map}
use Rattle.upon_types.specs.Val.{Val}
use Rattle.upon_types.specs.Tree.{Statements}
use Rattle.upon_language_spec.specs.Grammar.{HasTree}
use Rattle.upon_language_spec.specs.Search.{DelimiterText, HasTexts}
use Rattle.upon_language_spec.proofs.NoTreeWithFault.Fault.{no_tree_with_fault}
use Rattle.upon_meaning_spec.specs.Engine.{Table}
use Rattle.upon_shape_spec.specs.Declared.{Declared}
use Rattle.upon_shape_spec.specs.Shape.{Shape}
use Rattle.upon_needs.specs.Names.{texts}
use Rattle.upon_engine.specs.Texts.{Texts}
use Rattle.upon_engine.specs.Theorem.{IsTable}
use Rattle.upon_shape_check.specs.Doubted.{DoubtedOn, IsMissing, IsNoMemory, IsUnsureOn, misfits_view}
use Rattle.upon_shape_check.specs.declared.refusal.Refusal.{Refusal}
use Rattle.upon_shape_check.specs.declared.refusal.Refusal.TheVariants.{NoTemplate, Misfits, TooDeep, Memory}
use Rattle.upon_calls.specs.Asked.{Asked}
use Rattle.upon_calls.specs.ByTable.{NamedUnsure}
use Rattle.upon_calls.specs.Calls.{AreWrongOn}
use Rattle.upon_calls.specs.Check.{AreRight}
use Rattle.upon_calls.specs.Contexts.{checked_pages, AreThere, Contexts}
use Rattle.upon_calls.specs.Failure.{FaultyIf}
use Rattle.upon_calls.specs.Filled.{engine_for, filled}
use Rattle.upon_calls.specs.Pictures.{ShowsWrong}
use Rattle.upon_calls.specs.Places.{IsShownOf}
use Rattle.upon_calls.specs.Templates.{sources_in}
use Rattle.upon_calls.specs.Unsure.{declared_as, HasFault, IsPageUnsure}
use Rattle.upon_calls.specs.Work.{CarriedFails}
use Rattle.upon_calls.specs.declared.failure.Failure.{Failure}
use Rattle.upon_calls.specs.declared.failure.Failure.TheVariants.{Faults, Refused, NotText, OutOfMemory}
use Rattle.upon_calls.specs.declared.work.Pages.{Pages}
use Rattle.upon_calls.specs.declared.work.Work.TheVariants.{Fit}
use Rattle.upon_calls.proofs.CheckedPages.{made}
use Rattle.upon_calls.proofs.PictureTexts.{some_pretty}
use Rattle.upon_calls.proofs.Filled.{begun_syntax}
use Rattle.upon_calls.proofs.HeldTrees.{pages_held, right_trees}
use Rattle.upon_calls.proofs.Tables.{has_table, no_text_has_tree}

-- ---- one page
-- a template that is refused
pub refused_unsure : (e : Texts) (declared : Declared) (name : List ℕ) (s : Shape) (r : Refusal) → (IsNoMemory r → ⊥) → DoubtedOn e declared name s r → IsMissing e name r → IsUnsureOn e declared name s
refused_unsure e declared name s NoTemplate some doubted missing = inl missing
refused_unsure e declared name s (Misfits ms) some doubted missing = inr (inl (misfits_view ms.items, doubted))
refused_unsure e declared name s (TooDeep at place) some doubted missing = inr (inr (doubted.0, place, doubted.2))
refused_unsure e declared name s (Memory error) some doubted missing = absurd (some tt)

-- of the failure that `?` hands on
pub err_handed : {A : Type 0} (failure : Failure) (r : Result A Failure) (P : Failure → Type 0) → IsErrAnd r (λ x. x ≡ failure) → P failure → IfErr r P
err_handed failure (Ok a) P same so = absurd same
err_handed failure (Err f) P same so = subst P (sym same) so

-- what is so unless a call fails
pub unless_failed : {A E : Type 0} (r : Result A E) (N P : Type 0) → (N → IsErr r) → ((N → ⊥) → P) → OnOk r P
unless_failed (Ok a) N P fails so = so (λ n. absurd (false≢true (fails n)))
unless_failed (Err e) N P fails so = tt

-- one of some names
pub a_name : (names : List (Bor (List ℕ))) (i : ℕ) (d : Bor (List ℕ)) → i < length names → Contains (texts names) (get_or names i d).now
a_name names i d inside =
    subst (λ name. Contains (texts names) name) (get_or-map (λ (name : Bor (List ℕ)). name.now) names i d d.now inside)
    (Contains-get_or (texts names) i d.now (subst (λ n. i < n) (sym (length-map names (λ (name : Bor (List ℕ)). name.now))) inside))

-- ---- pages of a check
-- where pages get no text, a text has a fault
pub no_pages : (asked : Asked) (sources : List (List ℕ × List ℕ)) (pages : Pages) (P : List ℕ → Type 0) (f : Failure) → CarriedFails asked sources (Fit pages) f
    → FaultyIf (λ pictures. (pictures ≡ [] → ⊥) × (P pictures ⊎ HasFault asked sources)) ⊥ f
no_pages asked sources pages P (Faults pictures) said =
    elim said.3 [
      | inl first ↦ (λ none. some_pretty said.0 (sym said.2 ∙ none), inr (said.0, first))
      | inr none ↦ absurd none
    ]
no_pages asked sources pages P (Refused argument reason) said = absurd said.1
no_pages asked sources pages P (NotText argument) said = absurd said
no_pages asked sources pages P OutOfMemory said = tt

tree_at : (delimiters : List DelimiterText) (templates : Val) (ss : List (List ℕ × List ℕ)) (k : ℕ) (d : List ℕ × List ℕ) → AreRight delimiters templates ss → k < length ss → (tree : Statements) × HasTree delimiters (get_or ss k d).1 tree
tree_at delimiters templates [] k d right inside = absurd (omega arith)
tree_at delimiters templates (s ∷ ss) zero d right inside = (right.0.0, right.0.1)
tree_at delimiters templates (s ∷ ss) (suc k) d right inside = tree_at delimiters templates ss k d right.1 (omega arith)

-- where templates are right, no text has a fault
no_fault : (asked : Asked) (templates : Val) (sources : List (List ℕ × List ℕ)) → HasTexts asked.delimiters → AreRight asked.delimiters templates sources → HasFault asked sources → ⊥
no_fault asked templates sources has right fault =
    let first = fault.1 in
    let P : List ℕ × List ℕ → Type 0 = λ s. (tree : Statements) × HasTree asked.delimiters s.1 tree in
    let it = All-contains P sources first.0 (λ k d inside. tree_at asked.delimiters templates sources k d right inside) first.1 in
    no_tree_with_fault asked.delimiters first.0.1 first.2.0 first.2.1 it.0 has first.2.2 it.1

pub doubt_shown : {T : Type 0} (r : Result T Failure) (asked : Asked) (given : Option Contexts) (s : Shape) (pages : Option (List (List ℕ))) (templates : Val) (sources : List (List ℕ × List ℕ)) (names : List (List ℕ)) (Lacks : Type 0) → HasTexts asked.delimiters → given ≡ Some (made s pages)
    → AreRight asked.delimiters templates sources → AreThere pages templates → names ≡ checked_pages pages sources
    → IfErr r (FaultyIf (λ pictures. (pictures ≡ [] → ⊥) × ((IsPageUnsure asked sources s names × IsShownOf (filled asked sources) (declared_as asked) s names pictures) ⊎ HasFault asked sources)) ⊥) → IfErr r (FaultyIf (AreWrongOn asked given templates sources) Lacks)
doubt_shown (Ok x) asked given s pages templates sources names Lacks has is right there named said = tt
doubt_shown (Err (Faults pictures)) asked given s pages templates sources names Lacks has is right there named said =
    let both : IsPageUnsure asked sources s names × IsShownOf (filled asked sources) (declared_as asked) s names (string_bytes pictures) = elim said.1 [ inl doubt ↦ doubt | inr fault ↦ absurd (no_fault asked templates sources has right fault) ] in
    inr (record {
      right = right;
      there = subst (λ o. IsSomeAnd o (λ given. AreThere given.pages templates)) (sym is) there;
      unsure = subst (λ o. IsSomeAnd o (λ given. IsPageUnsure asked sources given.shape (checked_pages given.pages sources))) (sym is) (subst (IsPageUnsure asked sources s) named both.0);
      shows = subst (λ o. IsSomeAnd o (λ given. IsShownOf (filled asked sources) (declared_as asked) given.shape (checked_pages given.pages sources) (string_bytes pictures))) (sym is)
          (subst (λ (names : List (List ℕ)). IsShownOf (filled asked sources) (declared_as asked) s names (string_bytes pictures)) named both.1);
      some = said.0;
    })
doubt_shown (Err (Refused argument reason)) asked given s pages templates sources names Lacks has is right there named said = absurd said.1
doubt_shown (Err (NotText argument)) asked given s pages templates sources names Lacks has is right there named said = absurd said
doubt_shown (Err OutOfMemory) asked given s pages templates sources names Lacks has is right there named said = tt

-- ---- by a table
named_unsure : (e : Texts) (declared : Declared) (table : Table) (name : List ℕ) (s : Shape) → IsTable e.texts table → is_some (e.texts name) ≡ true → IsUnsureOn e declared name s → NamedUnsure declared table name s
named_unsure e declared table name s is held (inl none) = absurd (false≢true (sym (ap is_some none) ∙ held))
named_unsure e declared table name s is held (inr (inl doubts)) = inl (doubts.0, doubts.1 table is)
named_unsure e declared table name s is held (inr (inr deep)) =
    let it = deep.2 table is in
    inr (deep.0, deep.1, it.0, it.1)

pub page_by_table : (asked : Asked) (contexts : Option Contexts) (v : Val) (sources : List (List ℕ × List ℕ)) (table : Table) → sources_in v ≡ Some sources → IsTable (filled asked sources).texts table
    → IsSomeAnd contexts (λ given. AreThere given.pages v) → IsSomeAnd contexts (λ given. IsPageUnsure asked sources given.shape (checked_pages given.pages sources))
    → IsSomeAnd contexts (λ given. (name : List ℕ) × Contains (checked_pages given.pages sources) name × NamedUnsure (declared_as asked) table name given.shape)
page_by_table asked None v sources table are is there unsure = unsure
page_by_table asked (Some given) v sources table are is there unsure =
    let held = All-contains (λ name. is_some ((filled asked sources).texts name) ≡ true) (checked_pages given.pages sources) unsure.0 (pages_held given.pages v sources (engine_for asked) are there) unsure.1 in
    (unsure.0, unsure.1, named_unsure (filled asked sources) (declared_as asked) table unsure.0 given.shape is held unsure.2)

-- ---- what a call shows
pub shown_or_unsure : (asked : Asked) (contexts : Option Contexts) (v : Val) (sources : List (List ℕ × List ℕ)) (text : List ℕ) → sources_in v ≡ Some sources → AreWrongOn asked contexts v sources text
    → ShowsWrong asked.delimiters v sources text ⊎ ((table : Table) × IsTable (filled asked sources).texts table
    × IsSomeAnd contexts (λ given. (name : List ℕ) × Contains (checked_pages given.pages sources) name × NamedUnsure (declared_as asked) table name given.shape))
shown_or_unsure asked contexts v sources text are (inl shows) = inl shows
shown_or_unsure asked contexts v sources text are (inr doubt) =
    let each = right_trees asked.delimiters v sources (engine_for asked) (begun_syntax asked) (no_text_has_tree asked) doubt.right in
    let it = has_table (filled asked sources) each in
    inr (it.0, it.1, page_by_table asked contexts v sources it.0 are it.1 doubt.there doubt.unsure)
