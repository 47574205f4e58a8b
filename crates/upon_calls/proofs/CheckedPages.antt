-- Pages that are checked: their names, and that they end on each context.
use Rattle.std.proofs.Common.{◌≡◌, ◌<◌, ◌≤◌, ◌+◌, ◌∙◌, ◌∷◌, ◌++◌, [], ℕ, List, Bor, Option, Some, Result, Ok, Err, IfOk, String, Global, string_bytes, arith, length, take, get_or, map, refl, sym, ap, subst}
use Rattle.std.specs.Prelude.{All}
use Rattle.std.proofs.lemmas.List.{take_all, take_more}
use Rattle.std.proofs.lemmas.List.Elements.{All-push, All-same}
use Rattle.upon_types.specs.Val.{Val}
use Rattle.upon_meaning_spec.specs.DefaultFormat.{formatter_or_default}
use Rattle.upon_shape_spec.specs.Declared.{Declared, KeepsDeclared}
use Rattle.upon_shape_spec.specs.Shape.{Shape}
use Rattle.upon_needs.specs.Names.{texts}
use Rattle.upon_engine.specs.Texts.{Texts}
use Rattle.upon_shape.specs.View.{shape_view}
use Rattle.upon_shape_check.specs.Callables.{declared_view}
use Rattle.upon_shape_check.specs.EndsOn.{EndsOn}
use Rattle.upon_calls.specs.Asked.{Asked}
use Rattle.upon_calls.specs.Calls.{AreRightOn}
use Rattle.upon_calls.specs.Check.{AreRight}
use Rattle.upon_calls.specs.Contexts.{checked_pages, AreThere, Contexts, EndsOnEach, PagesEndIf}
use Rattle.upon_calls.specs.Filled.{filled}
use Rattle.upon_calls.specs.Templates.{lent_pairs}
use Rattle.upon_calls.specs.Places.{IsShownOf}
use Rattle.upon_calls.specs.Rendering.{EachHasTree}
use Rattle.upon_calls.specs.Work.{IsOneUnsure, PagesFit, TellsOfPages}
use Rattle.upon_calls.specs.declared.failure.Failure.{Failure}
use Rattle.upon_calls.specs.declared.work.Pages.{Pages}
use Rattle.upon_calls.proofs.Each.{texts_pushed}

-- ---- the names of all templates
abbrev pub names_in : List (Bor (List ℕ) × Bor (List ℕ)) → List (List ℕ)
names_in sources = map (λ source. source.0) (lent_pairs sources)

names_then : (sources : List (Bor (List ℕ) × Bor (List ℕ))) (one : Bor (List ℕ) × Bor (List ℕ)) → names_in (sources ++ one ∷ []) ≡ names_in sources ++ one.0.now ∷ []
names_then [] one = refl
names_then (first ∷ rest) one = ap (λ names. first.0.now ∷ names) (names_then rest one)

pub name_more : (sources : List (Bor (List ℕ) × Bor (List ℕ))) (i : ℕ) (d : Bor (List ℕ) × Bor (List ℕ)) (old new : List (Bor (List ℕ))) (one : Bor (List ℕ)) → i < length sources → one.now ≡ (get_or sources i d).0.now → new ≡ old ++ one ∷ []
    → texts old ≡ names_in (take i sources) → texts new ≡ names_in (take (i + 1) sources)
name_more sources i d old new one inside is pushed so_far =
    texts_pushed old new one (get_or sources i d).0.now is pushed
    ∙ ap (λ names. names ++ (get_or sources i d).0.now ∷ []) so_far
    ∙ sym (names_then (take i sources) (get_or sources i d))
    ∙ ap names_in (sym (take_more sources i d inside))

pub all_named : (sources : List (Bor (List ℕ) × Bor (List ℕ))) (i : ℕ) (all : List (Bor (List ℕ))) → length sources ≤ i → texts all ≡ names_in (take i sources) → texts all ≡ names_in sources
all_named sources i all done so_far = so_far ∙ ap names_in (take_all i sources done)

-- ---- of each name so far something holds
pub name_holds : (P : List ℕ → Type 0) (names : List (Bor (List ℕ))) (i : ℕ) (d : Bor (List ℕ)) → i < length names → All P (texts (take i names)) → P (get_or names i d).now → All P (texts (take (i + 1) names))
name_holds P names i d inside so_far here =
    All-same P (texts (take (i + 1) names)) (texts (take i names) ++ (get_or names i d).now ∷ []) (texts_pushed (take i names) (take (i + 1) names) (get_or names i d) (get_or names i d).now refl (take_more names i d inside))
    (All-push P (texts (take i names)) (get_or names i d).now so_far here)

pub no_name_yet : (P : List ℕ → Type 0) (names : List (Bor (List ℕ))) → All P (texts (take 0 names))
no_name_yet P names k d inside = let no : k < 0 = inside in absurd (omega arith)

pub each_name_holds : (P : List ℕ → Type 0) (names : List (Bor (List ℕ))) (i : ℕ) → length names ≤ i → All P (texts (take i names)) → All P (texts names)
each_name_holds P names i done so_far = subst (λ names. All P (texts names)) (take_all i names done) so_far

-- ---- they end
pub each_ends : (e : Texts) (declared : Declared) (s : Shape) (names : List (List ℕ)) → KeepsDeclared declared e.callables (formatter_or_default e.default_formatter) → All (λ name. EndsOn e declared name s) names → All (λ name. EndsOnEach e name s) names
each_ends e declared s names keeps all k d inside table held tree v f is there has fits end = all k d inside table held tree v f is there has keeps fits end

-- contexts of a shape, with the names of pages
abbrev pub made : Shape → Option (List (List ℕ)) → Contexts
made s names = record { shape = s; pages = names }

pub right_on : {T : Type 0} (r : Result T Failure) (asked : Asked) (given : Option Contexts) (s : Shape) (pages : Option (List (List ℕ))) (templates : Val) (sources : List (List ℕ × List ℕ)) (names : List (List ℕ)) → given ≡ Some (made s pages)
    → AreRight asked.delimiters templates sources → AreThere pages templates → names ≡ checked_pages pages sources → IfOk r (λ text. All (λ name. EndsOnEach (filled asked sources) name s) names) → IfOk r (λ text. AreRightOn asked given templates sources)
right_on (Ok text) asked given s pages templates sources names is right there named ends = record {
  right = right;
  pages = subst (λ o. PagesEndIf o (filled asked sources) templates sources) (sym is) (record {
    there = there;
    ends = subst (All (λ name. EndsOnEach (filled asked sources) name s)) named ends;
  });
}
right_on (Err f) asked given s pages templates sources names is right there named ends = tt

-- what a text tells of pages, where each text that is held has a tree
pub tells_of : (e : Texts) (pages : Pages) (r : Result (String Global) Failure) → EachHasTree e → IfOk r (λ text. string_bytes text ≡ [] → PagesFit e pages)
    → IfOk r (λ text. (string_bytes text ≡ [] → ⊥) → IsOneUnsure e pages)
    → IfOk r (λ text. IsShownOf e (declared_view pages.declared.now) (shape_view pages.shape.now) (texts pages.names.now) (string_bytes text))
    → IfOk r (λ text. TellsOfPages e pages (string_bytes text))
tells_of e pages (Ok text) trees fits unsure shows = record { trees = trees; fits = fits; unsure = unsure; shows = shows }
tells_of e pages (Err f) trees fits unsure shows = tt
