-- A file that ends on each value of a shape, over the texts of a folder.
use Rattle.std.proofs.Common.{arith, ◌≡◌, ◌∙◌, ◌∷◌, ◌++◌, [], ℕ, List, Bool, Bor, Option, ap, subst}
use Rattle.std.specs.List.{All}
use Rattle.std.proofs.lemmas.List.{map-append}
use Rattle.upon_shape_spec.specs.Shape.{Shape}
use Rattle.upon_needs.specs.Names.{texts}
use Rattle.upon_calls.specs.Asked.{Asked}
use Rattle.upon_calls.specs.Contexts.{EndsOnEach}
use Rattle.upon_calls.specs.Filled.{filled}
use Rattle.upon_calls.specs.Rendering.{EachHasTree}
use Rattle.upon_calls.specs.Templates.{lent_pairs}
use Rattle.upon_tool_io.specs.declared.arguments.Escape.{Escape}
use Rattle.upon_tool_pages.specs.Fitting.{asked_of, FileFits}

-- the texts of a folder and one more, as they are lent
one_after : (folder : List (Bor (List ℕ) × Bor (List ℕ))) (file : Bor (List ℕ) × Bor (List ℕ)) → lent_pairs (folder ++ file ∷ []) ≡ lent_pairs folder ++ (file.0.now, file.1.now) ∷ []
one_after folder file = map-append (λ pair. (pair.0.now, pair.1.now)) folder (file ∷ [])

pub file_fits : (escape : Option Escape) (standard : Bool) (asked : Asked) (folder given held : List (Bor (List ℕ) × Bor (List ℕ))) (file : Bor (List ℕ) × Bor (List ℕ)) (s : Shape) (names : List (Bor (List ℕ)))
    → asked ≡ asked_of escape standard → given ≡ held → held ≡ folder ++ file ∷ [] → names ≡ file.0 ∷ []
    → EachHasTree (filled asked (lent_pairs given)) → All (λ name. EndsOnEach (filled asked (lent_pairs given)) name s) (texts names) → FileFits escape standard (lent_pairs folder) s file.0.now file.1.now
file_fits escape standard asked folder given held file s names same lent is named trees ends =
    let one = subst (λ names. All (λ name. EndsOnEach (filled asked (lent_pairs given)) name s) (texts names)) named ends 0 [] (omega arith) in
    subst (λ sources. EachHasTree (filled (asked_of escape standard) sources) × EndsOnEach (filled (asked_of escape standard) sources) file.0.now s) (ap lent_pairs (lent ∙ is) ∙ one_after folder file)
    (subst (λ asked. EachHasTree (filled asked (lent_pairs given)) × EndsOnEach (filled asked (lent_pairs given)) file.0.now s) same (trees, one))
