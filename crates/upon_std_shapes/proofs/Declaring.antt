-- Functions declared one after the other, from the left.
use Rattle.std.proofs.Common.{◌≡◌, ℕ, ◌+◌, ◌<◌, List, [], ◌∷◌, ◌++◌, length, take, get_or, refl, sym, ap, ◌∙◌}
use Rattle.std.proofs.lemmas.List.{take_more}
use Rattle.upon_std.specs.declared.table.StandardFunction.{StandardFunction}
use Rattle.upon_std_shapes.specs.Tables.{Declarations, with_declared, with_all_declared}

after_all : (fs : List StandardFunction) (f : StandardFunction) (declared : Declarations) → with_all_declared (fs ++ f ∷ []) declared ≡ with_declared f (with_all_declared fs declared)
after_all [] f declared = refl
after_all (g ∷ fs) f declared = after_all fs f (with_declared g declared)

-- one more is declared
pub declared_more : (fs : List StandardFunction) (i : ℕ) (d : StandardFunction) (first before after : Declarations) → i < length fs
    → ((name : List ℕ) → before name ≡ with_all_declared (take i fs) first name)
    → ((name : List ℕ) → after name ≡ with_declared (get_or fs i d) before name)
    → (name : List ℕ) → after name ≡ with_all_declared (take (i + 1) fs) first name
declared_more fs i d first before after within so_far one name =
    let f = get_or fs i d in
    let was : before ≡ with_all_declared (take i fs) first = λ k n. so_far n k in
    one name ∙ ap (λ x. with_declared f x name) was
    ∙ ap (λ x. x name) (sym (after_all (take i fs) f first))
    ∙ ap (λ gs. with_all_declared gs first name) (sym (take_more fs i d within))
