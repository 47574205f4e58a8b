-- Entries stay in the order of their keys as one more is put in its place, and say what is at each key.
use Rattle.std.proofs.Common.{◌≡◌, ℕ, List, ◌∷◌, Bool, true, false, Some, Less, Equal, Greater, T, nat_cmp, refl, sym, ap, subst, ◌∙◌, bytes_eq, cond, if◌then◌else◌}
use Rattle.std.specs.declared.cmp.Ordering.{Ordering}
use Rattle.std.proofs.lemmas.Cmp.{nat_list_cmp_total}
use Rattle.std.proofs.lemmas.Map.Text.{is_eq-slice_cmp}
use Rattle.std.proofs.lemmas.Slice.Eq.{bytes_eq-Decides}
use Rattle.std.specs.Cmp.Lexicographic.{slice_cmp}
use Rattle.std.specs.Ordering.{is_eq}
use Rattle.std.specs.FinMap as fin
use Rattle.std.specs.FinMap.Entries.{put, find-put, is_sorted-put}
use Rattle.std.specs.FinMap.Entries as ordered
use Rattle.upon_types.specs.Val.{Val, Entries, no_entries, entry_then, entry_at, entry_list, rises}
use Rattle.upon_types.proofs.Bindings.{one_map, entry_at-find}
use Rattle.upon_meaning_spec.specs.Entries.{by_order, with_entry}

order_is : (o : Ordering) (before same behind : Entries) → entry_list (by_order o before same behind) ≡ ordered.by_order o (entry_list before) (entry_list same) (entry_list behind)
order_is Less before same behind = refl
order_is Equal before same behind = refl
order_is Greater before same behind = refl

put_is : (key : List ℕ) (v : Val) (es : Entries) → entry_list (with_entry key v es) ≡ put (slice_cmp nat_cmp) key v (entry_list es)
put_is key v no_entries = refl
put_is key v (entry_then k w es) =
    order_is (slice_cmp nat_cmp key k) (entry_then key v (entry_then k w es)) (entry_then k v es) (entry_then k w (with_entry key v es))
    ∙ ap (λ x. ordered.by_order (slice_cmp nat_cmp key k) ((key, v) ∷ (k, w) ∷ entry_list es) ((k, v) ∷ entry_list es) ((k, w) ∷ x)) (put_is key v es)

is_true : (b : Bool) → T b → b ≡ true
is_true true h = refl
is_true false h = absurd h

-- one more keeps the order
pub rises_more : (key : List ℕ) (v : Val) (es : Entries) → rises es ≡ true → rises (with_entry key v es) ≡ true
rises_more key v es h =
    let R = slice_cmp nat_cmp in
    ap (fin.is_sorted R) (put_is key v es)
    ∙ is_true (fin.is_sorted R (put R key v (entry_list es))) (is_sorted-put R nat_list_cmp_total key v (entry_list es) (subst T (sym h) tt))

cond_is : {A : Type 0} (b : Bool) (x y : A) → cond b x y ≡ (if b then x else y)
cond_is true x y = refl
cond_is false x y = refl

-- what is at a key after one more
pub entry_more : (key other : List ℕ) (v : Val) (es : Entries) → entry_at other (with_entry key v es) ≡ (if bytes_eq other key then Some v else entry_at other es)
entry_more key other v es =
    let R = slice_cmp nat_cmp in
    entry_at-find other (with_entry key v es)
    ∙ ap (fin.find R other) (put_is key v es)
    ∙ find-put R nat_list_cmp_total other key v (entry_list es)
    ∙ cond_is (is_eq (R other key)) (Some v) (fin.find R other (entry_list es))
    ∙ ap (λ b. if b then Some v else fin.find R other (entry_list es)) (is_eq-slice_cmp other key)
    ∙ ap (λ x. if bytes_eq other key then Some v else x) (sym (entry_at-find other es))

swapped : {A : Type 0} (a b : Bool) (x y z : A) → (a ≡ true → b ≡ true → ⊥) → (if a then x else (if b then y else z)) ≡ (if b then y else (if a then x else z))
swapped true true x y z h = absurd (h refl refl)
swapped true false x y z h = refl
swapped false true x y z h = refl
swapped false false x y z h = refl

-- entries of two keys may be put in either order
pub any_order : (key other : List ℕ) (v w : Val) (es : Entries) → rises es ≡ true → (key ≡ other → ⊥) → with_entry key v (with_entry other w es) ≡ with_entry other w (with_entry key v es)
any_order key other v w es h apart =
    one_map (with_entry key v (with_entry other w es)) (with_entry other w (with_entry key v es))
    (rises_more key v (with_entry other w es) (rises_more other w es h))
    (rises_more other w (with_entry key v es) (rises_more key v es h))
    (λ name.
    entry_more key name v (with_entry other w es)
    ∙ ap (λ x. if bytes_eq name key then Some v else x) (entry_more other name w es)
    ∙ swapped (bytes_eq name key) (bytes_eq name other) (Some v) (Some w) (entry_at name es) (λ a b. apart (sym ((bytes_eq-Decides name key).0 a) ∙ (bytes_eq-Decides name other).0 b))
    ∙ ap (λ x. if bytes_eq name other then Some w else x) (sym (entry_more key name v es))
    ∙ sym (entry_more other name w (with_entry key v es)))
