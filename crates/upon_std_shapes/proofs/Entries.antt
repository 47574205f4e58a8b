-- The values of a map's entries, and what is at a key.
use Rattle.std.proofs.Common.{◌≡◌, ℕ, List, Bool, true, false, map, Option, Some, None, nat_cmp, refl, sym, ap, ◌∙◌, subst, bytes_eq, if◌then◌else◌}
use Rattle.std.proofs.lemmas.Bool.{and_parts}
use Rattle.std.proofs.lemmas.Map.Text.{is_eq-slice_cmp}
use Rattle.std.proofs.lemmas.Slice.Eq.{bytes_eq-Decides}
use Rattle.std.specs.Cmp.Lexicographic.{slice_cmp}
use Rattle.std.specs.FinMap.Entries.{below_all}
use Rattle.std.specs.List.{AllByRecursion}
use Rattle.std.specs.Ordering.{is_eq, is_lt}
use Rattle.upon_types.specs.Val.{Val, Entries, no_entries, entry_then, entry_at, entry_list, rises}
use Rattle.upon_types.proofs.Copies.{is_less}
use Rattle.upon_std.specs.Basic.Items.{value_at_key}
use Rattle.upon_shape_spec.specs.Fits.{Held, Fits}
use Rattle.upon_shape_spec.specs.Shape.{Shape, map_each, optional}
use Rattle.upon_std_shapes.proofs.OneKind.{of_map, held_or_none}

-- a key that is below all others is none of them
none_above : (k : List ℕ) (es : Entries) → below_all (slice_cmp nat_cmp) k (entry_list es) ≡ true → entry_at k es ≡ None
none_above k no_entries h = refl
none_above k (entry_then l v es) h =
    let parts = and_parts (is_lt (slice_cmp nat_cmp k l)) (below_all (slice_cmp nat_cmp) k (entry_list es)) h in
    let other : bytes_eq k l ≡ false = sym (is_eq-slice_cmp k l) ∙ ap is_eq (is_less (slice_cmp nat_cmp k l) parts.0) in
    ap (λ b. if b then Some v else entry_at k es) other ∙ none_above k es parts.1

held_beside : (P : Val → Type 0) (b : Bool) (v : Val) (o : Option Val) → (b ≡ true → o ≡ None) → Held false P (if b then Some v else o) → Held false P o
held_beside P true v o none h = subst (Held false P) (sym (none refl)) tt
held_beside P false v o none h = h

pub values_fit : (P : Val → Type 0) (es : Entries) → rises es ≡ true → ((key : List ℕ) → Held false P (entry_at key es)) → AllByRecursion P (map (λ e. e.1) (entry_list es))
values_fit P no_entries rise h = tt
values_fit P (entry_then k v es) rise h =
    let parts = and_parts (below_all (slice_cmp nat_cmp) k (entry_list es)) (rises es) rise in
    let same : bytes_eq k k ≡ true = (bytes_eq-Decides k k).1 refl in (
      subst (λ (b : Bool). Held false P (if b then Some v else entry_at k es)) same (h k),
      values_fit P es parts.1
          (λ key. held_beside P (bytes_eq key k) v (entry_at key es)
          (λ is. ap (λ x. entry_at x es) ((bytes_eq-Decides key k).0 is) ∙ none_above k es parts.0) (h key)),
    )

-- what is at a key of a map, or none
pub at_key_fits : (s : Shape) (key : List ℕ) (v : Val) → Fits (map_each s) v → Fits (optional s) (value_at_key key v)
at_key_fits s key = of_map s (λ v. Fits (optional s) (value_at_key key v)) (λ es rise h. held_or_none s (entry_at key es) (h key))
