-- The items of a list, as code finds them.
use Rattle.std.proofs.Common.{◌≡◌, ℕ, ◌<◌, ◌≤◌, List, [], ◌∷◌, length, map, Option, Some, None, option_map, MatchOption, Bor, refl, sym, ap, ◌∙◌}
use Rattle.std.proofs.lemmas.List.{length-map}
use Rattle.std.proofs.lemmas.Option.{slice_get-map, slice_get_past, slice_get-get_or}
use Rattle.std.specs.List.{HoldsAt, slice_get}
use Rattle.upon_types.specs.View.{view, vals_view}
use Rattle.upon_types.specs.declared.value.Value.{Value}
use Rattle.upon_lookup.specs.Answer.{lent_view}
use Rattle.upon_lookup.specs.Vals.{val_list}

pub val_list-view : (vs : List Value) → val_list (vals_view vs) ≡ map view vs
val_list-view [] = refl
val_list-view (v ∷ vs) = ap (λ ws. view v ∷ ws) (val_list-view vs)

pub length-val_list : (vs : List Value) → length (val_list (vals_view vs)) ≡ length vs
length-val_list vs = ap length (val_list-view vs) ∙ length-map vs view

slice_get-val_list : (vs : List Value) (i : ℕ) → slice_get (val_list (vals_view vs)) i ≡ option_map view (slice_get vs i)
slice_get-val_list vs i = ap (λ ws. slice_get ws i) (val_list-view vs) ∙ slice_get-map view vs i

-- what the library's look-up by an index finds
pub lent_view-item : (vs : List Value) (i : ℕ) (item : Option (Bor Value)) → MatchOption item (length vs ≤ i) (λ x. (i < length vs) × HoldsAt (λ y. x.now ≡ y) vs i)
    → lent_view item ≡ slice_get (val_list (vals_view vs)) i
lent_view-item vs i None past = sym (slice_get-val_list vs i ∙ ap (option_map view) (slice_get_past vs i past))
lent_view-item vs i (Some x) here =
    sym (slice_get-val_list vs i ∙ ap (option_map view) (slice_get-get_or vs i x.now here.0 ∙ ap (λ (v : Value). Some v) (sym (here.1 x.now))))
