-- What fits two shapes fits the values of one that are of the kinds of the other.
use Rattle.std.proofs.Common.{◌≡◌, Some, codes, List, [], ◌∷◌, sym, subst, inl, inr}
use Rattle.upon_types.specs.Val.{Val, none_val, bool_val, int_val, text_val, list_val, map_val, Vals, Entries, key_of}
use Rattle.upon_types.specs.View.{vals_of}
use Rattle.upon_meaning_spec.specs.MapOrder.{IsAmong}
use Rattle.upon_shape_spec.specs.Shape.{Shape, any_shape, one_of, Lists, no_list, lists_of, Maps, no_map, maps_of}
use Rattle.upon_shape_spec.specs.Fits.{Fits, ListFits, MapFits}
use Rattle.upon_shape_spec.proofs.KeyByKey.{both}
use Rattle.upon_schema.specs.Kept.{kept, kept_lists, kept_maps}
use Rattle.upon_schema.specs.Valid.{IsItem, EnumHolds}

list_kept : (l k : Lists) (vs : Vals) → ListFits l vs → ListFits k vs → ListFits (kept_lists l k) vs
list_kept no_list k vs f g = absurd f
list_kept (lists_of s) k vs f g = g

map_kept : (m n : Maps) (es : Entries) → MapFits m es → MapFits n es → MapFits (kept_maps m n) es
map_kept no_map n es f g = absurd f
map_kept (maps_of ks) n es f g = g

pub kept_fits : (s t : Shape) (v : Val) → Fits s v → Fits t v → Fits (kept s t) v
kept_fits any_shape t v f g = g
kept_fits (one_of p l m) any_shape v f g = f
kept_fits (one_of p l m) (one_of q k n) none_val f g = both p.none q.none f g
kept_fits (one_of p l m) (one_of q k n) (bool_val b) f g = both p.truth q.truth f g
kept_fits (one_of p l m) (one_of q k n) (int_val z) f g = both p.integer q.integer f g
kept_fits (one_of p l m) (one_of q k n) (text_val bytes) f g = both p.text q.text f g
kept_fits (one_of p l m) (one_of q k n) (list_val vs) f g = list_kept l k vs f g
kept_fits (one_of p l m) (one_of q k n) (map_val es) f g = map_kept m n es f g

-- a value that a schema lists is among its values
among : (v : Val) (ws : List Val) → IsItem v (vals_of ws) → IsAmong v ws
among v [] h = absurd h
among v (w ∷ ws) (inl same) = inl same
among v (w ∷ ws) (inr later) = inr (among v ws later)

pub listed_fits : (schema : Val) (ws : List Val) (s t u : Shape) → Some (list_val (vals_of ws)) ≡ key_of (codes "enum") schema → u ≡ kept s t → ((v : Val) → IsAmong v ws → Fits t v) → (v : Val) → EnumHolds schema v → Fits s v → Fits u v
listed_fits schema ws s t u e is each v h f =
    subst (λ (x : Shape). Fits x v) (sym is) (kept_fits s t v f (each v (among v ws (h (vals_of ws) (sym e)))))
