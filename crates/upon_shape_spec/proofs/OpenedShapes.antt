-- A shape that is opened is at least as wide.
use Rattle.std.proofs.Common.{◌≡◌, ℕ, List, [], Bool, true, false, ◌&&◌, refl, bytes_eq, if◌then◌else◌}
use Rattle.upon_shape_spec.specs.Join.{opened, opened_lists, opened_maps, opened_keys}
use Rattle.upon_shape_spec.specs.Shape.{Shape, any_shape, one_of, Lists, no_list, lists_of, Maps, no_map, maps_of, Keys, other_keys, key_then, KeyShape, key_shape, at_key}
use Rattle.upon_shape_spec.specs.Wider.{plain_wider, wider, lists_wider, maps_wider}
use Rattle.upon_shape_spec.proofs.KeyByKey.{both, AtWider, others_of, keys_from}
use Rattle.upon_shape_spec.proofs.Order.{implies_itself, plain_itself}

pub both_chosen : (b : Bool) (x y x' y' : KeyShape) → AtWider x x' → AtWider y y' → AtWider (if b then x else y) (if b then x' else y')
both_chosen true x y x' y' h k = h
both_chosen false x y x' y' h k = k

mutual
  pub opened_wider : (s : Shape) → wider (opened s) s ≡ true
  opened_wider any_shape = refl
  opened_wider (one_of p l m) = both (plain_wider p p) (lists_wider (opened_lists l) l && maps_wider (opened_maps m) m) (plain_itself p) (both (lists_wider (opened_lists l) l) (maps_wider (opened_maps m) m) (opened_list l) (opened_map m))

  opened_list : (l : Lists) → lists_wider (opened_lists l) l ≡ true
  opened_list no_list = refl
  opened_list (lists_of s) = opened_wider s

  opened_map : (m : Maps) → maps_wider (opened_maps m) m ≡ true
  opened_map no_map = refl
  opened_map (maps_of ks) = keys_from [] (opened_keys ks) ks (λ key un. opened_at ks key) (opened_others ks)

  opened_at : (ks : Keys) (key : List ℕ) → AtWider (at_key key (opened_keys ks)) (at_key key ks)
  opened_at (other_keys s) key = (refl, refl)
  opened_at (key_then k required s ks) key = both_chosen (bytes_eq key k) (key_shape required (opened s)) (at_key key (opened_keys ks)) (key_shape required s) (at_key key ks) (implies_itself required, opened_wider s) (opened_at ks key)

  opened_others : (ks : Keys) → wider (others_of (opened_keys ks)) (others_of ks) ≡ true
  opened_others (other_keys s) = refl
  opened_others (key_then k required s ks) = opened_others ks
