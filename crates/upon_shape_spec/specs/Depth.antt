-- How deep shapes are nested.
use Rattle.std.specs.Prelude.{ℕ, ◌-◌, ◌==◌, Bool, false, ◌||◌}
use Rattle.upon_shape_spec.specs.Shape.{Shape, any_shape, one_of, Lists, no_list, lists_of, Maps, no_map, maps_of, Keys, other_keys, key_then}

abbrev mutual
  -- there are more levels than this of lists and maps, one inside another
  pub is_deeper : ℕ → Shape → Bool
  is_deeper n any_shape = false
  is_deeper n (one_of p l m) = lists_deeper n l || maps_deeper n m

  -- of lists
  pub lists_deeper : ℕ → Lists → Bool
  lists_deeper n no_list = false
  lists_deeper n (lists_of s) = (n == 0) || is_deeper (n - 1) s

  -- of maps
  pub maps_deeper : ℕ → Maps → Bool
  maps_deeper n no_map = false
  maps_deeper n (maps_of ks) = (n == 0) || keys_deeper (n - 1) ks

  -- of what keys have
  pub keys_deeper : ℕ → Keys → Bool
  keys_deeper n (other_keys s) = is_deeper n s
  keys_deeper n (key_then k required s ks) = is_deeper n s || keys_deeper n ks
