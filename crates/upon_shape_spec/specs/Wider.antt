-- A shape that is at least as wide as another: it is of each value that the other is of.
use Rattle.std.specs.Prelude.{ℕ, List, [], ◌∷◌, Bool, true, false, ◌&&◌, ◌||◌, bytes_eq}
use Rattle.upon_shape_spec.specs.Shape.{Plain, Shape, any_shape, one_of, Lists, no_list, lists_of, Maps, no_map, maps_of, Keys, other_keys, key_then, at_key}

-- the second holds if the first does
abbrev pub implies : Bool → Bool → Bool
implies true b = b
implies false b = true

-- each kind that the second takes
abbrev pub plain_wider : Plain → Plain → Bool
plain_wider p q =
    implies q.none p.none && (implies q.truth p.truth && (implies q.integer p.integer && implies q.text p.text))

-- a key is one of these
abbrev pub is_listed : List ℕ → List (List ℕ) → Bool
is_listed key [] = false
is_listed key (k ∷ ks) = bytes_eq key k || is_listed key ks

-- a test of the shape of each key that is none of these; of equal keys the first counts
abbrev pub each_beside : List (List ℕ) → (Shape → Bool) → Keys → Bool
each_beside seen test (other_keys s) = test s
each_beside seen test (key_then k required s ks) = (is_listed k seen || test s) && each_beside (k ∷ seen) test ks

abbrev mutual
  -- the first is at least as wide as the second
  pub wider : Shape → Shape → Bool
  wider any_shape t = true
  wider (one_of p l m) any_shape = false
  wider (one_of p l m) (one_of q k n) = plain_wider p q && (lists_wider l k && maps_wider m n)

  -- of lists
  pub lists_wider : Lists → Lists → Bool
  lists_wider no_list no_list = true
  lists_wider no_list (lists_of t) = false
  lists_wider (lists_of s) no_list = true
  lists_wider (lists_of s) (lists_of t) = wider s t

  -- of maps
  pub maps_wider : Maps → Maps → Bool
  maps_wider no_map no_map = true
  maps_wider no_map (maps_of ns) = false
  maps_wider (maps_of ks) no_map = true
  maps_wider (maps_of ks) (maps_of ns) = keys_wider [] ks ns

  -- key by key, beside those that were seen: what the first requires the second requires; then all that are left
  pub keys_wider : List (List ℕ) → Keys → Keys → Bool
  keys_wider seen (other_keys s) ns = each_beside seen (wider s) ns
  keys_wider seen (key_then k required s ks) ns =
      (is_listed k seen || (implies required (at_key k ns).required && wider s (at_key k ns).shape))
      && keys_wider (k ∷ seen) ks ns

-- each shape is at least as wide as the one in its place, and there are as many
abbrev pub all_wider : List Shape → List Shape → Bool
all_wider [] [] = true
all_wider [] (t ∷ ts) = false
all_wider (s ∷ ss) [] = false
all_wider (s ∷ ss) (t ∷ ts) = wider s t && all_wider ss ts
