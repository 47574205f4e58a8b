-- Which values a shape is of.
use Rattle.std.specs.Prelude.{ℕ, List, [], ◌∷◌, Bool, true, false, Option, Some, None, IsTrue, bytes_eq}
use Rattle.upon_types.specs.Val.{Val, none_val, bool_val, int_val, text_val, list_val, map_val, Vals, no_vals, val_then, Entries, no_entries, entry_then, entry_at, rises}
use Rattle.upon_shape_spec.specs.Shape.{Shape, any_shape, one_of, Lists, no_list, lists_of, Maps, no_map, maps_of, Keys, other_keys, key_then}

-- it holds of each of the values
abbrev pub EachValue : (Val → Type 0) → Vals → Type 0
EachValue P no_vals = Unit {0}
EachValue P (val_then v vs) = P v × EachValue P vs

-- one of two facts, by a test
abbrev pub ByTest : Bool → Type 0 → Type 0 → Type 0
ByTest true A B = A
ByTest false A B = B

-- it holds of what is there; what is required is there
abbrev pub Held : Bool → (Val → Type 0) → Option Val → Type 0
Held required P (Some v) = P v
Held true P None = ⊥
Held false P None = Unit {0}

abbrev mutual
  -- the shape is of this value
  pub Fits : Shape → Val → Type 0
  Fits any_shape v = Unit {0}
  Fits (one_of p l m) none_val = IsTrue p.none
  Fits (one_of p l m) (bool_val b) = IsTrue p.truth
  Fits (one_of p l m) (int_val n) = IsTrue p.integer
  Fits (one_of p l m) (text_val bytes) = IsTrue p.text
  Fits (one_of p l m) (list_val vs) = ListFits l vs
  Fits (one_of p l m) (map_val es) = MapFits m es

  -- of each item
  pub ListFits : Lists → Vals → Type 0
  ListFits no_list vs = ⊥
  ListFits (lists_of s) vs = EachValue (Fits s) vs

  -- of what is at each key; the keys are in their order, so that each is there once
  pub MapFits : Maps → Entries → Type 0
  MapFits no_map es = ⊥
  MapFits (maps_of ks) es = IsTrue (rises es) × ((key : List ℕ) → KeyFits key ks (entry_at key es))

  -- what is at this key, if anything is, is as the first that speaks of it says
  pub KeyFits : List ℕ → Keys → Option Val → Type 0
  KeyFits key (other_keys s) o = Held false (Fits s) o
  KeyFits key (key_then k required s ks) o = ByTest (bytes_eq key k) (Held required (Fits s) o) (KeyFits key ks o)

abbrev mutual
  -- the keys of each map in the value are in the order of their bytes
  pub MapsRise : Val → Type 0
  MapsRise none_val = Unit {0}
  MapsRise (bool_val b) = Unit {0}
  MapsRise (int_val n) = Unit {0}
  MapsRise (text_val bytes) = Unit {0}
  MapsRise (list_val vs) = AllRise vs
  MapsRise (map_val es) = IsTrue (rises es) × EntriesRise es

  -- in each of the values
  pub AllRise : Vals → Type 0
  AllRise no_vals = Unit {0}
  AllRise (val_then v vs) = MapsRise v × AllRise vs

  -- in what each key has
  pub EntriesRise : Entries → Type 0
  EntriesRise no_entries = Unit {0}
  EntriesRise (entry_then k v es) = MapsRise v × EntriesRise es

-- each value fits the shape in its place, and there are as many
abbrev pub AllFit : List Shape → List Val → Type 0
AllFit [] [] = Unit {0}
AllFit [] (v ∷ vs) = ⊥
AllFit (s ∷ ss) [] = ⊥
AllFit (s ∷ ss) (v ∷ vs) = Fits s v × AllFit ss vs
