-- The order of a map's items in a loop, and what a map literal holds.
use Rattle.std.specs.Prelude.{◌≡◌, ◌⊎◌, ◌↔◌, ℕ, List, [], ◌∷◌, map, Some}
use Rattle.std.specs.Cmp.Lexicographic.{slice_cmp}
use Rattle.std.specs.List.Sorted.{IsStrictlySortedBy}
use Rattle.std.specs.Map.{keys_of}
use Rattle.std.specs.Ordering.{nat_cmp}
use Rattle.upon_types.specs.Expression.{Bases, no_bases, base_then, Items, no_items, item_then}
use Rattle.upon_types.specs.Path.{Ident}
use Rattle.upon_types.specs.Val.{Val, Entries, entry_at}
use Rattle.upon_lookup.specs.Environment.{Binding}
use Rattle.upon_lookup.specs.Items.{entry_binds}
use Rattle.upon_meaning_spec.specs.Evaluation.{Operand}

-- it is one of these
abbrev pub IsAmong : {A : Type 0} → A → List A → Type 0
IsAmong a [] = ⊥
IsAmong a (b ∷ bs) = (b ≡ a) ⊎ IsAmong a bs

-- A loop's items are those of a map: key and value of each entry, once, the keys in ascending order of their bytes.
pub record GoesInOrder (key value : Ident) (es : Entries) (items : List (List Binding)) : Type 0 where
  pub entries : List (List ℕ × Val)
  pub bound : items ≡ map (entry_binds key value) entries
  pub ascending : IsStrictlySortedBy (slice_cmp nat_cmp) (keys_of entries)
  pub all : (k : List ℕ) (v : Val) → (entry_at k es ≡ Some v) ↔ IsAmong (k, v) entries

-- the expressions of a map literal, and each of its keys with the value that its expression came to
abbrev pub item_bases : Items → Bases
item_bases no_items = no_bases
item_bases (item_then key b items) = base_then b (item_bases items)

-- the keys of a map literal, each with the value that its expression came to
abbrev pub item_values : Items → List Operand → List (List ℕ × Val)
item_values no_items os = []
item_values (item_then key b items) [] = []
item_values (item_then key b items) (o ∷ os) = (key.text, o.value) ∷ item_values items os
