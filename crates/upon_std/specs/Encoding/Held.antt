-- Values that memory holds, and how deep their lists and maps nest.
use Rattle.std.specs.Prelude.{◌≡◌, ℕ, suc, ◌^◌, ◌<◌, ◌≤◌, max, ℤ, pos, negsuc, true, IsUtf8, ⊤}
use Rattle.upon_types.specs.Val.{Val, none_val, bool_val, int_val, text_val, list_val, map_val, Vals, no_vals, val_then, Entries, no_entries, entry_then, rises}

-- an integer of 64 bits
abbrev pub IsOf64Bits : ℤ → Type 0
IsOf64Bits (pos n) = n < 2 ^ 63
IsOf64Bits (negsuc n) = suc n ≤ 2 ^ 63

abbrev mutual
  -- integers are of 64 bits, texts are UTF-8, and the keys of each map rise
  pub IsHeld : Val → Type 0
  IsHeld none_val = ⊤
  IsHeld (bool_val b) = ⊤
  IsHeld (int_val z) = IsOf64Bits z
  IsHeld (text_val text) = IsUtf8 text
  IsHeld (list_val vs) = AreHeld vs
  IsHeld (map_val es) = (rises es ≡ true) × HasHeld es

  -- in each value integers are of 64 bits, texts are UTF-8, and the keys of each map rise
  pub AreHeld : Vals → Type 0
  AreHeld no_vals = ⊤
  AreHeld (val_then v vs) = IsHeld v × AreHeld vs

  -- each key is UTF-8, and in each value integers are of 64 bits, texts are UTF-8, and the keys of each map rise
  pub HasHeld : Entries → Type 0
  HasHeld no_entries = ⊤
  HasHeld (entry_then key v es) = IsUtf8 key × (IsHeld v × HasHeld es)

abbrev mutual
  -- how deep lists and maps nest
  pub nesting : Val → ℕ
  nesting none_val = 0
  nesting (bool_val b) = 0
  nesting (int_val z) = 0
  nesting (text_val text) = 0
  nesting (list_val vs) = suc (items_nesting vs)
  nesting (map_val es) = suc (entries_nesting es)

  -- how deep lists and maps nest within items
  pub items_nesting : Vals → ℕ
  items_nesting no_vals = 0
  items_nesting (val_then v vs) = max (nesting v) (items_nesting vs)

  -- how deep lists and maps nest within the values of entries
  pub entries_nesting : Entries → ℕ
  entries_nesting no_entries = 0
  entries_nesting (entry_then key v es) = max (nesting v) (entries_nesting es)
