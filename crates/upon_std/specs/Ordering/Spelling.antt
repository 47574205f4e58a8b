-- Values as lists of numbers: no two values have one spelling, and each spelling says where it ends.
use Rattle.std.specs.Prelude.{ℕ, ℤ, suc, pos, negsuc, List, [], ◌∷◌, ◌++◌, if◌then◌else◌}
use Rattle.upon_types.specs.Val.{Val, none_val, bool_val, int_val, text_val, list_val, map_val, Vals, no_vals, val_then, Entries, no_entries, entry_then}

-- an integer: its sign, and how far it is from 0, or from -1 if it is negative
abbrev pub integer_spelling : ℤ → List ℕ
integer_spelling (pos n) = 0 ∷ n ∷ []
integer_spelling (negsuc n) = 1 ∷ n ∷ []

-- a text: its bytes, each with one added, and 0
abbrev pub text_spelling : List ℕ → List ℕ
text_spelling [] = 0 ∷ []
text_spelling (c ∷ cs) = suc c ∷ text_spelling cs

abbrev mutual
  -- a value: the number of its kind, and what it is
  pub spelling : Val → List ℕ
  spelling none_val = 0 ∷ []
  spelling (bool_val b) = 1 ∷ (if b then 1 else 0) ∷ []
  spelling (int_val z) = 2 ∷ integer_spelling z
  spelling (text_val s) = 3 ∷ text_spelling s
  spelling (list_val vs) = 4 ∷ items_spelling vs
  spelling (map_val es) = 5 ∷ entries_spelling es

  -- values: 1 before each, and 0 after the last
  pub items_spelling : Vals → List ℕ
  items_spelling no_vals = 0 ∷ []
  items_spelling (val_then v vs) = 1 ∷ spelling v ++ items_spelling vs

  -- entries: 1 before each, and 0 after the last
  pub entries_spelling : Entries → List ℕ
  entries_spelling no_entries = 0 ∷ []
  entries_spelling (entry_then k v es) = 1 ∷ text_spelling k ++ (spelling v ++ entries_spelling es)
