-- Values whose maps are all in the order of their keys, as those of every `Value` are.
use Rattle.std.specs.Prelude.{⊤, IsTrue}
use Rattle.upon_types.specs.Val.{Val, none_val, bool_val, int_val, text_val, list_val, map_val, Vals, no_vals, val_then, Entries, no_entries, entry_then, rises}

abbrev mutual
  -- each map in the value has its keys in the order of their bytes
  pub Ascends : Val → Type 0
  Ascends none_val = ⊤
  Ascends (bool_val b) = ⊤
  Ascends (int_val n) = ⊤
  Ascends (text_val bytes) = ⊤
  Ascends (list_val vs) = EachAscends vs
  Ascends (map_val es) = IsTrue (rises es) × EntriesAscend es

  -- each map in a value of the list has its keys in the order of their bytes
  pub EachAscends : Vals → Type 0
  EachAscends no_vals = ⊤
  EachAscends (val_then v vs) = Ascends v × EachAscends vs

  -- each map in a value of the map has its keys in the order of their bytes
  pub EntriesAscend : Entries → Type 0
  EntriesAscend no_entries = ⊤
  EntriesAscend (entry_then key v es) = Ascends v × EntriesAscend es
