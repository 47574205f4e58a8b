-- When two values are the same.
use Rattle.std.specs.Prelude.{Bool, true, false, ◌&&◌, bytes_eq}
use Rattle.std.specs.Ordering.{int_eq}
use Rattle.std.proofs.Math.Bool.{beq, decide, Bool-discrete}
use Rattle.std.proofs.Math.Decide.{ℕ_discrete}
use Rattle.std.proofs.Math.IntN.{ℤ_discrete}
use mathlib.Core.List.{List-discrete}
use Rattle.upon_types.specs.Val.{Val, Val-discrete, none_val, bool_val, int_val, text_val, list_val, map_val, Vals, no_vals, val_then, Entries, no_entries, entry_then}

-- of two values, either that they are one or that they are not
abbrev pub one_or_two : Discrete Val
one_or_two = Val-discrete Bool-discrete ℤ_discrete (List-discrete ℕ_discrete)

-- whether two values are one
abbrev pub val_eq : Val → Val → Bool
val_eq v w = decide (one_or_two v w)

abbrev mutual
  -- whether two values are one, part by part: both are of a kind, with the same inside
  pub val_agrees : Val → Val → Bool
  val_agrees none_val none_val = true
  val_agrees (bool_val a) (bool_val b) = beq a b
  val_agrees (int_val m) (int_val n) = int_eq m n
  val_agrees (text_val s) (text_val t) = bytes_eq s t
  val_agrees (list_val vs) (list_val ws) = vals_agree vs ws
  val_agrees (map_val es) (map_val fs) = entries_agree es fs
  val_agrees _ _ = false

  -- whether two lists are one, value by value
  pub vals_agree : Vals → Vals → Bool
  vals_agree no_vals no_vals = true
  vals_agree (val_then v vs) (val_then w ws) = val_agrees v w && vals_agree vs ws
  vals_agree _ _ = false

  -- whether two maps are one, key by key and value by value
  pub entries_agree : Entries → Entries → Bool
  entries_agree no_entries no_entries = true
  entries_agree (entry_then k v es) (entry_then l w fs) = bytes_eq k l && (val_agrees v w && entries_agree es fs)
  entries_agree _ _ = false
