-- A total order of all values, which is that of integers and of texts.
use Rattle.std.specs.Prelude.{ℕ, ℤ, pos, List, []}
use Rattle.std.specs.Cmp.Lexicographic.{slice_cmp}
use Rattle.std.specs.declared.cmp.Ordering.{Ordering}
use Rattle.std.specs.Ordering.{nat_cmp, int_cmp, on, then_cmp}
use Rattle.upon_types.specs.Val.{Val, int_val, text_val}

-- integers come before texts, and these before other values
abbrev pub kind_rank : Val → ℕ
kind_rank (int_val z) = 0
kind_rank (text_val s) = 1
kind_rank v = 2

-- the integer, if a value is one
abbrev pub integer_in : Val → ℤ
integer_in (int_val z) = z
integer_in v = pos 0

-- the bytes, if a value is a text
abbrev pub bytes_in : Val → List ℕ
bytes_in (text_val s) = s
bytes_in v = []

-- by kind, then as integers, then as texts
abbrev pub rank_cmp : Val → Val → Ordering
rank_cmp = then_cmp (on kind_rank nat_cmp) (then_cmp (on integer_in int_cmp) (on bytes_in (slice_cmp nat_cmp)))
