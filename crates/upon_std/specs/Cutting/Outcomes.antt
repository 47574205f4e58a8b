-- The outcomes of the functions of this crate, by what their arguments denote.
use Rattle.std.specs.Prelude.{ℕ, List, [], ◌∷◌, Option, Some, None, Result, Ok, Err, ℤ, pos, length, map, nat_lt, ◌==◌, codes, if◌then◌else◌}
use Rattle.std.specs.Str.Lines.{lines}
use Rattle.upon_functions.specs.Outcome.{Returned, value, refusal}
use Rattle.upon_types.specs.Val.{Val, int_val, text_val, list_val}
use Rattle.upon_types.specs.View.{vals_of}
use Rattle.upon_std.specs.Basic.Items.{vals_in_list}
use Rattle.upon_std.specs.Cutting.Items.{sliced, concatenated, plucked, having}
use Rattle.upon_std.specs.Cutting.Numbers.{integers_from, range_count, most_items, summed}
use Rattle.upon_std.specs.Cutting.Pieces.{pieces, replaced, indented, limited}

-- the outcome of `range`: the integers from one up to but not another
abbrev pub range_outcome : List Val → Returned
range_outcome ((int_val y) ∷ (int_val z) ∷ vs) = if nat_lt most_items (range_count y z)
    then refusal (codes "range has more than 1000000 items")
    else value (list_val (vals_of (integers_from y (range_count y z))))
range_outcome vs = refusal []

-- the outcome of `slice`: the items from an index up to but not another
abbrev pub slice_outcome : List Val → Returned
slice_outcome ((list_val vs) ∷ (int_val (pos from)) ∷ (int_val (pos to)) ∷ ws) = value (list_val (sliced from to vs))
slice_outcome ws = refusal []

-- the outcome of `concat`: the items of one list, then of another
abbrev pub concat_outcome : List Val → Returned
concat_outcome ((list_val vs) ∷ (list_val ws) ∷ us) = value (list_val (concatenated vs ws))
concat_outcome us = refusal []

-- the outcome of `pluck`: of each item what is at the key, or none
abbrev pub pluck_outcome : List Val → Returned
pluck_outcome ((list_val vs) ∷ (text_val key) ∷ ws) = value (list_val (plucked key vs))
pluck_outcome ws = refusal []

-- the outcome of `where`: the items that have the value at the key
abbrev pub where_outcome : List Val → Returned
where_outcome ((list_val vs) ∷ (text_val key) ∷ v ∷ ws) = value (list_val (having key v vs))
where_outcome ws = refusal []

-- a sum, or its refusal
abbrev pub sum_result : Result ℤ (List ℕ) → Returned
sum_result (Ok z) = value (int_val z)
sum_result (Err text) = refusal text

-- the outcome of `sum`: the sum of a list of integers
abbrev pub sum_outcome : List Val → Returned
sum_outcome ((list_val vs) ∷ ws) = sum_result (summed (pos 0) (vals_in_list vs))
sum_outcome ws = refusal []

-- the outcome of `split`: the texts between the separators
abbrev pub split_outcome : List Val → Returned
split_outcome ((text_val s) ∷ (text_val separator) ∷ vs) = if length separator == 0
    then refusal (codes "split needs a separator") else value (list_val (vals_of (map text_val (pieces separator s))))
split_outcome vs = refusal []

-- the outcome of `lines`: the lines of a text
abbrev pub lines_outcome : List Val → Returned
lines_outcome ((text_val s) ∷ vs) = value (list_val (vals_of (map text_val (lines s))))
lines_outcome vs = refusal []

-- a text, or the refusal to make it
abbrev pub text_or : List ℕ → Option (List ℕ) → Returned
text_or message (Some text) = value (text_val text)
text_or message None = refusal message

-- the outcome of `replace`: a text with another in place of each that is found
abbrev pub replace_outcome : List Val → Returned
replace_outcome ((text_val s) ∷ (text_val from) ∷ (text_val to) ∷ vs) = if length from == 0
    then refusal (codes "replace needs a text to replace")
    else text_or (codes "replace makes more than 1000000 bytes") (limited (replaced from to s))
replace_outcome vs = refusal []

-- the outcome of `indent`: a text with blanks before its lines
abbrev pub indent_outcome : List Val → Returned
indent_outcome ((text_val s) ∷ (int_val (pos width)) ∷ vs) =
    text_or (codes "indent makes more than 1000000 bytes") (limited (indented width s))
indent_outcome vs = refusal []
