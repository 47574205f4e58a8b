-- What the functions of this crate answer, and their names.
use Rattle.std.specs.Prelude.{ℕ, List, [], ◌∷◌, codes}
use Rattle.upon_functions.specs.Integers.{usize_range}
use Rattle.upon_functions.specs.Adapters.{adapter_answer}
use Rattle.upon_std.specs.Basic.Integers.{long_misfit}
use Rattle.upon_types.specs.Answers.{Answer}
use Rattle.upon_types.specs.Misfits.{Test, any_misfit, str_misfit, list_misfit, integer_misfit}
use Rattle.upon_types.specs.Val.{Val}
use Rattle.upon_std.specs.Cutting.Outcomes.{range_outcome, slice_outcome, concat_outcome, pluck_outcome, where_outcome, sum_outcome, split_outcome, lines_outcome, replace_outcome, indent_outcome}
use Rattle.upon_std.specs.declared.cutting.parts.Parts.{Parts}
use Rattle.upon_std.specs.declared.cutting.parts.Parts.TheVariants.{Range, Slice, Concat, Pluck, Where, Sum, Split, Lines, Replace, Indent}

-- an argument that is an integer that is no less than 0
abbrev pub size_misfit : Test
size_misfit = integer_misfit usize_range

-- what `slice`, `where` and `replace` answer
abbrev pub slice_answer : List Val → Answer
slice_answer = adapter_answer (list_misfit ∷ size_misfit ∷ size_misfit ∷ []) slice_outcome

abbrev pub where_answer : List Val → Answer
where_answer = adapter_answer (list_misfit ∷ str_misfit ∷ any_misfit ∷ []) where_outcome

abbrev pub replace_answer : List Val → Answer
replace_answer = adapter_answer (str_misfit ∷ str_misfit ∷ str_misfit ∷ []) replace_outcome

-- what each function answers
abbrev pub parts_answer : Parts → List Val → Answer
parts_answer Range = adapter_answer (long_misfit ∷ long_misfit ∷ []) range_outcome
parts_answer Slice = slice_answer
parts_answer Concat = adapter_answer (list_misfit ∷ list_misfit ∷ []) concat_outcome
parts_answer Pluck = adapter_answer (list_misfit ∷ str_misfit ∷ []) pluck_outcome
parts_answer Where = where_answer
parts_answer Sum = adapter_answer (list_misfit ∷ []) sum_outcome
parts_answer Split = adapter_answer (str_misfit ∷ str_misfit ∷ []) split_outcome
parts_answer Lines = adapter_answer (str_misfit ∷ []) lines_outcome
parts_answer Replace = replace_answer
parts_answer Indent = adapter_answer (str_misfit ∷ size_misfit ∷ []) indent_outcome

-- the name under which templates call it
abbrev pub parts_name : Parts → List ℕ
parts_name Range = codes "range"
parts_name Slice = codes "slice"
parts_name Concat = codes "concat"
parts_name Pluck = codes "pluck"
parts_name Where = codes "where"
parts_name Sum = codes "sum"
parts_name Split = codes "split"
parts_name Lines = codes "lines"
parts_name Replace = codes "replace"
parts_name Indent = codes "indent"
