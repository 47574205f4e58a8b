use Rattle.std.proofs.Common.{◌≡◌, ℕ, List, option_map}
use Rattle.std.proofs.lemmas.Iterator.{YieldsList}
use Rattle.std.specs.Str.Iter.{lines_steps}
use Rattle.std.specs.Str.Lines.{lines}
use Rattle.upon_types.specs.View.{vals_view}
use Rattle.upon_json.specs.Context.{without_mark}
use Rattle.upon_data.specs.Lines.{lines_values}
use Rattle.upon_data.proofs.LineValues.{vals_before}
use Rattle.upon_data.proofs.lines.lines.Given as goal

-- the values of all lines are those so far, and then those of the lines that are left
abbrev pub invariant-loop-line : goal.invariant-loop-line
invariant-loop-line l =
    (goal.iterator-loop-line).can_next l.line-iterator × (goal.iterator-loop-line).is_finite l.line-iterator
    × (rest : List (List ℕ)) × YieldsList lines_steps (λ x. x.now) l.line-iterator rest
    × (lines_values (lines (without_mark l.fn.text)) ≡ option_map (vals_before (vals_view l.values.items)) (lines_values rest))
