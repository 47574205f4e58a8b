use Rattle.std.proofs.Common.{◌≡◌, ◌++◌, drop}
use Rattle.upon_shape_spec.specs.Accepted.{is_planned}
use Rattle.upon_compiler.specs.Program.{program_view}
use Rattle.upon_shape_spec.specs.ProgramDoubts as walks
use Rattle.upon_shape_check.specs.Callables.{declared_view}
use Rattle.upon_shape_check.specs.DeepLiterals.{program_too_deep}
use Rattle.upon_shape_check.specs.Doubt.{doubts_view}
use Rattle.upon_shape_check.specs.Known.{known_view}
use Rattle.upon_shape_check.specs.Plan.{plan_view}
use Rattle.upon_shape_check.proofs.DeepLiterals.{AllDeep}
use Rattle.upon_shape_check.proofs.walk.doubts_of.Given as goal

-- what is in doubt in the whole is what was and what is in the rest; and what is too deep in the rest is so in the whole
abbrev pub invariant-loop-number : goal.invariant-loop-number
invariant-loop-number l =
    (doubts_view l.doubts.items ++ walks.program_doubts (declared_view l.declared) (is_planned (plan_view l.plan)) l.number (known_view l.known) (program_view (drop l.number l.instrs))
    ≡ walks.program_doubts (declared_view l.declared) (is_planned (plan_view l.plan)) 0 (known_view l.initial.known) (program_view l.instrs))
    × AllDeep
    (program_too_deep (declared_view l.declared) (is_planned (plan_view l.plan)) l.number (known_view l.known) (program_view (drop l.number l.instrs)))
    (program_too_deep (declared_view l.declared) (is_planned (plan_view l.plan)) 0 (known_view l.initial.known) (program_view l.instrs))
