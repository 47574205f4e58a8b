use Rattle.std.proofs.Common.{ap, ◌∙◌}
use Rattle.upon_types.specs.BlockKinds.{if_tag}
use Rattle.upon_types.specs.declared.types.Span.{Span}
use Rattle.upon_compiler.specs.Program.{program_view}
use Rattle.upon_compiler.specs.After.{after_event}
use Rattle.upon_compiler.specs.Events.{opening_event}
use Rattle.upon_compiler.proofs.compile.Compiler.else_if.Goals as goal

pub returns-clause-state : goal.returns-clause-state
returns-clause-state c =
    let anywhere : Span = record { m = 0; n = 0 } in
    c.in_ok-begin_if.ensures.state anywhere
    ∙ ap (after_event (opening_event (if_tag c.args.not) anywhere (program_view c.args.code.now.items))) c.in_ok-end_first_branch.ensures
