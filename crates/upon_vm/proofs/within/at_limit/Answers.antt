use Rattle.std.proofs.Common.{sym, subst}
use Rattle.upon_types.specs.Span.{LiesIn}
use Rattle.upon_compiler.specs.Program.{program_view}
use Rattle.upon_vm.proofs.Places.{place_lies}
use Rattle.upon_vm.proofs.within.at_limit.Goals as goal

pub limit_error-error-requires : goal.limit_error-error-requires
limit_error-error-requires c =
    let program = c.args.running.program in
    subst (LiesIn program.source.now) (sym c.place-span.ensures) (place_lies program.source.now (program_view program.instrs.now) c.args.position c.requires)
