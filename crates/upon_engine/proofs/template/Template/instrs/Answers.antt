use Rattle.std.proofs.Common.{◌∙◌, ap}
use Rattle.upon_compiler.specs.Program.{program_view}
use Rattle.upon_compiler.proofs.CompiledTree.{program}
use Rattle.upon_engine.proofs.template.Template.instrs.Goals as goal

pub returns : goal.returns
returns c = ap program_view c.as_slice.ensures.value ∙ program _ _ _ c.args.self.now.is_compiled
