use Rattle.std.proofs.Common.{reverse, ap}
use Rattle.upon_compiler.specs.Program.{program_view}
use Rattle.upon_compiler.proofs.Blocks.{same_state}
use Rattle.upon_compiler.proofs.compile.Compiler.new.Goals as goal

pub returns : goal.returns
returns c = same_state _ _ _ _ (ap program_view c.new.ensures.items) (ap reverse c.new-2.ensures.items)
