use Rattle.upon_compiler.proofs.CompiledTree.{had_tree}
use Rattle.upon_engine.proofs.template.Template.source.Goals as goal

pub returns-clause-has_tree : goal.returns-clause-has_tree
returns-clause-has_tree c = had_tree _ _ _ c.args.self.now.is_compiled
