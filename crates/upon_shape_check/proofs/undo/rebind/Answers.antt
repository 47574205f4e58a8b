use Rattle.upon_shape_check.proofs.Names.{rebound_at, rebound_back}
use Rattle.upon_shape_check.proofs.undo.rebind.Goals as goal

pub returns-clause-names : goal.returns-clause-names
returns-clause-names c = rebound_at c.args.names.now c.args.depth c.index-names-index.result c.args.bound c.replace.new.dest c.requires c.replace.ensures.after

pub returns-clause-undo : goal.returns-clause-undo
returns-clause-undo c = rebound_back c.args.names.now c.args.depth c.index-names-index.result c.args.bound c.replace.new.dest c.replace.result c.requires c.replace.ensures.after c.replace.ensures.value
