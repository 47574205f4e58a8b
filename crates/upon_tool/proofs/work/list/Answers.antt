use Rattle.upon_engine.specs.Texts.{texts_of}
use Rattle.upon_tool.proofs.Filled.{listed}
use Rattle.upon_tool.proofs.work.list.Goals as goal

pub returns-clause-lists : goal.returns-clause-lists
returns-clause-lists g c = listed (texts_of (λ f. (g.dyn-1.0.entry f.vtable).1.formats f.value) (λ f. (g.dyn-2.0.entry f.vtable).1.answers f.value) c.args.engine.now) c.args.name.now c.args.json c.show.result _ _ _ c.templates_are_the_table.ensures c.one_table.ensures c.show.ensures.needed
