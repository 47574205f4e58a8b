use Rattle.std.proofs.Common.{refl}
use Rattle.upon_engine.specs.Engine.{engine_templates}
use Rattle.upon_engine.specs.Texts.{texts_of}
use Rattle.upon_calls.proofs.Needs.{named_lists, none_held}
use Rattle.upon_calls.proofs.Rendering.{no_name}
use Rattle.upon_calls.proofs.names.list.Goals as goal

pub returns-in-Some-clause-lists : goal.returns-in-Some-clause-lists
returns-in-Some-clause-lists g c =
    named_lists (texts_of (λ f. (g.dyn-1.0.entry f.vtable).1.formats f.value) (λ f. (g.dyn-2.0.entry f.vtable).1.answers f.value) c.args.engine.now) c.args.name.now (engine_templates c.args.engine.now) c.held_has_tree.ensures c.templates_are_the_table.ensures c.one_table.ensures c.in-Some.needs c.in-Some.ensures.absent c.in-Some.ensures.names c.in-Some.ensures.templates c.in-Some.ensures.missing c.in-Some.ensures.whole c.in-Some.ensures.rise c.listed.result c.listed.ensures.text

pub returns-in-None-clause-fails : goal.returns-in-None-clause-fails
returns-in-None-clause-fails g c =
    no_name _ _ c.no_template.result c.no_template.ensures (none_held _ (engine_templates c.args.engine.now c.args.name.now) (c.templates_are_the_table.ensures c.args.name.now) (c.in-None.ensures.absent.0 refl))
