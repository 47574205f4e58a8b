use Rattle.std.proofs.Common.{subst, sym}
use Rattle.std.specs.Cow.{cow_str_bytes}
use Rattle.upon_engine.specs.Engine.{engine_syntax}
use Rattle.upon_engine.specs.Template.{template_of}
use Rattle.upon_store.specs.Stored.{HoldsTemplate}
use Rattle.upon_store.proofs.Changes.{others_kept, put_there}
use Rattle.upon_store.proofs.store.Store.add.Goals as goal

pub returns-in-Ok-insert-clause-added : goal.returns-in-Ok-insert-clause-added
returns-in-Ok-insert-clause-added g c =
    let at = put_there template_of _ _ c.args.self.now.templates c.insert.new.self _ c.in-Ok-from_str.ensures.ok c.in-Ok-insert.ensures.updates in
    let made = c.in-Ok.ensures in
    subst (HoldsTemplate (engine_syntax c.args.engine.now) (cow_str_bytes c.args.source)) (sym at) (made.source, made.has_tree, made.only_tree)

pub returns-in-Ok-insert-clause-others : goal.returns-in-Ok-insert-clause-others
returns-in-Ok-insert-clause-others g c =
    others_kept template_of _ _ c.args.self.now.templates c.insert.new.self _ c.in-Ok-from_str.ensures.ok c.in-Ok-insert.ensures.updates
