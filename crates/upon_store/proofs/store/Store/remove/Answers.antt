use Rattle.std.proofs.Common.{refl}
use Rattle.upon_engine.specs.Template.{template_of}
use Rattle.upon_store.proofs.Changes.{others_kept}
use Rattle.upon_store.proofs.store.Store.remove.Goals as goal

pub returns-clause-others : goal.returns-clause-others
returns-clause-others c = others_kept template_of _ _ c.args.self.now.templates c.remove.new.self _ refl c.remove.ensures.updates
