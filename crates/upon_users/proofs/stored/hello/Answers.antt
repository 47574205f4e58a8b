use Rattle.std.proofs.Common.{ap}
use Rattle.upon_engine.specs.Engine.{engine_templates}
use Rattle.upon_users.proofs.StoredHello.{hello_sent}
use Rattle.upon_users.proofs.stored.hello.Goals as goal

pub returns : goal.returns
returns g c name is =
    hello_sent _ _ (engine_templates c.new-engine.result) _ _ name _ _ _ c.render.result _ _ c.new-engine.ensures (ap (λ t. t.syntax) c.new-engine.ensures) is c.in_ok-add.ensures.added c.render.ensures.means
