use Rattle.upon_types.specs.View.{view}
use Rattle.upon_users.proofs.Greeting.{map_is}
use Rattle.upon_users.proofs.built.named.Goals as goal

pub returns : goal.returns
returns c = map_is c.in_ok-key.key c.in_ok-text.text (view c.in_ok-map.map) c.args.name.now c.in_ok-key.ensures.ok c.in_ok-text.ensures c.in_ok-map.ensures
