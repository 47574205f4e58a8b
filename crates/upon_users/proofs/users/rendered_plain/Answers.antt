use Rattle.std.proofs.Common.{None}
use Rattle.upon_types.specs.View.{view}
use Rattle.upon_users.proofs.users.rendered_plain.Goals as goal

pub returns : goal.returns
returns g c bare = c.plain_text.ensures None c.args.source.now (view c.args.value.now) c.render_text.result bare c.render_text.ensures.means
