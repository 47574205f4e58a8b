use Rattle.std.proofs.Common.{string_bytes}
use Rattle.upon_types.specs.View.{view}
use Rattle.upon.proofs.Ended.{on_words, without_memory}
use Rattle.upon.proofs.program.render_on.Goals as goal

pub returns-in_err-context : goal.returns-in_err-context
returns-in_err-context g c = without_memory c.args.name.now c.args.words.now (string_bytes c.args.source) c.from_residual.result _ c.from_residual.ensures.1

pub returns : goal.returns
returns g c = on_words c.args.name.now c.args.words.now (string_bytes c.args.source) (view c.in_ok-context.context) c.render.result _ _ c.in_ok-context.ensures c.render.ensures
