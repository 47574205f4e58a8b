use Rattle.std.proofs.Common.{string_bytes}
use Rattle.upon_engine.specs.Engine.{engine_syntax, engine_templates}
use Rattle.upon_tool.proofs.Calls.{one_unread}
use Rattle.upon_tool.proofs.Checked.{checked_more}
use Rattle.upon_tool.proofs.work.check_each.Goals as goal

pub loop-name-preserved : goal.loop-name-preserved
loop-name-preserved g c = checked_more c.args.callables.now (g.R.Sources.world c.args.rt.now) (engine_syntax c.args.engine.now) (engine_templates c.args.engine.now) c.args.names.now c.loop-name.name-index _ (string_bytes c.in_ok-source.source) _ _ _ c.loop-name.is_right c.in_ok-is_right.field-0 c.loop-name-test.true c.loop-name.invariant c.in_ok-source.ensures.text c.text_of.ensures.kept c.in_ok-is_right.ensures

pub returns-in_err-source-clause-refused : goal.returns-in_err-source-clause-refused
returns-in_err-source-clause-refused g c =
    one_unread (g.R.Sources.world c.args.rt.now) c.args.names.now c.loop-name.name-index _ _ c.in_err-source.field-0.0 c.from_residual.result c.loop-name-test.true c.from_residual.ensures.1 c.in_err-source.ensures.unread
