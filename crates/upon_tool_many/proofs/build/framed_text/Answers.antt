use Rattle.std.proofs.Common.{inl, inr}
use Rattle.upon_types.specs.View.{view}
use Rattle.upon_tool_many.proofs.Texts.{frames_none, frames_some, memory_out}
use Rattle.upon_tool_many.proofs.build.framed_text.Goals as goal

pub returns-in_default : goal.returns-in_default
returns-in_default g c = frames_none c.args.asked.now.limits _ c.args.asked.now.layout (view c.args.context.now) c.args.text c.in_default.is

pub returns-in_err-value : goal.returns-in_err-value
returns-in_err-value g c =
    frames_some c.args.asked.now.limits _ c.args.asked.now.layout c.in-Some.layout (view c.args.context.now) c.args.text c.from_residual.result c.in-Some.is (inr (memory_out c.from_residual.result c.from_residual.ensures.1))

pub returns : goal.returns
returns g c =
    frames_some c.args.asked.now.limits _ c.args.asked.now.layout c.in-Some.layout (view c.args.context.now) c.args.text c.held_text.result c.in-Some.is (inl (view c.in_ok-value.value, c.in_ok-value.ensures, c.held_text.ensures.text))
