use Rattle.std.proofs.Common.{inl, inr}
use Rattle.upon_types.specs.View.{view}
use Rattle.upon_tool_many.proofs.Texts.{memory_out}
use Rattle.upon_tool_many.proofs.each.item_name.Goals as goal

pub returns-in_err-value : goal.returns-in_err-value
returns-in_err-value g c = inr (memory_out c.from_residual.result c.from_residual.ensures.1)

pub returns : goal.returns
returns g c = inl (view c.in_ok-value.value, c.in_ok-value.ensures, c.source_text.ensures)
