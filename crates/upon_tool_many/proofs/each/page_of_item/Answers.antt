use Rattle.std.proofs.Common.{refl, sym, ap, ◌∙◌}
use Rattle.upon_tool_many.specs.Names.{stays_inside}
use Rattle.upon_tool_many.proofs.each.page_of_item.Goals as goal

pub returns-in-Err-clause-refused : goal.returns-in-Err-clause-refused
returns-in-Err-clause-refused g c = (refl, c.in-Err.ensures)

pub returns-then-is_inside-clause-named : goal.returns-then-is_inside-clause-named
returns-then-is_inside-clause-named g c = (refl, c.in-Ok.ensures, ap stays_inside (sym c.as_str.ensures.value) ∙ sym c.is_inside.ensures ∙ c.if-is_inside.true)

pub returns-else-is_inside-clause-refused : goal.returns-else-is_inside-clause-refused
returns-else-is_inside-clause-refused g c = (refl, c.in-Ok.ensures, ap stays_inside (sym c.as_str.ensures.value) ∙ sym c.is_inside.ensures ∙ c.if-is_inside.false)
