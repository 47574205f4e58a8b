use Rattle.std.proofs.Common.{Ok, Err, refl}
use Rattle.upon_tool_many.proofs.build.page_text.Goals as goal

pub returns-in-Ok : goal.returns-in-Ok
returns-in-Ok g c = (Ok c.in-Ok.text, c.in-Ok.ensures, c.framed_text.ensures)

pub returns-in-Err : goal.returns-in-Err
returns-in-Err g c = (Err c.in-Err.fault, c.in-Err.ensures, refl)
