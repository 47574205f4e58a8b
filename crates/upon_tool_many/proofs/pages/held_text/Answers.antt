use Rattle.std.proofs.Common.{refl}
use Rattle.upon_tool_many.proofs.Texts.{not_absent}
use Rattle.upon_tool_many.proofs.pages.held_text.Goals as goal

pub returns-in-Some-clause-text : goal.returns-in-Some-clause-text
returns-in-Some-clause-text g c = λ held tree there has. (c.in-Some.answer, c.in-Some.ensures.means held tree there has, c.text_of.ensures)

pub returns-in-Some-clause-absent : goal.returns-in-Some-clause-absent
returns-in-Some-clause-absent g c = (λ is. absurd (not_absent c.in-Some.answer c.text_of.result c.text_of.ensures is), λ none. absurd (cc (c.in-Some.ensures.absent.1 none)))

pub returns-in-None-clause-text : goal.returns-in-None-clause-text
returns-in-None-clause-text g c = λ held tree there has. absurd (c.in-None.ensures.means held tree there has)

pub returns-in-None-clause-absent : goal.returns-in-None-clause-absent
returns-in-None-clause-absent g c = (λ is. c.in-None.ensures.absent.0 refl, λ none. refl)
