use Rattle.std.proofs.Common.{ap}
use Rattle.upon_syntax.specs.OpenBlocks.{opened_by, closed_by}
use Rattle.upon_syntax.proofs.compile.parse.open_blocks.effect_of.Goals as goal

pub returns-in-If : goal.returns-in-If
returns-in-If c = λ told keeps. let kept = rw c.in-If.is at keeps in (ap opened_by kept.1, ap closed_by kept.1)

pub returns-in-For : goal.returns-in-For
returns-in-For c = λ told keeps. let kept = rw c.in-For.is at keeps in (ap opened_by kept.1, ap closed_by kept.1)

pub returns-in-With : goal.returns-in-With
returns-in-With c = λ told keeps. let kept = rw c.in-With.is at keeps in (ap opened_by kept.1, ap closed_by kept.1)

pub returns-in-ElseIf : goal.returns-in-ElseIf
returns-in-ElseIf c = λ told keeps. let kept = rw c.in-ElseIf.is at keeps in (ap opened_by kept.1, ap closed_by kept.1)

pub returns-in-Else : goal.returns-in-Else
returns-in-Else c = λ told keeps. let kept = rw c.in-Else.is at keeps in (ap opened_by kept, ap closed_by kept)

pub returns-in-End : goal.returns-in-End
returns-in-End c = λ told keeps. let kept = rw c.in-End.is at keeps in (ap opened_by kept, ap closed_by kept)

pub returns-in-Include : goal.returns-in-Include
returns-in-Include c = λ told keeps. let kept = rw c.in-Include.is at keeps in (ap opened_by kept, ap closed_by kept)

pub returns-in-IncludeWith : goal.returns-in-IncludeWith
returns-in-IncludeWith c = λ told keeps. let kept = rw c.in-IncludeWith.is at keeps in (ap opened_by kept.1, ap closed_by kept.1)
