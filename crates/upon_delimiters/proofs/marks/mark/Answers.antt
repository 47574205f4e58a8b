use Rattle.std.proofs.Common.{arith}
use Rattle.upon_delimiters.proofs.Marking.{mark_made, mark_kept}
use Rattle.upon_delimiters.proofs.marks.mark.Goals as goal

pub returns-clause-marked : goal.returns-clause-marked
returns-clause-marked c =
    mark_made c.args.table.now c.args.byte c.args.bit (omega (arith, c.requires.byte, c.told-table)) c.requires.bit

pub returns-clause-kept : goal.returns-clause-kept
returns-clause-kept c = λ b k has.
    mark_kept c.args.table.now c.args.byte c.args.bit b k (omega (arith, c.requires.byte, c.told-table)) has
