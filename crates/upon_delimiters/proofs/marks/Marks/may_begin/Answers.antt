use Rattle.std.proofs.Common.{arith, ◌≡◌, ◌<◌, ◌+◌, get_or}
use Rattle.upon_delimiters.proofs.Marking.{apart_none}
use Rattle.upon_delimiters.proofs.marks.Marks.may_begin.Goals as goal

pub returns-in-Some : goal.returns-in-Some
returns-in-Some c = λ off delimiters texts each.
    let is : c.in-Some.next.now ≡ get_or c.args.bytes.now (c.args.at + 1) 0 = c.in-Some.ensures.lookup.3.1 0 in
    let fits = c.type_inv.bytes (c.args.at + 1) in
    let small : c.in-Some.next.now < 256 = omega (arith, is, fits) in
    apart_none c.args.self.now delimiters c.args.bytes.now c.args.at texts each c.in-Some.next.now is small off
