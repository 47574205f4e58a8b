use Rattle.std.proofs.Common.{◌≡◌, true, false}
use Rattle.upon_tool.proofs.names.needed.Goals as goal

pub returns-in_ok-needs-in-Some-clause-needed : goal.returns-in_ok-needs-in-Some-clause-needed
returns-in_ok-needs-in-Some-clause-needed g c = λ t is. record {
  names = rw c.in_ok-needs-in-Some.was at (c.in-Some.ensures.names t is);
  templates = rw c.in_ok-needs-in-Some.was at (c.in-Some.ensures.templates t is);
  missing = rw c.in_ok-needs-in-Some.was at (c.in-Some.ensures.missing t is);
  whole = rw c.in_ok-needs-in-Some.was at (c.in-Some.ensures.whole t is);
  rise = rw c.in_ok-needs-in-Some.was at (c.in-Some.ensures.rise t is);
}

pub returns-in_ok-needs-in-Some-clause-absent : goal.returns-in_ok-needs-in-Some-clause-absent
returns-in_ok-needs-in-Some-clause-absent g c = λ none. let e : true ≡ false = c.in-Some.ensures.absent.1 none in absurd cc
