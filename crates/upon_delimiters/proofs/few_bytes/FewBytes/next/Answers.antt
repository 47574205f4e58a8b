use Rattle.std.proofs.Common.{length, arith, inl, inr}
use Rattle.upon_delimiters.proofs.Ways.{none_searched}
use Rattle.upon_delimiters.proofs.few_bytes.FewBytes.next.Goals as goal

pub returns-in-Some-look-clause-none : goal.returns-in-Some-look-clause-none
returns-in-Some-look-clause-none c = λ ds have q after below.
    let looked = c.in-Some.ensures.lookup.0 in
    let found = c.in-Some-look.ensures.0 in
    none_searched c.args.self c.args.source.now c.as_bytes.result.now c.in-Some.rest.now c.args.at c.as_bytes.ensures.value
    (looked.0, looked.2) c.in-Some-look.found found.before ds have q after (inl below)

pub returns-in-None-clause-none : goal.returns-in-None-clause-none
returns-in-None-clause-none c = λ ds have q after below.
    let looked = c.in-Some.ensures.lookup.0 in
    none_searched c.args.self c.args.source.now c.as_bytes.result.now c.in-Some.rest.now c.args.at c.as_bytes.ensures.value
    (looked.0, looked.2) (length c.in-Some.rest.now) c.in-None.ensures ds have q after (inr (omega arith))
