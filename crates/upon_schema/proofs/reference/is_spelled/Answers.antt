use Rattle.upon_schema.proofs.Spellings.{left_spelled, none_spelled, rest_spelled, spelled_whole, whole_spelled}
use Rattle.upon_schema.proofs.reference.is_spelled.Goals as goal

pub returns-in-None-clause-others : goal.returns-in-None-clause-others
returns-in-None-clause-others c =
    λ e. absurd (none_spelled c.args.key.now c.loop-byte.rest.now c.loop-byte.byte-index c.loop-byte-test.true c.in-None.ensures.none (c.loop-byte.invariant.each e))

pub returns-clause-spelled : goal.returns-clause-spelled
returns-clause-spelled c =
    λ e. c.loop-byte.invariant.all (spelled_whole c.args.key.now c.loop-byte.rest.now c.loop-byte.byte-index c.is_empty.result c.loop-byte-test.false c.is_empty.ensures e)

pub returns-clause-others : goal.returns-clause-others
returns-clause-others c =
    λ e. whole_spelled c.args.key.now c.loop-byte.rest.now c.loop-byte.byte-index c.is_empty.result c.loop-byte-test.false c.is_empty.ensures (c.loop-byte.invariant.each e)

pub loop-byte-preserved : goal.loop-byte-preserved
loop-byte-preserved c =
    let key = c.args.key.now in
    let rest = c.loop-byte.rest.now in
    let i = c.loop-byte.byte-index in
    record {
      all = λ e. c.loop-byte.invariant.all (rest_spelled key rest c.in-Some.after.now i c.loop-byte-test.true c.in-Some.ensures.rest e);
      each = λ e. left_spelled key rest c.in-Some.after.now i c.loop-byte-test.true c.in-Some.ensures.rest (c.loop-byte.invariant.each e);
    }
