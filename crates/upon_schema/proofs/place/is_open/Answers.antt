use Rattle.upon_schema.proofs.Opened.{opened_here, opened_later}
use Rattle.upon_schema.proofs.place.is_open.Goals as goal

pub returns-then-eq : goal.returns-then-eq
returns-then-eq c =
    opened_here c.args.reference.now c.args.references.now c.loop-known.known-index _ c.eq.result c.loop-known-test.true c.loop-known.invariant c.eq.ensures c.if-eq.true

pub loop-known-preserved : goal.loop-known-preserved
loop-known-preserved c =
    opened_later c.args.reference.now c.args.references.now c.loop-known.known-index _ c.eq.result c.loop-known-test.true c.loop-known.invariant c.eq.ensures c.if-eq.false
