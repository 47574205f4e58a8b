use Rattle.std.proofs.Common.{◌≡◌, ◌++◌, []}
use Rattle.upon_shape_check.specs.Doubt.{doubts_view}
use Rattle.upon_shape_check.specs.Doubted.{misfits_of, misfits_view}
use Rattle.upon_shape_check.proofs.verdict.add.Given as goal

abbrev pub invariant-loop-doubt : goal.invariant-loop-doubt
invariant-loop-doubt l = record {
  before : l.misfits.items ≡ [] → l.fn.misfits.items ≡ [];
  none : l.misfits.items ≡ [] → l.doubt-iterator.rest.items ≡ [] → l.fn.doubts.items ≡ [];
  added : misfits_view l.misfits.items ++ misfits_of l.name (doubts_view l.doubt-iterator.rest.items)
      ≡ misfits_view l.fn.misfits.items ++ misfits_of l.name (doubts_view l.fn.doubts.items);
}
