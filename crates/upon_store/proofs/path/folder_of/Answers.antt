use Rattle.std.proofs.Common.{rules}
use Rattle.upon_store.proofs.Steps.{gathered}
use Rattle.upon_store.proofs.path.folder_of.Goals as goal

pub loop-segment-preserved : goal.loop-segment-preserved
loop-segment-preserved c = (
  search rules,
  gathered c.loop-segment.folder.items c.push.new.self.items c.in-Some.segment c.loop-segment.rest.now c.in-Some.after.now _
      c.in-Some.ensures.parts c.in_ok-push.ensures.items c.loop-segment.invariant.1,
)
