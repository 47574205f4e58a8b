use Rattle.std.proofs.Common.{rules, string_bytes}
use Rattle.upon_store.proofs.Steps.{joined_on}
use Rattle.upon_store.proofs.path.joined.Goals as goal

pub loop-segment-preserved : goal.loop-segment-preserved
loop-segment-preserved c =
    joined_on c.args.first.now c.args.others.now c.loop-segment.segment-index _ (string_bytes c.loop-segment.text) (string_bytes c.push_str.new.self) (string_bytes c.push_str-in-loop-segment.new.self)
    (search rules) c.loop-segment.invariant c.in_ok-push_str.ensures.bytes c.in_ok-push_str-2.ensures.bytes
