use Rattle.std.proofs.Common.{rules, sym, ◌∙◌}
use Rattle.upon_store.proofs.Segments.{path_last, path_on, no_path}
use Rattle.upon_store.proofs.path.is_path.Goals as goal

pub returns-then-not-is_segment : goal.returns-then-not-is_segment
returns-then-not-is_segment c =
    sym (no_path _ _ c.in-Some.after.now c.in-Some.ensures.parts (sym c.is_segment.ensures ∙ c.if-not-is_segment.true)) ∙ c.loop-segment.invariant.1

pub loop-segment-preserved : goal.loop-segment-preserved
loop-segment-preserved c = (
  search rules,
  sym (path_on _ _ c.in-Some.after.now c.in-Some.ensures.parts (sym c.is_segment.ensures ∙ c.if-not-is_segment.false)) ∙ c.loop-segment.invariant.1,
)

pub returns : goal.returns
returns c = c.is_segment-2.ensures ∙ sym (path_last _ c.in_default.ensures.whole) ∙ c.loop-segment.invariant.1
