use Rattle.std.proofs.Common.{ap, sym, ◌∙◌, arith}
use Rattle.std.specs.Prelude.{unwrap_or}
use Rattle.upon_types.specs.Val.{key_of}
use Rattle.upon_types.specs.View.{view, vals_of}
use Rattle.upon_types.proofs.Views.{view-None}
use Rattle.upon_std.specs.Basic.Items.{value_at_key}
use Rattle.upon_std.proofs.CuttingLemmas.Items.{pushed_more, all_pushed, plucked_view}
use Rattle.upon_std.proofs.cutting.lists.plucked.Goals as goal

pub loop-item-preserved : goal.loop-item-preserved
loop-item-preserved c =
    pushed_more (λ x. value_at_key c.args.key.now (view x)) c.args.items.now c.loop-item.item-index c.item-item.result _ _ _ (omega arith) c.item-item.is
    c.in_ok-push.ensures.items (c.in_ok-copy_at.ensures ∙ ap (unwrap_or (key_of c.args.key.now (view c.item-item.result))) view-None) c.loop-item.invariant

pub returns : goal.returns
returns c =
    ap vals_of (all_pushed (λ x. value_at_key c.args.key.now (view x)) c.args.items.now c.loop-item.item-index _ (omega arith) c.loop-item.invariant)
    ∙ sym (plucked_view c.args.key.now c.args.items.now)
