use Rattle.std.proofs.Common.{map, ap, sym, ◌∙◌, arith}
use Rattle.std.specs.Prelude.{filter}
use Rattle.std.proofs.lemmas.List.{take_all}
use Rattle.upon_types.specs.Same.{val_eq}
use Rattle.upon_types.specs.View.{view, vals_of}
use Rattle.upon_types.specs.declared.value.Value.{Value}
use Rattle.upon_std.specs.Basic.Items.{value_at_key}
use Rattle.upon_std.proofs.CuttingLemmas.Items.{having_view, kept_more, left_out_more}
use Rattle.upon_std.proofs.cutting.lists.having.Goals as goal
use Rattle.upon_std.proofs.cutting.lists.having.Goals.{then-branch+in_ok-try_clone+in_ok-push, else-branch}

pub loop-item-preserved : goal.loop-item-preserved
loop-item-preserved c =
    let passes = λ (x : Value). val_eq (value_at_key c.args.key.now (view x)) (view c.args.wanted.now) in
    elim c.if-branch.branch [
      | then-branch+in_ok-try_clone+in_ok-push w ↦
          kept_more passes c.args.items.now c.loop-item.item-index c.item-item.result c.loop-item.made.items _ _ (omega arith) c.item-item.is
          (sym c.in_ok-has_at.ensures ∙ w.if-branch.true) (ap (λ made. made.items) w.made-is ∙ w.in_ok-push.ensures.items) w.in_ok-try_clone.ensures c.loop-item.invariant
      | else-branch w ↦
          ap (λ made. map view made.items) w.made-is
          ∙ left_out_more passes c.args.items.now c.loop-item.item-index c.item-item.result c.loop-item.made.items (omega arith) c.item-item.is
          (sym c.in_ok-has_at.ensures ∙ w.if-branch.false) c.loop-item.invariant
    ]

pub returns : goal.returns
returns c =
    ap vals_of (c.loop-item.invariant ∙ ap (λ xs. map view (filter (λ x. val_eq (value_at_key c.args.key.now (view x)) (view c.args.wanted.now)) xs)) (take_all c.loop-item.item-index c.args.items.now (omega arith)))
    ∙ sym (having_view c.args.key.now (view c.args.wanted.now) c.args.items.now)
