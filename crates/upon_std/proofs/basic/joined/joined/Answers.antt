use Rattle.std.proofs.Common.{ap, sym, ◌∙◌, arith}
use Rattle.upon_functions.specs.Outcome.{refusal}
use Rattle.upon_std.specs.Basic.Joined.{joined_result}
use Rattle.upon_std.proofs.BasicLemmas.Joining.{begun, one_more_piece, stops, all_joined}
use Rattle.upon_std.proofs.basic.joined.joined.Goals as goal

pub loop-item-init : goal.loop-item-init
loop-item-init c = begun _ _ c.new-text.ensures.bytes

pub loop-item-preserved : goal.loop-item-preserved
loop-item-preserved c =
    one_more_piece c.args.items.now c.loop-item.item-index c.item-item.result _ _ _ _ _ _ (omega arith) c.item-item.is c.in-Some.ensures
    c.in_ok-push_piece-in-Some.ensures c.loop-item.invariant

pub returns-in-None : goal.returns-in-None
returns-in-None c =
    ap joined_result (stops c.args.items.now c.loop-item.item-index c.item-item.result _ _ _ _ (omega arith) c.item-item.is c.in-None.ensures c.loop-item.invariant)
    ∙ ap refusal (sym c.in_ok-refusal-in-None.ensures)

pub returns : goal.returns
returns c = all_joined c.args.items.now c.loop-item.item-index _ _ _ _ (omega arith) c.loop-item.invariant
