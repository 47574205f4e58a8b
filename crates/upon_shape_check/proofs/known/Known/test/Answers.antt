use Rattle.upon_shape_check.proofs.Stepping.{tested, tested_not}
use Rattle.upon_shape_check.proofs.known.Known.test.Goals as goal

pub returns-in_ok-push : goal.returns-in_ok-push
returns-in_ok-push c = λ o same. tested c.args.so _ _ _ _ _ _ _ o _ c.if-so.true same c.in_ok-change.ensures.narrowed c.in_ok-change.ensures.undo c.in_ok-push.ensures.items

pub returns-in_ok-push-2 : goal.returns-in_ok-push-2
returns-in_ok-push-2 c = λ o same. tested_not c.args.so _ _ _ _ _ o _ c.if-so.false same c.in_ok-push-2.ensures.items
