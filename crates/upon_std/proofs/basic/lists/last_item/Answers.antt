use Rattle.std.proofs.Common.{◌≡◌, sym, subst, ◌∙◌}
use Rattle.std.specs.Result.{IfOk}
use Rattle.upon_types.specs.View.{view}
use Rattle.upon_types.proofs.Views.{view-None}
use Rattle.upon_std.proofs.BasicLemmas.Items.{last_val-is}
use Rattle.upon_std.proofs.basic.lists.last_item.Goals as goal

pub returns-in-Some : goal.returns-in-Some
returns-in-Some c =
    let last = last_val-is c.args.items.now _ c.in-Some.ensures.value in
    subst (λ w. IfOk c.try_clone.result (λ v. view v ≡ w)) (sym last) c.try_clone.ensures

pub returns-in-None : goal.returns-in-None
returns-in-None c =
    let last = last_val-is c.args.items.now _ c.in-None.ensures.value in
    view-None ∙ sym last
