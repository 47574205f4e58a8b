use Rattle.std.proofs.Common.{◌≡◌, ◌∷◌, Some, None, IfOk, sym, subst}
use Rattle.std.specs.Prelude.{MatchOption}
use Rattle.upon_types.specs.Cow.{cow_view}
use Rattle.upon_types.specs.View.{view}
use Rattle.upon_types.specs.declared.value.cow.ValueCow.{ValueCow}
use Rattle.upon_types.specs.declared.value.cow.ValueCow.TheVariants.{Owned}
use Rattle.upon_meaning_spec.specs.Evaluation.{operand}
use Rattle.upon_vm_steps.specs.Items.{list_with}
use Rattle.upon_vm_steps.proofs.operands.push_to.Goals as goal

pub returns-in-Owned : goal.returns-in-Owned
returns-in-Owned c =
    λ at ops.
    let P : ValueCow → Type 0 = λ l. IfOk c.push_to_owned.result (λ done. MatchOption done (list_with (cow_view l) (view c.args.item) at ops ≡ None) (λ _. list_with (cow_view l) (view c.args.item) at ops ≡ Some (operand (cow_view (Owned c.push_to_owned.new.list)) at ∷ ops))) in
    subst P (sym c.in-Owned.is) (c.push_to_owned.ensures at ops)
