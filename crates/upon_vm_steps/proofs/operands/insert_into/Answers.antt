use Rattle.std.proofs.Common.{◌≡◌, ◌∷◌, Some, None, IfOk, sym, subst}
use Rattle.std.specs.Prelude.{MatchOption}
use Rattle.upon_types.specs.AstPath.{string_of}
use Rattle.upon_types.specs.Cow.{cow_view}
use Rattle.upon_types.specs.View.{view}
use Rattle.upon_types.specs.declared.value.cow.ValueCow.{ValueCow}
use Rattle.upon_types.specs.declared.value.cow.ValueCow.TheVariants.{Owned}
use Rattle.upon_meaning_spec.specs.Evaluation.{operand}
use Rattle.upon_vm_steps.specs.Items.{map_with_operand}
use Rattle.upon_vm_steps.proofs.operands.insert_into.Goals as goal

pub returns-in-Owned : goal.returns-in-Owned
returns-in-Owned c =
    λ at ops.
    let P : ValueCow → Type 0 = λ l. IfOk c.insert_into_owned.result (λ done. MatchOption done (map_with_operand (cow_view l) (string_of c.args.key.now) (view c.args.value) at ops ≡ None) (λ _. map_with_operand (cow_view l) (string_of c.args.key.now) (view c.args.value) at ops ≡ Some (operand (cow_view (Owned c.insert_into_owned.new.map)) at ∷ ops))) in
    subst P (sym c.in-Owned.is) (c.insert_into_owned.ensures at ops)
