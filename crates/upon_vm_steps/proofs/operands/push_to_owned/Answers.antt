use Rattle.std.proofs.Common.{List, Vec, Global, [], ◌∷◌, ◌++◌, refl, sym, ap, ◌∙◌, rules}
use Rattle.upon_types.specs.View.{view}
use Rattle.upon_types.specs.declared.value.Value.{Value, the_lemmas}
use Rattle.upon_meaning_spec.specs.Evaluation.{operand}
use Rattle.upon_vm_steps.proofs.Entries.{list_with-pushed}
use Rattle.upon_vm_steps.proofs.operands.push_to_owned.Goals as goal

pub returns-in_ok-reserve-in-List : goal.returns-in_ok-reserve-in-List
returns-in_ok-reserve-in-List c =
    λ at ops.
    list_with-pushed (view c.args.list.now) (view c.args.item) c.in-List.items c.push_reserved.new.self c.args.item at ops _ (ap view (sym c.in-List.is)) refl
    (c.push_reserved.ensures.items ∙ ap (λ (l : List Value). l ++ c.args.item ∷ []) c.in_ok-reserve-in-List.ensures.items
    ∙ ap (λ (v : Vec Value Global). v.items ++ c.args.item ∷ []) c.in-List.items-is) (ap (λ v. operand (view v) at ∷ ops) (search (rules, the_lemmas, c.in-List.is)))
