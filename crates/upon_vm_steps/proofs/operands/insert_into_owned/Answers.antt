use Rattle.std.proofs.Common.{◌∷◌, String, BTreeMap, Global, string_cmp, refl, sym, ap, ◌∙◌, rules}
use Rattle.std.specs.BTreeMap.{insert_entry}
use Rattle.upon_types.specs.AstPath.{string_of}
use Rattle.upon_types.specs.View.{view}
use Rattle.upon_types.specs.declared.value.Value.{Value, the_lemmas}
use Rattle.upon_meaning_spec.specs.Evaluation.{operand}
use Rattle.upon_vm_steps.proofs.Entries.{map_with-inserted}
use Rattle.upon_vm_steps.proofs.operands.insert_into_owned.Goals as goal

pub returns-in_ok-insert-in-Map : goal.returns-in_ok-insert-in-Map
returns-in_ok-insert-in-Map c =
    λ at ops.
    map_with-inserted (view c.args.map.now) (view c.args.value) (string_of c.args.key.now) c.in-Map.entries c.insert.new.self c.in_ok-clone-in-Map.field-0 c.args.value at ops _
    (ap view (sym c.in-Map.is)) refl c.in_ok-clone-in-Map.ensures.cases
    (c.in_ok-insert-in-Map.ensures.entries ∙ ap (λ (m : BTreeMap (String Global) Value). insert_entry string_cmp m.entries c.in_ok-clone-in-Map.field-0 c.args.value) c.in-Map.entries-is)
    (ap (λ v. operand (view v) at ∷ ops) (search (rules, the_lemmas, c.in-Map.is)))
