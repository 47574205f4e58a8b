use Rattle.std.proofs.Common.{◌↔◌, ℕ, List, IfOk, sym, subst}
use Rattle.std.proofs.lemmas.Result.{IfOk-weaker}
use Rattle.upon_meaning_spec.specs.Includes.{Includes}
use Rattle.upon_machine_spec.specs.ProgramNames.{IsListed}
use Rattle.upon_machine_spec.proofs.NamesOfTree.{tree_includes}
use Rattle.upon_needs.specs.EngineNeeds.{link}
use Rattle.upon_needs.specs.Names.{texts}
use Rattle.upon_engine.specs.Template.{template_tree}
use Rattle.upon_needs.proofs.needs.linked.Goals as goal

pub returns-in-All : goal.returns-in-All
returns-in-All c =
    let tree = template_tree c.args.template.now in
    subst (λ by. IfOk c.each_include.result (λ v. (name : List ℕ) → IsListed (texts v.items) name ↔ link by tree name)) (sym c.in-All.is)
    (IfOk-weaker c.each_include.result _ _ (λ v same via. subst (λ l. IsListed l via ↔ Includes via tree) (sym same) (tree_includes via tree)) c.each_include.ensures)
