use Rattle.std.proofs.Common.{◌↔◌, ℕ, List, IfOk, sym, subst}
use Rattle.std.proofs.lemmas.Result.{IfOk-weaker}
use Rattle.upon_meaning_spec.specs.Needs.{a_name, an_index, StatementsPass}
use Rattle.upon_machine_spec.specs.ProgramNames.{IsListed}
use Rattle.upon_machine_spec.proofs.NamesOfTree.{tree_passes}
use Rattle.upon_needs.specs.EngineNeeds.{start_of}
use Rattle.upon_needs.specs.Names.{texts}
use Rattle.upon_engine.specs.Template.{template_tree}
use Rattle.upon_needs.proofs.IndexStarts.{tree_passes_index}
use Rattle.upon_needs.proofs.starts.passes_by.Goals as goal

pub returns-in-Name : goal.returns-in-Name
returns-in-Name c =
    let tree = template_tree c.args.template.now in
    subst (λ s. IfOk c.passes.result (λ v. (name : List ℕ) → IsListed (texts v.items) name ↔ StatementsPass (start_of s) name tree)) (sym c.in-Name.is)
    (IfOk-weaker c.passes.result _ _ (λ v same via. subst (λ l. IsListed l via ↔ StatementsPass (a_name c.in-Name.name.now) via tree) (sym same) (tree_passes c.in-Name.name.now via tree)) c.passes.ensures)

pub returns-in-Index : goal.returns-in-Index
returns-in-Index c =
    let tree = template_tree c.args.template.now in
    subst (λ s. IfOk c.plain_includes.result (λ v. (name : List ℕ) → IsListed (texts v.items) name ↔ StatementsPass (start_of s) name tree)) (sym c.in-Index.is)
    (IfOk-weaker c.plain_includes.result _ _ (λ v same via. subst (λ l. IsListed l via ↔ StatementsPass an_index via tree) (sym same) (tree_passes_index via tree)) c.plain_includes.ensures)
