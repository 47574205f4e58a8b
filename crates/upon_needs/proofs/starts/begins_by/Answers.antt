use Rattle.std.proofs.Common.{◌≡◌, ◌↔◌, true, sym, ◌∙◌, subst}
use Rattle.upon_meaning_spec.specs.Needs.{StatementsBegin}
use Rattle.upon_machine_spec.proofs.NamesOfTree.{tree_begins}
use Rattle.upon_needs.specs.EngineNeeds.{start_of}
use Rattle.upon_engine.specs.Template.{template_tree}
use Rattle.upon_needs.proofs.IndexStarts.{tree_begins_by_index}
use Rattle.upon_needs.proofs.starts.begins_by.Goals as goal

pub returns-in-Name : goal.returns-in-Name
returns-in-Name c =
    let tree = template_tree c.args.template.now in
    let law = tree_begins c.in-Name.name.now tree in
    subst (λ s. (c.begins.result ≡ true) ↔ StatementsBegin (start_of s) tree) (sym c.in-Name.is) (λ e. law.0 (sym c.begins.ensures ∙ e), λ h. c.begins.ensures ∙ law.1 h)

pub returns-in-Index : goal.returns-in-Index
returns-in-Index c =
    let tree = template_tree c.args.template.now in
    let law = tree_begins_by_index tree in
    subst (λ s. (c.begins_by_index.result ≡ true) ↔ StatementsBegin (start_of s) tree) (sym c.in-Index.is) (λ e. law.0 (sym c.begins_by_index.ensures ∙ e), λ h. c.begins_by_index.ensures ∙ law.1 h)
