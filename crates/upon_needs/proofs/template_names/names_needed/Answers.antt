use Rattle.std.proofs.Common.{sym, ◌∙◌}
use Rattle.std.proofs.lemmas.Result.{IfOk-weaker}
use Rattle.upon_machine_spec.proofs.NamesOfTree.{tree_begins}
use Rattle.upon_engine.specs.Template.{template_tree}
use Rattle.upon_needs.proofs.template_names.names_needed.Goals as goal

pub returns-clause-needed : goal.returns-clause-needed
returns-clause-needed c =
    IfOk-weaker c.ascending.result _ _ (λ v same name.
    let free = c.in_ok-free_names.ensures name in
    let law = tree_begins name (template_tree c.args.template.now) in
    (λ h. law.0 (sym free ∙ (same name).0 h), λ h. (same name).1 (free ∙ law.1 h))) c.ascending.ensures.same
