use Rattle.std.proofs.lemmas.Result.{IfOk-weaker}
use Rattle.upon_engine.specs.Template.{template_tree}
use Rattle.upon_needs.proofs.SetsOfNames.{has_includes}
use Rattle.upon_needs.proofs.template_names.includes.Goals as goal

pub returns-clause-included : goal.returns-clause-included
returns-clause-included c =
    let tree = template_tree c.args.template.now in
    let has_them = has_includes c.new-names.result _ tree _ c.new-names.ensures.empty c.in_ok-each_include.ensures c.in_ok-insert_all.ensures in
    IfOk-weaker c.ascending.result _ _ (λ v same name. (λ h. (has_them name).0 ((same name).0 h), λ h. (same name).1 ((has_them name).1 h))) c.ascending.ensures.same
