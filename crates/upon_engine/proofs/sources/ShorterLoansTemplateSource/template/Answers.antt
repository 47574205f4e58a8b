use Rattle.std.proofs.Common.{sym, ap, ◌∙◌}
use Rattle.upon_lookup.specs.Source.{says}
use Rattle.upon_engine.specs.Template.{template_of}
use Rattle.upon_engine.proofs.sources.ShorterLoansTemplateSource.template.Goals as goal

pub returns-in-Ok-clause-resolved : goal.returns-in-Ok-clause-resolved
returns-in-Ok-clause-resolved g c =
    let asked = c.in-Ok.ensures.resolved in
    (asked.0 ∙ ap (λ t. says (template_of t)) (sym c.lent.ensures), asked.1)
