use Rattle.std.proofs.Common.{Some, ap, ◌∙◌}
use Rattle.upon_types.specs.View.{view}
use Rattle.upon_types.proofs.Views.{view-Map}
use Rattle.upon_json.proofs.Rising.{rises-map}
use Rattle.upon_json.proofs.context.entries_of.Goals as goal

pub returns-in-Ok-clause-rise : goal.returns-in-Ok-clause-rise
returns-in-Ok-clause-rise c =
    let value = c.in_ok-value_of in
    rises-map _ _ (value.ensures.read ∙ ap (λ v. Some (view v)) c.in-Ok.ensures.entries ∙ ap Some (view-Map c.in-Ok.entries))
