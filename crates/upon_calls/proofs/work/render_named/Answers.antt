use Rattle.std.proofs.Common.{Some, ap, refl}
use Rattle.upon_types.specs.Error.{fault_of}
use Rattle.upon_types.specs.View.{view}
use Rattle.upon_calls.proofs.Rendering.{named_fails, named_means, no_name, reported}
use Rattle.upon_calls.proofs.work.render_named.Goals as goal

pub returns-in_default-clause-fails : goal.returns-in_default-clause-fails
returns-in_default-clause-fails g c = no_name _ _ c.no_template.result c.no_template.ensures (c.in_default.ensures.absent.0 refl)

pub returns-in-Ok-clause-gives : goal.returns-in-Ok-clause-gives
returns-in-Ok-clause-gives g c =
    named_means c.args.limits.now _ c.args.name.now (view c.args.value.now) (Some c.in-Some.answer) c.requires c.in-Some.ensures.means c.in-Some.ensures.absent c.in-Ok.text (ap Some c.in-Ok.is)

pub returns-in-Err-clause-fails : goal.returns-in-Err-clause-fails
returns-in-Err-clause-fails g c =
    reported _ _ (fault_of c.in-Err.error) c.of_error.result c.of_error.ensures (named_fails c.args.limits.now _ c.args.name.now (view c.args.value.now) (Some c.in-Some.answer) c.requires c.in-Some.ensures.means c.in-Some.ensures.absent c.in-Err.error (ap Some c.in-Err.is))
