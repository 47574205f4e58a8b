use Rattle.std.proofs.Common.{codes, option_map, subst}
use Rattle.upon_types.specs.Val.{key_of}
use Rattle.upon_types.specs.View.{view}
use Rattle.upon_shape.specs.View.{shape_view}
use Rattle.upon_calls.specs.Contexts.{AsksNoCheck, IsShapeBy}
use Rattle.upon_calls.specs.Failure.{RefusedIf}
use Rattle.upon_calls.specs.declared.failure.Argument.TheVariants.{Options}
use Rattle.upon_calls.proofs.Calls.{handed_on}
use Rattle.upon_calls.proofs.GivenContexts.{no_shape, not_on, not_paged}
use Rattle.upon_calls.proofs.Refusals.{refused_so}
use Rattle.upon_calls.proofs.contexts.checking_of.Goals as goal

pub returns-in_err-shape-clause-refused : goal.returns-in_err-shape-clause-refused
returns-in_err-shape-clause-refused c =
    handed_on (RefusedIf Options (AsksNoCheck (view c.args.value.now))) c.in_err-shape.field-0.0 c.from_residual.result c.from_residual.ensures.1 (refused_so Options c.in_err-shape.field-0.0 (no_shape (view c.args.value.now)) c.in_err-shape.ensures.refused)

pub returns-in_err-options-2-clause-refused : goal.returns-in_err-options-2-clause-refused
returns-in_err-options-2-clause-refused c =
    handed_on (RefusedIf Options (AsksNoCheck (view c.args.value.now))) c.in_err-options-2.field-0.0 c.from_residual-in_err-options-2.result c.from_residual-in_err-options-2.ensures.1 (refused_so Options c.in_err-options-2.field-0.0 (not_on (view c.args.value.now)) c.in_err-options-2.ensures.refused)

pub returns-in_err-pages-clause-refused : goal.returns-in_err-pages-clause-refused
returns-in_err-pages-clause-refused c =
    let v = view c.args.value.now in
    let some = subst (λ o. IsShapeBy (key_of (codes "samples") v) (key_of (codes "schema") v) (option_map shape_view o)) c.in-Some.is c.in_ok-shape.ensures.read in
    handed_on (RefusedIf Options (AsksNoCheck v)) c.in_err-pages.field-0.0 c.from_residual-in_err-pages.result c.from_residual-in_err-pages.ensures.1 (refused_so Options c.in_err-pages.field-0.0 (not_paged v (shape_view c.in-Some.shape) some) c.in_err-pages.ensures.refused)
