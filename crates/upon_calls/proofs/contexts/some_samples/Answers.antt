use Rattle.std.proofs.Common.{◌≡◌, None, Some, IfErr, IfOk, map, subst, sym}
use Rattle.upon_types.specs.View.{view}
use Rattle.upon_calls.specs.Failure.{RefusedIf}
use Rattle.upon_calls.specs.declared.failure.Argument.TheVariants.{Options}
use Rattle.upon_calls.proofs.GivenContexts.{no_samples, some_samples}
use Rattle.upon_calls.proofs.Refusals.{refused_for}
use Rattle.upon_calls.proofs.contexts.some_samples.Goals as goal

pub returns-then-is_empty-clause-refused : goal.returns-then-is_empty-clause-refused
returns-then-is_empty-clause-refused c = refused_for Options c.wants.result c.wants.ensures (no_samples c.args.items.now (sym c.if-is_empty.ensures))

pub returns-clause-read : goal.returns-clause-read
returns-clause-read c =
    subst (λ o. IfOk c.samples_of.result (λ all. o ≡ Some (map view all.items))) (sym (some_samples c.args.items.now (sym c.if-is_empty.ensures))) c.samples_of.ensures.read

pub returns-clause-refused : goal.returns-clause-refused
returns-clause-refused c =
    subst (λ o. IfErr c.samples_of.result (RefusedIf Options (o ≡ None))) (sym (some_samples c.args.items.now (sym c.if-is_empty.ensures))) c.samples_of.ensures.refused
