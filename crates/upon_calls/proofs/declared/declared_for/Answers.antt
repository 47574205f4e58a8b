use Rattle.std.proofs.Common.{◌≡◌, subst}
use Rattle.upon_shape_check.specs.Callables.{declared_view}
use Rattle.upon_std_shapes.specs.Tables.{with_all_declared}
use Rattle.upon_calls.specs.Asked.{asked_by}
use Rattle.upon_calls.proofs.Declaring.{all_declared, all_keep}
use Rattle.upon_calls.proofs.declared.declared_for.Goals as goal

pub returns-clause-declared : goal.returns-clause-declared
returns-clause-declared c =
    let old = declared_view c.in_ok-declared.declared in let new = declared_view c.declare_standard.new.declared in
    all_declared old new (asked_by c.args.options.now) c.in_ok-declared.ensures.callables c.in_ok-declared.ensures.default
    (λ name. subst (λ fs. new.callables name ≡ with_all_declared fs old.callables name) c.standard.ensures (c.in_ok-declare_standard.ensures.ok name))
    c.declare_standard.ensures.default

pub returns-clause-kept : goal.returns-clause-kept
returns-clause-kept c =
    let old = declared_view c.in_ok-declared.declared in let new = declared_view c.declare_standard.new.declared in
    all_keep old new (asked_by c.args.options.now) c.in_ok-declared.ensures.callables c.in_ok-declared.ensures.default
    (λ name. subst (λ fs. new.callables name ≡ with_all_declared fs old.callables name) c.standard.ensures (c.in_ok-declare_standard.ensures.ok name))
    c.declare_standard.ensures.default
