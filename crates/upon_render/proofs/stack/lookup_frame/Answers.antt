use Rattle.std.proofs.Common.{refl, ap, subst}
use Rattle.upon_types.specs.Error.{fault_of}
use Rattle.upon_types.specs.Fault.{fault_with_picture, OrMemory}
use Rattle.upon_types.specs.Path.{Member}
use Rattle.upon_types.specs.declared.types.Span.{Span}
use Rattle.upon_lookup.specs.Finding.{at_fault}
use Rattle.upon_lookup.specs.LookupFaults.{not_in_scope}
use Rattle.upon_types.specs.AstPath.{first_member}
use Rattle.upon_lookup.specs.Answer.{is_borrowed_value}
use Rattle.upon_render.specs.Frames.{frame_bindings}
use Rattle.upon_render.specs.Loop.{is_lent_loop}
use Rattle.upon_render.specs.declared.stack.Frame.TheVariants.{Var, Loop}
use Rattle.upon_render.proofs.Known.{frame_finds, bound_to-nil}
use Rattle.upon_render.proofs.stack.lookup_frame.Goals as goal

pub returns-in-Var : goal.returns-in-Var
returns-in-Var c env lent =
    rw c.in-Var.is (frame_finds c.args.source.now c.lookup_named.result (frame_bindings (Var c.in-Var.ident c.in-Var.value)) env (is_borrowed_value c.in-Var.value) lent _ _ c.lookup_named.ensures.answer c.lookup_named.ensures.lent)

pub returns-in-Loop : goal.returns-in-Loop
returns-in-Loop c env lent =
    rw c.in-Loop.is (frame_finds c.args.source.now c.lookup_var.result (frame_bindings (Loop c.in-Loop.state)) env (is_lent_loop c.in-Loop.state) lent _ _ c.lookup_var.ensures.answer c.lookup_var.ensures.lent)

pub returns-in-Boundary : goal.returns-in-Boundary
returns-in-Boundary c env lent =
    let P : Span → Type 0 = λ at. OrMemory (fault_with_picture c.args.source.now (not_in_scope at)) (fault_of c.not_in_scope.result) in
    let told : P (first_member c.args.var.now).span = subst P (ap (λ (s : Member). s.span) c.first-in-Boundary.ensures) c.not_in_scope.ensures in
    rw (c.in-Boundary.is, bound_to-nil (first_member c.args.var.now).access) (at_fault (not_in_scope (first_member c.args.var.now).span), (refl, told, λ is. tt))
