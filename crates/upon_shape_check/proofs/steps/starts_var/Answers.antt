use Rattle.std.proofs.Common.{Some, ap, ◌∙◌}
use Rattle.upon_types.specs.AstPath.{first_member, rest_members}
use Rattle.upon_shape_spec.specs.Scope.{path_shape}
use Rattle.upon_shape_spec.specs.Known.{known_operand, with_operand}
use Rattle.upon_shape_check.specs.Known.{known_view, path_view}
use Rattle.upon_shape_check.specs.Scope.{scope_view}
use Rattle.upon_shape_check.proofs.steps.starts_var.Goals as goal

pub returns : goal.returns
returns c = λ number d inc.
    let path = c.args.path.now in
    let old = known_view c.args.known.now in
    let shape = path_shape (scope_view c.args.known.now.scope) (first_member path) (rest_members path) in (
      c.parts-found.ensures.doubts ∙ c.in_ok-path_found.ensures.doubts,
      c.in_ok-push.ensures
          ∙ (ap (λ s. with_operand (known_operand s c.span.result (Some (path_view path))) old) (c.parts-found.ensures.shape ∙ c.in_ok-path_found.ensures.shape)
          ∙ ap (λ at. with_operand (known_operand shape at (Some (path_view path))) old) c.span.ensures),
    )
