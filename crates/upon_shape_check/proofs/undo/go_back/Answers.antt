use Rattle.std.proofs.Common.{◌≤◌, List, length, ap, ◌∙◌, sym, arith}
use Rattle.upon_shape_spec.specs.Scope.{NameShape}
use Rattle.upon_shape.specs.View.{shape_view}
use Rattle.upon_shape_check.specs.Scope.{bound_view, name_view, names_view, scope_view}
use Rattle.upon_shape_check.specs.Undo.{undone}
use Rattle.upon_shape_check.proofs.Names.{bound_at-beyond, scope_of}
use Rattle.upon_shape_check.proofs.OnTop.{length-on_top}
use Rattle.upon_shape_check.proofs.undo.go_back.Goals as goal

pub returns-else-depth-len : goal.returns-else-depth-len
returns-else-depth-len c =
    let scope = c.args.scope.now in
    let names = scope.names in
    let beyond : length (names_view names.items) ≤ c.in-Name.depth = omega (arith, length-on_top name_view names.items, c.len.ensures, names.ok.0) in
    sym
    (ap (λ u. undone u (scope_view scope)) c.in-Name.is
    ∙ ap (λ (l : List NameShape). scope_of l (shape_view scope.root)) (bound_at-beyond (names_view names.items) c.in-Name.depth (bound_view c.in-Name.bound) beyond))
