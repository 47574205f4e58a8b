use Rattle.std.proofs.Common.{◌≡◌, List, length, map, ap, sym, ◌∙◌, arith}
use Rattle.std.specs.Vec.{with_items}
use Rattle.std.proofs.lemmas.List.{with_items_is}
use Rattle.upon_types.specs.AstPath.{member_of}
use Rattle.upon_types.specs.declared.types.ast.path.Member.{Member}
use Rattle.upon_shape_spec.specs.Narrowed.{narrowed}
use Rattle.upon_shape.specs.View.{shape_view}
use Rattle.upon_shape_check.specs.Scope.{bound_view, names_view}
use Rattle.upon_shape_check.specs.Undo.{bound_anew}
use Rattle.upon_shape_check.specs.declared.scope.NameShape.{NameShape}
use Rattle.upon_shape_check.proofs.Names.{depth_within, narrowed_context, narrowed_name}
use Rattle.upon_shape_check.proofs.undo.narrow.Goals as goal

pub rebind-requires : goal.rebind-requires
rebind-requires c = depth_within _ _ _ _ (c.deref.ensures.value ∙ sym c.deref_mut.ensures.value) c.in-Some.ensures.0

pub returns-in_ok-inside-in-None-clause-narrowed : goal.returns-in_ok-inside-in-None-clause-narrowed
returns-in_ok-inside-in-None-clause-narrowed c =
    narrowed_context c.args.path.now c.first.result.now c.in-Key.word c.deref.result.now c.args.scope.now.names.items _ _ c.as_str.result.now c.first.ensures c.in-Key.is c.as_str.ensures c.deref.ensures.value
    c.in-None.ensures.0 c.in-None.ensures.1
    (ap shape_view c.replace.ensures.after
    ∙ (c.in_ok-inside-in-None.ensures
    ∙ ap (λ (l : List Member). narrowed (map member_of l) (shape_view c.args.scope.now.root)) c.deref-in-None.ensures.value))

pub returns-in_ok-inside-in-Some-clause-narrowed : goal.returns-in_ok-inside-in-Some-clause-narrowed
returns-in_ok-inside-in-Some-clause-narrowed c =
    let names = c.args.scope.now.names in
    let even : length c.rebind.new.names ≡ names.len = omega (arith, c.rebind.auto.names, c.deref_mut.ensures.len) in
    narrowed_name c.args.path.now c.first.result.now c.in-Key.word c.deref.result.now names.items (with_items names c.rebind.new.names).items (shape_view c.args.scope.now.root) c.as_str.result.now _ _ _ _ c.first.ensures c.in-Key.is c.as_str.ensures
    c.deref.ensures.value c.in-Some.ensures.0 c.in-Some.ensures.1 c.rest.ensures c.in_ok-inside-in-Some.ensures
    (ap names_view (with_items_is names c.rebind.new.names even)
    ∙ (c.rebind.ensures.names ∙ ap (λ (l : List NameShape). bound_anew c.in-Some.place.depth (bound_view c.in_ok-inside-in-Some.inside) (names_view l)) c.deref_mut.ensures.value))
