use Rattle.std.proofs.Common.{◌<◌, List, length, get_or, ap, ◌∙◌, arith}
use Rattle.upon_shape_spec.specs.Scope.{name_shape}
use Rattle.upon_shape_check.specs.declared.scope.NameShape.{NameShape}
use Rattle.upon_shape_check.proofs.Scoping.{copied_more}
use Rattle.upon_shape_check.proofs.scope.Scope.try_clone.Goals as goal

pub loop-name-preserved : goal.loop-name-preserved
loop-name-preserved c =
    let names = c.args.self.now.names.items in
    let i = c.loop-name.name-index in
    let x = c.name-item.result in
    let below : i < length names = omega (arith, ap (λ (l : List NameShape). length l) c.deref-name-items.ensures.value) in
    copied_more c.loop-name.names.items c.push.new.self.items names i x _ below
    (c.name-item.is ∙ ap (λ (l : List NameShape). get_or l i x) c.deref-name-items.ensures.value)
    (ap (name_shape x.name.now) c.in_ok-try_clone.ensures) c.in_ok-push.ensures.items c.loop-name.invariant
