use Rattle.std.proofs.Common.{◌≡◌, List, refl, sym, ap, ◌∙◌, ◌+◌, ◌++◌, ◌∷◌, [], drop}
use Rattle.upon_shape_spec.specs.Join.{opened_keys, opened_maps}
use Rattle.upon_shape_spec.specs.Shape.{Shape as SpecShape, any_shape, any_others, other_keys, maps_of}
use Rattle.upon_shape.specs.View.{shape_view, ahead, maps_view}
use Rattle.upon_shape.specs.declared.shape.Key.{Key}
use Rattle.upon_shape.specs.declared.shape.Shape.{Shape}
use Rattle.upon_shape.proofs.MoreSteps.{open_pushed, open_done, opened-others}
use Rattle.upon_shape.proofs.ShapeViews.{view-Any}
use Rattle.upon_shape.proofs.+open.Goals as goal

pub open::opened_keys-loop-key-preserved : goal.open::opened_keys-loop-key-preserved
open::opened_keys-loop-key-preserved t c =
    let x = c.key-item.result in
    let ys = c.deref-key-items.result.now in
    let i = c.loop-key.key-index in
    let k : Key Shape = record { name = c.in_ok-clone.field-0; required = x.required; shape = c.in_ok-opened.field-0 } in
    let push : c.push.new.self.items ≡ c.loop-key.named.items ++ k ∷ [] = c.in_ok-push.ensures.items in
    ap (λ (ks : List (Key Shape)). ahead ks (opened_keys (ahead (drop (i + 1) ys) any_others))) push
    ∙ open_pushed ys i x any_shape c.loop-key.named.items k (opened_keys (ahead ys any_others)) c.loop-key-test.true c.key-item.is c.in_ok-clone.ensures.cases refl c.in_ok-opened.ensures c.loop-key.invariant

pub open::opened_keys-returns : goal.open::opened_keys-returns
open::opened_keys-returns t c =
    let named = c.loop-key.named.items in
    let ys = c.deref-key-items.result.now in
    let keys = c.in-Some.keys in
    ap (λ (s : SpecShape). maps_of (ahead named (other_keys s))) (ap shape_view c.in_ok-new.ensures.ok ∙ view-Any)
    ∙ ap maps_of (open_done ys c.loop-key.key-index any_shape named (opened_keys (ahead ys any_others)) c.loop-key-test.false c.loop-key.invariant
    ∙ ap (λ (ks : List (Key Shape)). opened_keys (ahead ks any_others)) c.deref-key-items.ensures.value
    ∙ opened-others keys.named.items any_shape (shape_view keys.others.value))
    ∙ (λ j. opened_maps (maps_view (sym c.in-Some.is j)))
