use Rattle.std.proofs.Common.{Some, ap, sym, ◌∙◌, arith}
use Rattle.std.proofs.lemmas.Grind.{common_steps}
use Rattle.upon_shape_spec.specs.Shape.{maps_of, one_of}
use Rattle.upon_shape.specs.View.{keys_view, lists_view, plain_view, shape_view}
use Rattle.upon_shape.specs.declared.shape.Shape.{OneOf}
use Rattle.upon_shape.proofs.ShapeViews.{view-OneOf}
use Rattle.upon_shape.proofs.+copy.Goals as goal

pub shape::Shape::try_clone-returns-in_ok-try_clone-in-Some : goal.shape::Shape::try_clone-returns-in_ok-try_clone-in-Some
shape::Shape::try_clone-returns-in_ok-try_clone-in-Some t c =
    let p = c.in-OneOf.plain in
    let items = c.in-OneOf.items in
    let keys = c.in_ok-try_clone-in-Some.field-0 in
    view-OneOf p c.in_ok-copy_of_items-in-Some.field-0 (Some keys)
    ∙ (ap (λ l. one_of (plain_view p) l (maps_of (keys_view keys))) c.in_ok-copy_of_items-in-Some.ensures
    ∙ (ap (λ ks. one_of (plain_view p) (lists_view items) (maps_of ks)) c.in_ok-try_clone-in-Some.ensures
    ∙ sym (ap shape_view c.in-OneOf.is ∙ (ap (λ m. shape_view (OneOf p items m)) c.in-Some.is ∙ view-OneOf p items (Some c.in-Some.keys)))))

-- the search finds no proof of this, and takes long
pub copy::Keys+Shape::try_clone-returns : goal.copy::Keys+Shape::try_clone-returns
copy::Keys+Shape::try_clone-returns = grind (arith, common_steps)
