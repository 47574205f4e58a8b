use Rattle.std.proofs.Common.{List, string_bytes, sym, ap, ◌∙◌}
use Rattle.upon_shape_spec.specs.Shape.{other_keys}
use Rattle.upon_shape.specs.View.{shape_view, ahead}
use Rattle.upon_shape.specs.declared.shape.Key.{Key}
use Rattle.upon_shape.specs.declared.shape.Shape.{Shape}
use Rattle.upon_shape.proofs.KeysAhead.{ahead-push, keys_and-ahead}
use Rattle.upon_shape.proofs.shape.Keys+Shape.with_key.Goals as goal

pub returns : goal.returns
returns c =
    let named = c.args.self.named.items in
    let others = shape_view c.args.self.others.value in
    ap (λ (ks : List (Key Shape)). ahead ks (other_keys others)) c.in_ok-push.ensures.items
    ∙ ahead-push named _ (other_keys others)
    ∙ sym (keys_and-ahead (string_bytes c.args.name) c.args.required (shape_view c.args.shape) others named)
