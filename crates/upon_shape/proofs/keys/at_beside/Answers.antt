use Rattle.std.proofs.Common.{false, sym, ap, ◌∙◌}
use Rattle.upon_shape_spec.specs.Shape.{key_shape}
use Rattle.upon_shape.specs.View.{shape_view, keys_view}
use Rattle.upon_shape.specs.declared.shape.Shape.{Shape}
use Rattle.upon_shape.proofs.KeysAhead.{at_seen, at_unseen}
use Rattle.upon_shape.proofs.keys.at_beside.Goals as goal

pub returns-then-is_named : goal.returns-then-is_named
returns-then-is_named c =
    ap (λ (s : Shape). key_shape false (shape_view s)) c.deref.ensures
    ∙ sym (at_seen c.args.name.now c.args.seen.now c.args.keys.now.named.items (shape_view c.args.keys.now.others.value) (sym c.is_named.ensures ∙ c.if-is_named.true))

pub returns : goal.returns
returns c = c.at.ensures ∙ sym (at_unseen c.args.name.now c.args.seen.now (keys_view c.args.keys.now) (sym c.is_named.ensures ∙ c.if-is_named.false))
