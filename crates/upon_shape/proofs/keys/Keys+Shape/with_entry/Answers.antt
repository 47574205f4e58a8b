use Rattle.std.proofs.lemmas.Fn.{filter_same}
use Rattle.std.proofs.Common.{List, true, ap, ◌∙◌, rules, string_bytes}
use Rattle.upon_shape_spec.specs.Shape.{key_then, other_keys}
use Rattle.upon_shape.specs.View.{ahead, shape_view}
use Rattle.upon_shape.specs.declared.shape.Key.{Key}
use Rattle.upon_shape.specs.declared.shape.Shape.{Shape}
use Rattle.upon_shape.proofs.KeysAhead.{ahead-kept, differs}
use Rattle.upon_shape.proofs.keys.Keys+Shape.with_entry.Goals as goal

pub returns : goal.returns
returns c =
    let name = string_bytes c.args.name in
    let others = shape_view c.args.self.others.value in
    let kept = filter_same _ (differs name) _ (λ x r f' k. search rules) c.args.self.named.items _ c.retain.ensures.filtered in
    let seen = λ (l : List (Key Shape)). ahead l (other_keys others) in
    ap seen c.in_ok-insert.ensures.items ∙ ap (key_then name true (shape_view c.args.shape)) (ap seen kept ∙ ahead-kept name c.args.self.named.items others)
