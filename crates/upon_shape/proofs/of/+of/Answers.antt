use Rattle.std.proofs.Common.{◌≡◌, ◌<◌, ◌+◌, ◌-◌, List, length, true, string_bytes, String, Global, refl, sym, ap, subst, ◌∙◌, ◌++◌, ◌∷◌, [], arith}
use Rattle.std.proofs.lemmas.Grind.{common_steps}
use Rattle.upon_types.specs.Val.{entry_then}
use Rattle.upon_types.specs.View.{view, entries_view}
use Rattle.upon_types.specs.declared.value.Value.{Value}
use Rattle.upon_types.proofs.Bindings.{rises-entries}
use Rattle.upon_shape_spec.specs.Cut.{cut_to, cut_keys, EntriesRiseTo}
use Rattle.upon_shape_spec.specs.Join.{join_shapes, shape_of, keys_shape}
use Rattle.upon_shape.specs.View.{ahead, shape_view}
use Rattle.upon_shape.specs.declared.shape.Key.{Key}
use Rattle.upon_shape.specs.declared.shape.Shape.{Shape}
use Rattle.upon_shape.proofs.Samples.{rise_before, shape_before}
use Rattle.upon_shape.proofs.Steps.{pushed}
use Rattle.upon_shape.proofs.of.+of.Goals as goal

pub entries_shape-loop-key-preserved : goal.entries_shape-loop-key-preserved
entries_shape-loop-key-preserved t c =
    let named = c.loop-key.named.items in
    let left = c.next.new.self in
    let k : Key Shape = record { name = c.in_ok-clone.field-0; required = true; shape = c.in_ok-value_shape.field-0 } in
    let push : c.push.new.self.items ≡ named ++ k ∷ [] = c.in_ok-push.ensures.items in
    let value = view c.in-Some.value.now in
    let levels = c.args.levels in
    record {
      shape = ap (λ (ks : List (Key Shape)). ahead ks (cut_keys levels (keys_shape (entries_view left)))) push
          ∙ pushed named k (string_bytes c.in-Some.key.now) true (cut_to levels (shape_of value)) (cut_keys levels (keys_shape (entries_view left))) (cut_keys levels (keys_shape (entry_then (string_bytes c.in-Some.key.now) value (entries_view left))))
          c.in_ok-clone.ensures.cases refl c.in_ok-value_shape.ensures.shape refl
          ∙ ap (λ (es : List (String Global × Value)). ahead named (cut_keys levels (keys_shape (entries_view es)))) (sym c.in-Some.ensures.steps)
          ∙ c.loop-key.invariant.shape;
      rises = λ rest. c.loop-key.invariant.rises (subst (λ (es : List (String Global × Value)). EntriesRiseTo levels (entries_view es)) (sym c.in-Some.ensures.steps) (c.in_ok-value_shape.ensures.rises, rest));
    }

pub entries_shape-returns-clause-in_order : goal.entries_shape-returns-clause-in_order
entries_shape-returns-clause-in_order t c = rises-entries c.args.entries.now.entries c.iter-key-items.ensures.ordered

pub entries_shape-returns-clause-rises : goal.entries_shape-returns-clause-rises
entries_shape-returns-clause-rises t c =
    c.loop-key.invariant.rises (subst (λ (es : List (String Global × Value)). EntriesRiseTo c.args.levels (entries_view es)) (sym c.in-None.ensures.steps.0) tt)

-- the search finds no proof of these, and takes long
pub entries_shape-loop-key-smaller : goal.entries_shape-loop-key-smaller
entries_shape-loop-key-smaller = grind (arith, common_steps)

pub joined_shape-loop-index-init : goal.joined_shape-loop-index-init
joined_shape-loop-index-init = grind (arith, common_steps)

pub joined_shape-loop-index-smaller-in_ok-shape : goal.joined_shape-loop-index-smaller-in_ok-shape
joined_shape-loop-index-smaller-in_ok-shape = grind (arith, common_steps)

pub joined_shape-loop-index-smaller : goal.joined_shape-loop-index-smaller
joined_shape-loop-index-smaller = grind (arith, common_steps)

pub joined_shape-loop-index-preserved : goal.joined_shape-loop-index-preserved
joined_shape-loop-index-preserved t c =
    let levels = c.args.levels in
    let vs = c.args.values.now in
    let next = c.loop-index.index in
    let item = c.index-values-index.result in
    let so_far = shape_view c.loop-index.shape in
    let more : next ≡ (next - 1) + 1 = omega arith in
    let inside : next - 1 < length vs = omega arith in
    let joined : shape_view c.in_ok-shape.shape ≡ join_shapes (cut_to levels (shape_of (view item))) so_far = c.in_ok-shape.ensures ∙ ap (λ s. join_shapes s so_far) c.in_ok-value_shape.ensures.shape in
    record {
      shape = shape_before levels vs (next - 1) next item so_far (shape_view c.in_ok-shape.shape) more inside c.index-values-index.is c.loop-index.invariant.shape joined;
      rises = rise_before levels vs (next - 1) next item more inside c.index-values-index.is c.in_ok-value_shape.ensures.rises c.loop-index.invariant.rises;
    }

pub joined_shape-loop-index-preserved-in_ok-shape : goal.joined_shape-loop-index-preserved-in_ok-shape
joined_shape-loop-index-preserved-in_ok-shape t c =
    let levels = c.args.levels in
    let vs = c.args.values.now in
    let next = c.loop-index.index in
    let item = c.index-values-index.result in
    let so_far = shape_view c.loop-index.shape in
    let more : next ≡ (next - 1) + 1 = omega arith in
    let inside : next - 1 < length vs = omega arith in
    let joined : shape_view c.in_ok-shape.shape ≡ join_shapes (cut_to levels (shape_of (view item))) so_far = c.in_ok-shape.ensures ∙ ap (λ s. join_shapes s so_far) c.in_ok-value_shape.ensures.shape in
    record {
      shape = shape_before levels vs (next - 1) next item so_far (shape_view c.in_ok-shape.shape) more inside c.index-values-index.is c.loop-index.invariant.shape joined;
      rises = rise_before levels vs (next - 1) next item more inside c.index-values-index.is c.in_ok-value_shape.ensures.rises c.loop-index.invariant.rises;
    }

pub joined_shape-loop-index-preserved-in_ok-shape-2 : goal.joined_shape-loop-index-preserved-in_ok-shape-2
joined_shape-loop-index-preserved-in_ok-shape-2 t c =
    let levels = c.args.levels in
    let vs = c.args.values.now in
    let next = c.loop-index.index in
    let item = c.index-values-index.result in
    let so_far = shape_view c.loop-index.shape in
    let more : next ≡ (next - 1) + 1 = omega arith in
    let inside : next - 1 < length vs = omega arith in
    let joined : shape_view c.in_ok-shape.shape ≡ join_shapes (cut_to levels (shape_of (view item))) so_far = c.in_ok-shape.ensures ∙ ap (λ s. join_shapes s so_far) c.in_ok-value_shape.ensures.shape in
    record {
      shape = shape_before levels vs (next - 1) next item so_far (shape_view c.in_ok-shape.shape) more inside c.index-values-index.is c.loop-index.invariant.shape joined;
      rises = rise_before levels vs (next - 1) next item more inside c.index-values-index.is c.in_ok-value_shape.ensures.rises c.loop-index.invariant.rises;
    }
