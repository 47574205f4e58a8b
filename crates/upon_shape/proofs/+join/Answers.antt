use Rattle.std.proofs.Common.{◌≡◌, ◌+◌, List, false, ◌&&◌, take, drop, string_bytes, refl, sym, ap, ◌∙◌, ◌++◌, ◌∷◌, []}
use Rattle.upon_shape_spec.specs.Join.{joined_others, join_shapes, join_maps, join_keys}
use Rattle.upon_shape_spec.specs.Shape.{KeyShape, maps_of, other_keys, at_key}
use Rattle.upon_shape.specs.Keys.{is_among, without_each}
use Rattle.upon_shape.specs.View.{shape_view, ahead, keys_view, maps_view, known_key_view}
use Rattle.upon_shape.specs.declared.shape.Key.{Key}
use Rattle.upon_shape.specs.declared.shape.Shape.{Shape}
use Rattle.upon_shape.proofs.Steps.{add_skipped, add_pushed, add_done, join_pushed, join_done}
use Rattle.upon_shape.proofs.+join.Goals as goal

pub join::add_beside-loop-key-preserved-then-is_named : goal.join::add_beside-loop-key-preserved-then-is_named
join::add_beside-loop-key-preserved-then-is_named t c =
    let x = c.key-item.result in
    let f = join_shapes (shape_view c.args.shape.now) in
    let seen = c.args.seen.now in
    let among : c.is_named.result ≡ is_among (string_bytes x.name) seen = c.is_named.ensures ∙ (λ j. is_among (c.deref.ensures j) seen) in
    add_skipped f seen c.deref-key-items.result.now c.loop-key.key-index x (shape_view c.args.others.now.others.value) c.loop-key.named.items (ahead c.args.named.now.items (joined_others f (without_each seen (keys_view c.args.others.now))))
    c.loop-key-test.true c.key-item.is (sym among ∙ c.if-is_named.true) c.loop-key.invariant

pub join::add_beside-loop-key-preserved : goal.join::add_beside-loop-key-preserved
join::add_beside-loop-key-preserved t c =
    let x = c.key-item.result in
    let f = join_shapes (shape_view c.args.shape.now) in
    let seen = c.args.seen.now in
    let o = shape_view c.args.others.now.others.value in
    let k : Key Shape = record { name = c.in_ok-clone.field-0; required = false; shape = c.in_ok-join.field-0 } in
    let among : c.is_named.result ≡ is_among (string_bytes x.name) seen = c.is_named.ensures ∙ (λ j. is_among (c.deref.ensures j) seen) in
    let push : c.push.new.self.items ≡ c.loop-key.named.items ++ k ∷ [] = c.in_ok-push.ensures.items in
    ap (λ (ns : List (Key Shape)). ahead ns (joined_others f (without_each seen (ahead (drop (c.loop-key.key-index + 1) c.deref-key-items.result.now) (other_keys o))))) push
    ∙ add_pushed f seen c.deref-key-items.result.now c.loop-key.key-index x o c.loop-key.named.items k (ahead c.args.named.now.items (joined_others f (without_each seen (keys_view c.args.others.now))))
    c.loop-key-test.true c.key-item.is (sym among ∙ c.if-is_named.false) c.in_ok-clone.ensures.cases refl c.in_ok-join.ensures c.loop-key.invariant

pub join::add_beside-returns : goal.join::add_beside-returns
join::add_beside-returns t c =
    let f = join_shapes (shape_view c.args.shape.now) in
    let seen = c.args.seen.now in
    add_done f seen c.deref-key-items.result.now c.loop-key.key-index (shape_view c.args.others.now.others.value) c.loop-key.named.items (ahead c.args.named.now.items (joined_others f (without_each seen (keys_view c.args.others.now))))
    c.loop-key-test.false c.loop-key.invariant

pub join::joined_maps-loop-index-preserved : goal.join::joined_maps-loop-index-preserved
join::joined_maps-loop-index-preserved t c =
    let x = c.key-item.result in
    let xs = c.in-Some-maps.keys.named.items in
    let i = c.loop-index.index in
    let ns = keys_view c.in-Some.others in
    let o = shape_view c.in-Some-maps.keys.others.value in
    let known : KeyShape = known_key_view c.at_beside-known.result in
    let at : known ≡ at_key (string_bytes x.name) (without_each (take i xs) ns) = c.at_beside-known.ensures ∙ (λ j. at_key (c.deref-in-loop-index.ensures j) (without_each (take i (c.deref.ensures.value j)) ns)) in
    let k : Key Shape = record { name = c.in_ok-clone.field-0; required = x.required && c.at_beside-known.result.required; shape = c.in_ok-join.field-0 } in
    let push : c.push.new.self.items ≡ c.loop-index.named.items ++ k ∷ [] = c.in_ok-push.ensures.items in
    ap (λ (named : List (Key Shape)). ahead named (join_keys (ahead (drop (i + 1) xs) (other_keys o)) (without_each (take (i + 1) xs) ns))) push
    ∙ join_pushed xs c.deref-key-items.result.now i x o ns known c.loop-index.named.items k (join_keys (keys_view c.in-Some-maps.keys) ns)
    c.deref-key-items.ensures.value c.loop-index-test.true c.key-item.is at c.in_ok-clone.ensures.cases refl c.in_ok-join.ensures c.loop-index.invariant

pub join::joined_maps-returns : goal.join::joined_maps-returns
join::joined_maps-returns t c =
    let xs = c.in-Some-maps.keys.named.items in
    let ns = keys_view c.in-Some.others in
    let o = shape_view c.in-Some-maps.keys.others.value in
    let d = shape_view c.in-Some.others.others.value in
    let rest : shape_view c.in_ok-new.field-0.value ≡ join_shapes o d = ap shape_view c.in_ok-new.ensures.ok ∙ c.in_ok-rest.ensures ∙ (λ j. join_shapes (shape_view (c.deref-4.ensures j)) (shape_view (c.deref-5.ensures j))) in
    let added : ahead c.add_beside.new.named.items (other_keys (join_shapes o d)) ≡ ahead c.loop-index.named.items (joined_others (join_shapes o) (without_each xs ns)) =
    (λ j. ahead c.add_beside.new.named.items (other_keys (join_shapes (shape_view (sym c.deref-2.ensures j)) d))) ∙ c.in_ok-add_beside.ensures ∙ (λ j. ahead c.loop-index.named.items (joined_others (join_shapes (shape_view (c.deref-2.ensures j))) (without_each (c.deref-3.ensures.value j) ns))) in
    ap maps_of (ap (λ s. ahead c.add_beside.new.named.items (other_keys s)) rest ∙ added ∙ join_done xs c.deref-key-items.result.now c.loop-index.index o ns c.loop-index.named.items (join_keys (keys_view c.in-Some-maps.keys) ns) c.deref-key-items.ensures.value c.loop-index-test.false c.loop-index.invariant)
    ∙ (λ j. join_maps (maps_view (sym c.in-Some-maps.is j)) (maps_view (sym c.in-Some.is j)))
