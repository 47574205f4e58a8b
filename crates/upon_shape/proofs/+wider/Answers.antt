use Rattle.std.proofs.Common.{◌≡◌, [], true, false, ◌||◌, ◌&&◌, take, string_bytes, sym, ◌∙◌, arith}
use Rattle.std.proofs.lemmas.Bool.{or_left, or_right, or_from, and_from, and_right}
use Rattle.std.proofs.lemmas.Grind.{common_steps}
use Rattle.upon_shape_spec.specs.Shape.{KeyShape}
use Rattle.upon_shape_spec.specs.Wider.{implies, each_beside, wider, maps_wider, keys_wider}
use Rattle.upon_shape.specs.Keys.{is_among, seen_after}
use Rattle.upon_shape.specs.View.{shape_view, keys_view, maps_view, known_key_view}
use Rattle.upon_shape.proofs.Steps.{is_wider_at, wider_passed, wider_stopped, wider_known, is_lacking, is_held, beside_passed, beside_stopped}
use Rattle.upon_shape.proofs.+wider.Goals as goal

pub wider::is_as_wide_beside-loop-index-preserved-then-is_named : goal.wider::is_as_wide_beside-loop-index-preserved-then-is_named
wider::is_as_wide_beside-loop-index-preserved-then-is_named t c =
    let x = c.key-item.result in
    let xs = c.args.others.now.named.items in
    let i = c.loop-index.index in
    let seen = c.args.seen.now in
    let before : c.is_named.result ≡ is_among (string_bytes x.name) (take i xs) = c.is_named.ensures ∙ (λ j. is_among (c.deref-in-loop-index.ensures j) (take i (c.deref.ensures.value j))) in
    let among : c.is_named-in-loop-index.result ≡ is_among (string_bytes x.name) seen = c.is_named-in-loop-index.ensures ∙ (λ j. is_among (c.deref-in-loop-index-2.ensures j) seen) in
    let either : (is_among (string_bytes x.name) (take i xs) || is_among (string_bytes x.name) seen) ≡ true = (λ j. sym before j || sym among j) ∙ c.if-is_named.true in
    beside_passed seen xs c.deref-key-items.result.now i x (wider (shape_view c.args.shape.now)) (shape_view c.args.others.now.others.value) (each_beside (seen_after seen []) (wider (shape_view c.args.shape.now)) (keys_view c.args.others.now))
    c.deref-key-items.ensures.value c.loop-index-test.true c.key-item.is (or_left _ (wider (shape_view c.args.shape.now) (shape_view x.shape)) either) c.loop-index.invariant

pub wider::is_as_wide_beside-returns-then-not-is_as_wide_as : goal.wider::is_as_wide_beside-returns-then-not-is_as_wide_as
wider::is_as_wide_beside-returns-then-not-is_as_wide_as t c =
    let x = c.key-item.result in
    let xs = c.args.others.now.named.items in
    let i = c.loop-index.index in
    let seen = c.args.seen.now in
    let before : c.is_named.result ≡ is_among (string_bytes x.name) (take i xs) = c.is_named.ensures ∙ (λ j. is_among (c.deref-in-loop-index.ensures j) (take i (c.deref.ensures.value j))) in
    let among : c.is_named-in-loop-index.result ≡ is_among (string_bytes x.name) seen = c.is_named-in-loop-index.ensures ∙ (λ j. is_among (c.deref-in-loop-index-2.ensures j) seen) in
    let neither : (is_among (string_bytes x.name) (take i xs) || is_among (string_bytes x.name) seen) ≡ false = (λ j. sym before j || sym among j) ∙ c.if-is_named.false in
    beside_stopped seen xs c.deref-key-items.result.now i x (wider (shape_view c.args.shape.now)) (shape_view c.args.others.now.others.value) (each_beside (seen_after seen []) (wider (shape_view c.args.shape.now)) (keys_view c.args.others.now))
    c.deref-key-items.ensures.value c.loop-index-test.true c.key-item.is (or_from _ (wider (shape_view c.args.shape.now) (shape_view x.shape)) neither (sym c.is_as_wide_as.ensures ∙ c.if-not-is_as_wide_as.true)) c.loop-index.invariant

pub wider::is_as_wide_beside-loop-index-preserved : goal.wider::is_as_wide_beside-loop-index-preserved
wider::is_as_wide_beside-loop-index-preserved t c =
    let x = c.key-item.result in
    let xs = c.args.others.now.named.items in
    let i = c.loop-index.index in
    let seen = c.args.seen.now in
    beside_passed seen xs c.deref-key-items.result.now i x (wider (shape_view c.args.shape.now)) (shape_view c.args.others.now.others.value) (each_beside (seen_after seen []) (wider (shape_view c.args.shape.now)) (keys_view c.args.others.now))
    c.deref-key-items.ensures.value c.loop-index-test.true c.key-item.is
    (or_right (is_among (string_bytes x.name) (take i xs) || is_among (string_bytes x.name) seen) (wider (shape_view c.args.shape.now) (shape_view x.shape)) (sym c.is_as_wide_as.ensures ∙ c.if-not-is_as_wide_as.false)) c.loop-index.invariant

pub wider::maps_are_as_wide-loop-index-preserved-then-is_named : goal.wider::maps_are_as_wide-loop-index-preserved-then-is_named
wider::maps_are_as_wide-loop-index-preserved-then-is_named t c =
    let x = c.key-item.result in
    let xs = c.in-Some-maps.keys.named.items in
    let i = c.loop-index.index in
    let ns = keys_view c.in-Some.others in
    let before : c.is_named.result ≡ is_among (string_bytes x.name) (take i xs) = c.is_named.ensures ∙ (λ j. is_among (c.deref-in-loop-index.ensures j) (take i (c.deref.ensures.value j))) in
    wider_passed xs c.deref-key-items.result.now i x (shape_view c.in-Some-maps.keys.others.value) ns (keys_wider [] (keys_view c.in-Some-maps.keys) ns)
    c.deref-key-items.ensures.value c.loop-index-test.true c.key-item.is (or_left _ (is_wider_at x ns) (sym before ∙ c.if-is_named.true)) c.loop-index.invariant

pub wider::maps_are_as_wide-returns-then-key-known : goal.wider::maps_are_as_wide-returns-then-key-known
wider::maps_are_as_wide-returns-then-key-known t c =
    let x = c.key-item.result in
    let xs = c.in-Some-maps.keys.named.items in
    let i = c.loop-index.index in
    let ns = keys_view c.in-Some.others in
    let known : KeyShape = known_key_view c.at-known.result in
    let before : c.is_named.result ≡ is_among (string_bytes x.name) (take i xs) = c.is_named.ensures ∙ (λ j. is_among (c.deref-in-loop-index.ensures j) (take i (c.deref.ensures.value j))) in
    let asked : is_wider_at x ns ≡ (implies x.required known.required && wider (shape_view x.shape) known.shape) = wider_known x ns c.deref-in-loop-index-2.result.now known c.deref-in-loop-index-2.ensures c.at-known.ensures in
    wider_stopped xs c.deref-key-items.result.now i x (shape_view c.in-Some-maps.keys.others.value) ns (keys_wider [] (keys_view c.in-Some-maps.keys) ns)
    c.deref-key-items.ensures.value c.loop-index-test.true c.key-item.is
    (or_from _ (is_wider_at x ns) (sym before ∙ c.if-is_named.false) (asked ∙ is_lacking x.required known.required (wider (shape_view x.shape) known.shape) c.if-key-known.true)) c.loop-index.invariant
    ∙ (λ j. maps_wider (maps_view (sym c.in-Some-maps.is j)) (maps_view (sym c.in-Some.is j)))

pub wider::maps_are_as_wide-returns-then-not-is_as_wide_as : goal.wider::maps_are_as_wide-returns-then-not-is_as_wide_as
wider::maps_are_as_wide-returns-then-not-is_as_wide_as t c =
    let x = c.key-item.result in
    let xs = c.in-Some-maps.keys.named.items in
    let i = c.loop-index.index in
    let ns = keys_view c.in-Some.others in
    let known : KeyShape = known_key_view c.at-known.result in
    let before : c.is_named.result ≡ is_among (string_bytes x.name) (take i xs) = c.is_named.ensures ∙ (λ j. is_among (c.deref-in-loop-index.ensures j) (take i (c.deref.ensures.value j))) in
    let asked : is_wider_at x ns ≡ (implies x.required known.required && wider (shape_view x.shape) known.shape) = wider_known x ns c.deref-in-loop-index-2.result.now known c.deref-in-loop-index-2.ensures c.at-known.ensures in
    wider_stopped xs c.deref-key-items.result.now i x (shape_view c.in-Some-maps.keys.others.value) ns (keys_wider [] (keys_view c.in-Some-maps.keys) ns)
    c.deref-key-items.ensures.value c.loop-index-test.true c.key-item.is
    (or_from _ (is_wider_at x ns) (sym before ∙ c.if-is_named.false) (asked ∙ and_right (implies x.required known.required) (wider (shape_view x.shape) known.shape) (sym c.is_as_wide_as.ensures ∙ c.if-not-is_as_wide_as.true))) c.loop-index.invariant
    ∙ (λ j. maps_wider (maps_view (sym c.in-Some-maps.is j)) (maps_view (sym c.in-Some.is j)))

pub wider::maps_are_as_wide-loop-index-preserved : goal.wider::maps_are_as_wide-loop-index-preserved
wider::maps_are_as_wide-loop-index-preserved t c =
    let x = c.key-item.result in
    let xs = c.in-Some-maps.keys.named.items in
    let i = c.loop-index.index in
    let ns = keys_view c.in-Some.others in
    let known : KeyShape = known_key_view c.at-known.result in
    let asked : is_wider_at x ns ≡ (implies x.required known.required && wider (shape_view x.shape) known.shape) = wider_known x ns c.deref-in-loop-index-2.result.now known c.deref-in-loop-index-2.ensures c.at-known.ensures in
    wider_passed xs c.deref-key-items.result.now i x (shape_view c.in-Some-maps.keys.others.value) ns (keys_wider [] (keys_view c.in-Some-maps.keys) ns)
    c.deref-key-items.ensures.value c.loop-index-test.true c.key-item.is
    (or_right (is_among (string_bytes x.name) (take i xs)) (is_wider_at x ns) (asked ∙ and_from _ _ (is_held x.required known.required c.if-key-known.false) (sym c.is_as_wide_as.ensures ∙ c.if-not-is_as_wide_as.false))) c.loop-index.invariant

-- the search finds no proof of these, and takes long
pub wider::is_as_wide_beside-returns : goal.wider::is_as_wide_beside-returns
wider::is_as_wide_beside-returns = grind (arith, common_steps)

pub wider::maps_are_as_wide-returns : goal.wider::maps_are_as_wide-returns
wider::maps_are_as_wide-returns = grind (arith, common_steps)
