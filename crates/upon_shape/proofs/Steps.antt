-- A step over keys, one at a time.
use Rattle.std.proofs.Common.{◌≡◌, ℕ, ◌+◌, ◌<◌, ◌≤◌, List, [], ◌∷◌, ◌++◌, Bool, true, false, not, ◌||◌, ◌&&◌, length, take, drop, get_or, refl, sym, ap, subst, ◌∙◌, string_bytes}
use Rattle.std.proofs.lemmas.List.{take_more, drop_more, take_all, drop_all}
use Rattle.upon_shape_spec.specs.Join.{joined_others, join_shapes, join_keys}
use Rattle.upon_shape_spec.specs.Shape.{Shape as SpecShape, Keys as SpecKeys, other_keys, key_then, KeyShape, at_key}
use Rattle.upon_shape_spec.specs.Wider.{implies, is_listed, each_beside, wider, keys_wider}
use Rattle.upon_shape.specs.Keys.{is_among, without_each, seen_after}
use Rattle.upon_shape.specs.View.{shape_view, ahead}
use Rattle.upon_shape.specs.declared.shape.Key.{Key}
use Rattle.upon_shape.specs.declared.shape.Shape.{Shape}
use Rattle.upon_shape.proofs.KeysAhead.{ahead-push, without_each-push, seen_after-push, is_listed-seen_after, seen_out, unseen_in, joined_rest}

-- ---- where a list is cut before and behind an item
pub cut_before : {X : Type 0} (xs : List X) (i : ℕ) (x : X) → i < length xs → x ≡ get_or xs i x → drop i xs ≡ x ∷ drop (i + 1) xs
cut_before xs i x h is = drop_more xs i x h ∙ ap (λ y. y ∷ drop (i + 1) xs) (sym is)

pub cut_behind : {X : Type 0} (xs : List X) (i : ℕ) (x : X) → i < length xs → x ≡ get_or xs i x → take (i + 1) xs ≡ take i xs ++ x ∷ []
cut_behind xs i x h is = take_more xs i x h ∙ ap (λ y. take i xs ++ y ∷ []) (sym is)

-- ---- tests
or_false : (b : Bool) → (b || false) ≡ b
or_false true = refl
or_false false = refl

pub passed : (b k w : Bool) → b ≡ true → w ≡ (b && k) → k ≡ w
passed true k w e h = sym h
passed false k w e h = absurd (cc)

pub stopped : (b k w : Bool) → b ≡ false → w ≡ (b && k) → false ≡ w
stopped true k w e h = absurd (cc)
stopped false k w e h = sym h

-- ---- whether keys are as wide
-- what is asked of one key
abbrev pub is_wider_at : Key Shape → SpecKeys → Bool
is_wider_at x ns = implies x.required (at_key (string_bytes x.name) ns).required && wider (shape_view x.shape) (at_key (string_bytes x.name) ns).shape

is_listed-seen : (name : List ℕ) (front : List (Key Shape)) → is_listed name (seen_after front []) ≡ is_among name front
is_listed-seen name front = is_listed-seen_after name front [] ∙ or_false (is_among name front)

wider_one : (front back : List (Key Shape)) (x : Key Shape) (s : SpecShape) (ns : SpecKeys)
    → keys_wider (seen_after front []) (ahead (x ∷ back) (other_keys s)) ns
    ≡ ((is_among (string_bytes x.name) front || is_wider_at x ns) && keys_wider (seen_after (front ++ x ∷ []) []) (ahead back (other_keys s)) ns)
wider_one front back x s ns =
    (λ i. (is_listed-seen (string_bytes x.name) front i || is_wider_at x ns) && keys_wider (sym (seen_after-push front x []) i) (ahead back (other_keys s)) ns)

pub wider_step : (xs : List (Key Shape)) (i : ℕ) (x : Key Shape) (s : SpecShape) (ns : SpecKeys) → i < length xs → x ≡ get_or xs i x
    → keys_wider (seen_after (take i xs) []) (ahead (drop i xs) (other_keys s)) ns
    ≡ ((is_among (string_bytes x.name) (take i xs) || is_wider_at x ns) && keys_wider (seen_after (take (i + 1) xs) []) (ahead (drop (i + 1) xs) (other_keys s)) ns)
wider_step xs i x s ns h is =
    ap (λ (d : List (Key Shape)). keys_wider (seen_after (take i xs) []) (ahead d (other_keys s)) ns) (cut_before xs i x h is)
    ∙ wider_one (take i xs) (drop (i + 1) xs) x s ns
    ∙ ap (λ (t : List (Key Shape)). (is_among (string_bytes x.name) (take i xs) || is_wider_at x ns) && keys_wider (seen_after t []) (ahead (drop (i + 1) xs) (other_keys s)) ns) (sym (cut_behind xs i x h is))

-- a name is listed if it is among the keys in front, or among those that were seen before these
is_listed-both : (name : List ℕ) (front seen : List (Key Shape)) → is_listed name (seen_after front (seen_after seen [])) ≡ (is_among name front || is_among name seen)
is_listed-both name front seen = is_listed-seen_after name front (seen_after seen []) ∙ ap (λ (b : Bool). is_among name front || b) (is_listed-seen name seen)

pub beside_step : (seen xs : List (Key Shape)) (i : ℕ) (x : Key Shape) (test : SpecShape → Bool) (s : SpecShape) → i < length xs → x ≡ get_or xs i x
    → each_beside (seen_after (take i xs) (seen_after seen [])) test (ahead (drop i xs) (other_keys s))
    ≡ (((is_among (string_bytes x.name) (take i xs) || is_among (string_bytes x.name) seen) || test (shape_view x.shape)) && each_beside (seen_after (take (i + 1) xs) (seen_after seen [])) test (ahead (drop (i + 1) xs) (other_keys s)))
beside_step seen xs i x test s h is =
    let name = string_bytes x.name in
    let at = λ (t : List (Key Shape)). seen_after t (seen_after seen []) in
    let rest = ahead (drop (i + 1) xs) (other_keys s) in
    ap (λ (d : List (Key Shape)). each_beside (at (take i xs)) test (ahead d (other_keys s))) (cut_before xs i x h is)
    ∙ (λ j. (is_listed-both name (take i xs) seen j || test (shape_view x.shape)) && each_beside (sym (seen_after-push (take i xs) x (seen_after seen [])) j) test rest)
    ∙ ap (λ (t : List (Key Shape)). ((is_among name (take i xs) || is_among name seen) || test (shape_view x.shape)) && each_beside (at t) test rest) (sym (cut_behind xs i x h is))

-- ---- keys that are joined
pub join_step : (xs : List (Key Shape)) (i : ℕ) (x : Key Shape) (s : SpecShape) (ns : SpecKeys) (known : KeyShape) → i < length xs → x ≡ get_or xs i x
    → known ≡ at_key (string_bytes x.name) (without_each (take i xs) ns)
    → join_keys (ahead (drop i xs) (other_keys s)) (without_each (take i xs) ns)
    ≡ key_then (string_bytes x.name) (x.required && known.required) (join_shapes (shape_view x.shape) known.shape) (join_keys (ahead (drop (i + 1) xs) (other_keys s)) (without_each (take (i + 1) xs) ns))
join_step xs i x s ns known h is e =
    let name = string_bytes x.name in
    let rest = λ (w : SpecKeys). join_keys (ahead (drop (i + 1) xs) (other_keys s)) w in
    ap (λ (d : List (Key Shape)). join_keys (ahead d (other_keys s)) (without_each (take i xs) ns)) (cut_before xs i x h is)
    ∙ (λ j. key_then name (x.required && (sym e j).required) (join_shapes (shape_view x.shape) (sym e j).shape) (rest (sym (without_each-push (take i xs) x ns) j)))
    ∙ ap (λ (t : List (Key Shape)). key_then name (x.required && known.required) (join_shapes (shape_view x.shape) known.shape) (rest (without_each t ns))) (sym (cut_behind xs i x h is))

-- one more key, ahead of what it was the first of
pub pushed : (named : List (Key Shape)) (k : Key Shape) (name : List ℕ) (required : Bool) (s : SpecShape) (rest all : SpecKeys)
    → string_bytes k.name ≡ name → k.required ≡ required → shape_view k.shape ≡ s → all ≡ key_then name required s rest → ahead (named ++ k ∷ []) rest ≡ ahead named all
pushed named k name required s rest all e f g h = ahead-push named k rest ∙ ap (ahead named) ((λ i. key_then (e i) (f i) (g i) rest) ∙ sym h)

-- ---- what a step of a loop keeps, over keys that are read from a list of the same items
same_length : (ys xs : List (Key Shape)) (i : ℕ) → ys ≡ xs → i < length ys → i < length xs
same_length ys xs i e h = subst (λ (zs : List (Key Shape)). i < length zs) e h

same_item : (ys xs : List (Key Shape)) (i : ℕ) (x : Key Shape) → ys ≡ xs → x ≡ get_or ys i x → x ≡ get_or xs i x
same_item ys xs i x e h = subst (λ (zs : List (Key Shape)). x ≡ get_or zs i x) e h

pub wider_passed : (xs ys : List (Key Shape)) (i : ℕ) (x : Key Shape) (s : SpecShape) (ns : SpecKeys) (whole : Bool) → ys ≡ xs → i < length ys → x ≡ get_or ys i x
    → (is_among (string_bytes x.name) (take i xs) || is_wider_at x ns) ≡ true
    → keys_wider (seen_after (take i xs) []) (ahead (drop i xs) (other_keys s)) ns ≡ whole
    → keys_wider (seen_after (take (i + 1) xs) []) (ahead (drop (i + 1) xs) (other_keys s)) ns ≡ whole
wider_passed xs ys i x s ns whole e h is test inv =
    passed (is_among (string_bytes x.name) (take i xs) || is_wider_at x ns) (keys_wider (seen_after (take (i + 1) xs) []) (ahead (drop (i + 1) xs) (other_keys s)) ns) (keys_wider (seen_after (take i xs) []) (ahead (drop i xs) (other_keys s)) ns)
    test (wider_step xs i x s ns (same_length ys xs i e h) (same_item ys xs i x e is)) ∙ inv

pub wider_stopped : (xs ys : List (Key Shape)) (i : ℕ) (x : Key Shape) (s : SpecShape) (ns : SpecKeys) (whole : Bool) → ys ≡ xs → i < length ys → x ≡ get_or ys i x
    → (is_among (string_bytes x.name) (take i xs) || is_wider_at x ns) ≡ false
    → keys_wider (seen_after (take i xs) []) (ahead (drop i xs) (other_keys s)) ns ≡ whole → false ≡ whole
wider_stopped xs ys i x s ns whole e h is test inv =
    stopped (is_among (string_bytes x.name) (take i xs) || is_wider_at x ns) (keys_wider (seen_after (take (i + 1) xs) []) (ahead (drop (i + 1) xs) (other_keys s)) ns) (keys_wider (seen_after (take i xs) []) (ahead (drop i xs) (other_keys s)) ns)
    test (wider_step xs i x s ns (same_length ys xs i e h) (same_item ys xs i x e is)) ∙ inv

-- what was read of a key is what is asked
pub wider_known : (x : Key Shape) (ns : SpecKeys) (name : List ℕ) (known : KeyShape) → name ≡ string_bytes x.name → known ≡ at_key name ns
    → is_wider_at x ns ≡ (implies x.required known.required && wider (shape_view x.shape) known.shape)
wider_known x ns name known same e =
    ap (λ (k : KeyShape). implies x.required k.required && wider (shape_view x.shape) k.shape) (sym (e ∙ ap (λ (n : List ℕ). at_key n ns) same))

pub is_lacking : (required known rest : Bool) → (required && not known) ≡ true → (implies required known && rest) ≡ false
is_lacking true true rest h = absurd (cc)
is_lacking true false rest h = refl
is_lacking false known rest h = absurd (cc)

pub is_held : (required known : Bool) → (required && not known) ≡ false → implies required known ≡ true
is_held true true h = refl
is_held true false h = absurd (cc)
is_held false known h = refl

pub beside_passed : (seen xs ys : List (Key Shape)) (i : ℕ) (x : Key Shape) (test : SpecShape → Bool) (s : SpecShape) (whole : Bool) → ys ≡ xs → i < length ys → x ≡ get_or ys i x
    → ((is_among (string_bytes x.name) (take i xs) || is_among (string_bytes x.name) seen) || test (shape_view x.shape)) ≡ true
    → each_beside (seen_after (take i xs) (seen_after seen [])) test (ahead (drop i xs) (other_keys s)) ≡ whole
    → each_beside (seen_after (take (i + 1) xs) (seen_after seen [])) test (ahead (drop (i + 1) xs) (other_keys s)) ≡ whole
beside_passed seen xs ys i x test s whole e h is said inv =
    passed ((is_among (string_bytes x.name) (take i xs) || is_among (string_bytes x.name) seen) || test (shape_view x.shape)) (each_beside (seen_after (take (i + 1) xs) (seen_after seen [])) test (ahead (drop (i + 1) xs) (other_keys s))) (each_beside (seen_after (take i xs) (seen_after seen [])) test (ahead (drop i xs) (other_keys s)))
    said (beside_step seen xs i x test s (same_length ys xs i e h) (same_item ys xs i x e is)) ∙ inv

pub beside_stopped : (seen xs ys : List (Key Shape)) (i : ℕ) (x : Key Shape) (test : SpecShape → Bool) (s : SpecShape) (whole : Bool) → ys ≡ xs → i < length ys → x ≡ get_or ys i x
    → ((is_among (string_bytes x.name) (take i xs) || is_among (string_bytes x.name) seen) || test (shape_view x.shape)) ≡ false
    → each_beside (seen_after (take i xs) (seen_after seen [])) test (ahead (drop i xs) (other_keys s)) ≡ whole → false ≡ whole
beside_stopped seen xs ys i x test s whole e h is said inv =
    stopped ((is_among (string_bytes x.name) (take i xs) || is_among (string_bytes x.name) seen) || test (shape_view x.shape)) (each_beside (seen_after (take (i + 1) xs) (seen_after seen [])) test (ahead (drop (i + 1) xs) (other_keys s))) (each_beside (seen_after (take i xs) (seen_after seen [])) test (ahead (drop i xs) (other_keys s)))
    said (beside_step seen xs i x test s (same_length ys xs i e h) (same_item ys xs i x e is)) ∙ inv

-- ---- keys that are added beside others
pub add_skipped : (f : SpecShape → SpecShape) (seen ys : List (Key Shape)) (i : ℕ) (x : Key Shape) (s : SpecShape) (named : List (Key Shape)) (whole : SpecKeys)
    → i < length ys → x ≡ get_or ys i x → is_among (string_bytes x.name) seen ≡ true
    → ahead named (joined_others f (without_each seen (ahead (drop i ys) (other_keys s)))) ≡ whole
    → ahead named (joined_others f (without_each seen (ahead (drop (i + 1) ys) (other_keys s)))) ≡ whole
add_skipped f seen ys i x s named whole h is test inv =
    ap (ahead named) (sym (ap (λ (d : List (Key Shape)). joined_others f (without_each seen (ahead d (other_keys s)))) (cut_before ys i x h is) ∙ seen_out f seen x (ahead (drop (i + 1) ys) (other_keys s)) test))
    ∙ inv

pub add_pushed : (f : SpecShape → SpecShape) (seen ys : List (Key Shape)) (i : ℕ) (x : Key Shape) (s : SpecShape) (named : List (Key Shape)) (k : Key Shape) (whole : SpecKeys)
    → i < length ys → x ≡ get_or ys i x → is_among (string_bytes x.name) seen ≡ false
    → string_bytes k.name ≡ string_bytes x.name → k.required ≡ false → shape_view k.shape ≡ f (shape_view x.shape)
    → ahead named (joined_others f (without_each seen (ahead (drop i ys) (other_keys s)))) ≡ whole
    → ahead (named ++ k ∷ []) (joined_others f (without_each seen (ahead (drop (i + 1) ys) (other_keys s)))) ≡ whole
add_pushed f seen ys i x s named k whole h is test name required shape inv =
    pushed named k (string_bytes x.name) false (f (shape_view x.shape)) (joined_others f (without_each seen (ahead (drop (i + 1) ys) (other_keys s)))) (joined_others f (without_each seen (ahead (drop i ys) (other_keys s))))
    name required shape
    (ap (λ (d : List (Key Shape)). joined_others f (without_each seen (ahead d (other_keys s)))) (cut_before ys i x h is) ∙ unseen_in f seen x (ahead (drop (i + 1) ys) (other_keys s)) test)
    ∙ inv

pub add_done : (f : SpecShape → SpecShape) (seen ys : List (Key Shape)) (i : ℕ) (s : SpecShape) (named : List (Key Shape)) (whole : SpecKeys) → length ys ≤ i
    → ahead named (joined_others f (without_each seen (ahead (drop i ys) (other_keys s)))) ≡ whole
    → ahead named (other_keys (f s)) ≡ whole
add_done f seen ys i s named whole h inv =
    ap (ahead named) (sym (ap (λ (d : List (Key Shape)). joined_others f (without_each seen (ahead d (other_keys s)))) (drop_all i ys h) ∙ joined_rest f seen s))
    ∙ inv

-- ---- keys that are joined
pub join_pushed : (xs ys : List (Key Shape)) (i : ℕ) (x : Key Shape) (s : SpecShape) (ns : SpecKeys) (known : KeyShape) (named : List (Key Shape)) (k : Key Shape) (whole : SpecKeys)
    → ys ≡ xs → i < length ys → x ≡ get_or ys i x → known ≡ at_key (string_bytes x.name) (without_each (take i xs) ns)
    → string_bytes k.name ≡ string_bytes x.name → k.required ≡ (x.required && known.required) → shape_view k.shape ≡ join_shapes (shape_view x.shape) known.shape
    → ahead named (join_keys (ahead (drop i xs) (other_keys s)) (without_each (take i xs) ns)) ≡ whole
    → ahead (named ++ k ∷ []) (join_keys (ahead (drop (i + 1) xs) (other_keys s)) (without_each (take (i + 1) xs) ns)) ≡ whole
join_pushed xs ys i x s ns known named k whole e h is at name required shape inv =
    pushed named k (string_bytes x.name) (x.required && known.required) (join_shapes (shape_view x.shape) known.shape)
    (join_keys (ahead (drop (i + 1) xs) (other_keys s)) (without_each (take (i + 1) xs) ns)) (join_keys (ahead (drop i xs) (other_keys s)) (without_each (take i xs) ns))
    name required shape (join_step xs i x s ns known (same_length ys xs i e h) (same_item ys xs i x e is) at)
    ∙ inv

pub join_done : (xs ys : List (Key Shape)) (i : ℕ) (s : SpecShape) (ns : SpecKeys) (named : List (Key Shape)) (whole : SpecKeys) → ys ≡ xs → length ys ≤ i
    → ahead named (join_keys (ahead (drop i xs) (other_keys s)) (without_each (take i xs) ns)) ≡ whole
    → ahead named (joined_others (join_shapes s) (without_each xs ns)) ≡ whole
join_done xs ys i s ns named whole e h inv =
    let le = subst (λ (zs : List (Key Shape)). length zs ≤ i) e h in
    ap (ahead named) (sym (λ j. join_keys (ahead (drop_all i xs le j) (other_keys s)) (without_each (take_all i xs le j) ns)))
    ∙ inv
