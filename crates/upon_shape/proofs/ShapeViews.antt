-- What a shape denotes, one level at a time.
use Rattle.std.proofs.Common.{◌≡◌, ℕ, true, List, [], ◌∷◌, Option, Some, None, Box, Global, map, string_bytes, refl, sym, ap, ◌∙◌, rules}
use Rattle.upon_shape_spec.specs.Added.{with_entry_shape, with_item_shape}
use Rattle.upon_shape_spec.specs.Join.{join_shapes}
use Rattle.upon_shape_spec.specs.Shape as spec
use Rattle.upon_shape.specs.View.{plain_view, level_keys, shape_level, shape_view, ahead, keys_view, lists_view, maps_view}
use Rattle.upon_shape.specs.declared.shape.Key.{Key}
use Rattle.upon_shape.specs.declared.shape.Keys.{Keys}
use Rattle.upon_shape.specs.declared.shape.Plain.{Plain}
use Rattle.upon_shape.specs.declared.shape.Shape.{Shape, Any, OneOf, the_lemmas}
use Rattle.upon_shape.specs.declared.shape.Shape.TheOpen.{Shape-F}
use Rattle.upon_shape.specs.declared.shape.Shape.TheFolds.{fold-roll-Shape, map-Shape}
use Rattle.upon_shape.specs.declared.shape.Shape.TheVariants.{rolls-OneOf}

pub view-Any : shape_view Any ≡ spec.any_shape
view-Any = search (rules, the_lemmas)

level_keys-map : (f : Key Shape → Key spec.Shape)
    → ((k : Key Shape) (ks : spec.Keys) → spec.key_then (string_bytes (f k).name) (f k).required (f k).shape ks ≡ spec.key_then (string_bytes k.name) k.required (shape_view k.shape) ks)
    → (ks : List (Key Shape)) (others : spec.Keys) → level_keys (map f ks) others ≡ ahead ks others
level_keys-map f each [] others = refl
level_keys-map f each (k ∷ ks) others = each k (level_keys (map f ks) others) ∙ ap (spec.key_then (string_bytes k.name) k.required (shape_view k.shape)) (level_keys-map f each ks others)

level-OneOf : (p : Plain) (l : Option (Box Shape Global)) (m : Option (Keys Shape)) → shape_level (map-Shape Shape spec.Shape shape_view (Shape-F.OneOf p l m)) ≡ spec.one_of (plain_view p) (lists_view l) (maps_view m)
level-OneOf p None None = refl
level-OneOf p (Some s) None = refl
level-OneOf p None (Some ks) =
    ap (λ (x : spec.Keys). spec.one_of (plain_view p) spec.no_list (spec.maps_of x)) (level_keys-map _ (λ k more. refl) ks.named.items (spec.other_keys (shape_view ks.others.value)))
level-OneOf p (Some s) (Some ks) =
    ap (λ (x : spec.Keys). spec.one_of (plain_view p) (spec.lists_of (shape_view s.value)) (spec.maps_of x)) (level_keys-map _ (λ k more. refl) ks.named.items (spec.other_keys (shape_view ks.others.value)))

pub view-OneOf : (p : Plain) (l : Option (Box Shape Global)) (m : Option (Keys Shape)) → shape_view (OneOf p l m) ≡ spec.one_of (plain_view p) (lists_view l) (maps_view m)
view-OneOf p l m = ap shape_view (sym (rolls-OneOf p l m)) ∙ fold-roll-Shape spec.Shape shape_level (Shape-F.OneOf p l m) ∙ level-OneOf p l m

-- with a key of maps that is set
pub view-with_entry : (map : Shape) (p : Plain) (l : Option (Box Shape Global)) (m : Option (Keys Shape)) (old new : Keys Shape) (name : List ℕ) (v : spec.Shape) → map ≡ OneOf p l m → m ≡ Some old
    → keys_view new ≡ spec.key_then name true v (spec.keys_without name (keys_view old)) → shape_view (OneOf p l (Some new)) ≡ with_entry_shape name (shape_view map) v
view-with_entry map p l m old new name v is some e =
    let seen : shape_view map ≡ spec.one_of (plain_view p) (lists_view l) (spec.maps_of (keys_view old)) = ap shape_view is ∙ (ap (λ k. shape_view (OneOf p l k)) some ∙ view-OneOf p l (Some old)) in
    view-OneOf p l (Some new) ∙ (ap (λ ks. spec.one_of (plain_view p) (lists_view l) (spec.maps_of ks)) e ∙ sym (ap (λ s. with_entry_shape name s v) seen))

-- with an item more in lists
pub view-with_item : (list : Shape) (p : Plain) (l : Option (Box Shape Global)) (m : Option (Keys Shape)) (old new : Box Shape Global) (v : spec.Shape) → list ≡ OneOf p l m → l ≡ Some old
    → shape_view new.value ≡ join_shapes (shape_view old.value) v → shape_view (OneOf p (Some new) m) ≡ with_item_shape (shape_view list) v
view-with_item list p l m old new v is some e =
    let seen : shape_view list ≡ spec.one_of (plain_view p) (spec.lists_of (shape_view old.value)) (maps_view m) = ap shape_view is ∙ (ap (λ k. shape_view (OneOf p k m)) some ∙ view-OneOf p (Some old) m) in
    view-OneOf p (Some new) m ∙ (ap (λ s. spec.one_of (plain_view p) (spec.lists_of s) (maps_view m)) e ∙ sym (ap (λ s. with_item_shape s v) seen))

pub ruleset views = (view-Any, view-OneOf)
