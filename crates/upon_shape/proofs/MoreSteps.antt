-- Steps over keys that are opened.
use Rattle.std.proofs.Common.{◌≡◌, ℕ, ◌+◌, ◌<◌, ◌≤◌, List, [], ◌∷◌, ◌++◌, length, drop, get_or, refl, sym, ap, ◌∙◌, string_bytes}
use Rattle.std.proofs.lemmas.List.{drop_all}
use Rattle.upon_shape_spec.specs.Join.{opened, opened_keys}
use Rattle.upon_shape_spec.specs.Shape.{Shape as SpecShape, Keys as SpecKeys, any_shape, other_keys, key_then}
use Rattle.upon_shape.specs.View.{shape_view, ahead}
use Rattle.upon_shape.specs.declared.shape.Key.{Key}
use Rattle.upon_shape.specs.declared.shape.Shape.{Shape}
use Rattle.upon_shape.proofs.Steps.{cut_before, pushed}

pub open_pushed : (ys : List (Key Shape)) (i : ℕ) (x : Key Shape) (s : SpecShape) (named : List (Key Shape)) (k : Key Shape) (whole : SpecKeys)
    → i < length ys → x ≡ get_or ys i x
    → string_bytes k.name ≡ string_bytes x.name → k.required ≡ x.required → shape_view k.shape ≡ opened (shape_view x.shape)
    → ahead named (opened_keys (ahead (drop i ys) (other_keys s))) ≡ whole
    → ahead (named ++ k ∷ []) (opened_keys (ahead (drop (i + 1) ys) (other_keys s))) ≡ whole
open_pushed ys i x s named k whole h is name required shape inv =
    pushed named k (string_bytes x.name) x.required (opened (shape_view x.shape)) (opened_keys (ahead (drop (i + 1) ys) (other_keys s))) (opened_keys (ahead (drop i ys) (other_keys s)))
    name required shape (ap (λ (d : List (Key Shape)). opened_keys (ahead d (other_keys s))) (cut_before ys i x h is))
    ∙ inv

pub open_done : (ys : List (Key Shape)) (i : ℕ) (s : SpecShape) (named : List (Key Shape)) (whole : SpecKeys) → length ys ≤ i
    → ahead named (opened_keys (ahead (drop i ys) (other_keys s))) ≡ whole → ahead named (other_keys any_shape) ≡ whole
open_done ys i s named whole h inv =
    ap (λ (d : List (Key Shape)). ahead named (opened_keys (ahead d (other_keys s)))) (sym (drop_all i ys h)) ∙ inv

-- whatever other keys have
pub opened-others : (ks : List (Key Shape)) (s t : SpecShape) → opened_keys (ahead ks (other_keys s)) ≡ opened_keys (ahead ks (other_keys t))
opened-others [] s t = refl
opened-others (k ∷ ks) s t = ap (key_then (string_bytes k.name) k.required (opened (shape_view k.shape))) (opened-others ks s t)
