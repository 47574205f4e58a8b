-- The shapes of operands, one after another.
use Rattle.std.proofs.Common.{◌≡◌, ℕ, ◌+◌, ◌<◌, suc, List, [], ◌∷◌, ◌++◌, length, map, drop, get_or, Option, Some, None, option_map, refl, sym, ap, ◌∙◌, append_assoc, arith}
use Rattle.std.proofs.Math.Seq.{drop-cons, drop-length}
use Rattle.std.proofs.lemmas.List.{append-nil, map-append}
use Rattle.upon_shape_spec.specs.ExpressionShapes.{shape_then}
use Rattle.upon_shape_spec.specs.Shape.{Shape as SpecShape}
use Rattle.upon_shape_spec.specs.ProgramDoubts.{shapes_of}
use Rattle.upon_shape.specs.View.{shape_view}
use Rattle.upon_shape.specs.declared.shape.Shape.{Shape}
use Rattle.upon_shape_check.specs.Known.{operand_view}
use Rattle.upon_shape_check.specs.declared.known.Operand.{Operand}

-- shapes ahead of others, if there are any
abbrev pub ahead_of : List SpecShape → Option (List SpecShape) → Option (List SpecShape)
ahead_of ss None = None
ahead_of ss (Some ts) = Some (ss ++ ts)

one_ahead : (ss : List SpecShape) (s : SpecShape) (r : Option (List SpecShape)) → ahead_of ss (shape_then (Some s) r) ≡ ahead_of (ss ++ s ∷ []) r
one_ahead ss s None = refl
one_ahead ss s (Some ts) = ap Some (sym (append_assoc ss (s ∷ []) ts))

from_drop : (os : List Operand) (i : ℕ) (x : Operand) → i < length os → x ≡ get_or os i x → shapes_of (map operand_view (drop i os)) ≡ shape_then (option_map shape_view x.shape) (shapes_of (map operand_view (drop (i + 1) os)))
from_drop os i x below is =
    let next : suc i ≡ i + 1 = omega arith in
    ap (λ l. shapes_of (map operand_view l)) (drop-cons os i x below)
    ∙ (ap (λ (o : Operand). shape_then (option_map shape_view o.shape) (shapes_of (map operand_view (drop (suc i) os)))) (sym is)
    ∙ ap (λ n. shape_then (option_map shape_view x.shape) (shapes_of (map operand_view (drop n os)))) next)

-- one more
pub taken_one : (os : List Operand) (i : ℕ) (x : Operand) (s copy : Shape) (done more : List Shape) → i < length os → x ≡ get_or os i x → x.shape ≡ Some s → shape_view copy ≡ shape_view s → more ≡ done ++ copy ∷ []
    → shapes_of (map operand_view os) ≡ ahead_of (map shape_view done) (shapes_of (map operand_view (drop i os))) → shapes_of (map operand_view os) ≡ ahead_of (map shape_view more) (shapes_of (map operand_view (drop (i + 1) os)))
taken_one os i x s copy done more below is some same e so_far =
    so_far
    ∙ (ap (ahead_of (map shape_view done)) (from_drop os i x below is)
    ∙ (ap (λ o. ahead_of (map shape_view done) (shape_then (option_map shape_view o) (shapes_of (map operand_view (drop (i + 1) os))))) some
    ∙ (one_ahead (map shape_view done) (shape_view s) (shapes_of (map operand_view (drop (i + 1) os)))
    ∙ ap (λ l. ahead_of l (shapes_of (map operand_view (drop (i + 1) os)))) (ap (λ t. map shape_view done ++ t ∷ []) (sym same) ∙ (sym (map-append shape_view done (copy ∷ [])) ∙ sym (ap (map shape_view) e))))))

-- one that may not come to anything
pub taken_none : (os : List Operand) (i : ℕ) (x : Operand) (done : List Shape) → i < length os → x ≡ get_or os i x → x.shape ≡ None
    → shapes_of (map operand_view os) ≡ ahead_of (map shape_view done) (shapes_of (map operand_view (drop i os))) → None ≡ shapes_of (map operand_view os)
taken_none os i x done below is none so_far =
    sym
    (so_far
    ∙ (ap (ahead_of (map shape_view done)) (from_drop os i x below is)
    ∙ ap (λ o. ahead_of (map shape_view done) (shape_then (option_map shape_view o) (shapes_of (map operand_view (drop (i + 1) os))))) none))

pub taken_all : (os : List Operand) (i : ℕ) (done : List Shape) → i ≡ length os → shapes_of (map operand_view os) ≡ ahead_of (map shape_view done) (shapes_of (map operand_view (drop i os))) → Some (map shape_view done) ≡ shapes_of (map operand_view os)
taken_all os i done all so_far =
    sym
    (so_far
    ∙ (ap (λ n. ahead_of (map shape_view done) (shapes_of (map operand_view (drop n os)))) all
    ∙ (ap (λ l. ahead_of (map shape_view done) (shapes_of (map operand_view l))) (drop-length os) ∙ ap Some (append-nil (map shape_view done)))))
