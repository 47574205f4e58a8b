-- A literal's text denotes one value at most.
use Rattle.std.proofs.Common.{◌≡◌, ℕ, ℤ, List, Bool, Some, sym, ap, ◌∙◌}
use Rattle.upon_language_spec.specs.Inside.{IsQuoted}
use Rattle.upon_language_spec.specs.Literal.{IsInteger, IsIndex, IsText, text_of_pieces, sum_of_digits, with_sign, base_and_digits}
use Rattle.upon_language_spec.proofs.OneCut.Quoted.{one_quoted}

pub one_integer : (minus : Bool) (text : List ℕ) (z w : ℤ) → IsInteger minus text z → IsInteger minus text w → z ≡ w
one_integer minus text z w a b =
    let some : Some a.digits ≡ Some b.digits = sym a.are_digits ∙ b.are_digits in
    let same : a.digits ≡ b.digits = cc in
    a.value ∙ ap (λ ds. with_sign minus (sum_of_digits (base_and_digits text).0 ds)) same ∙ sym b.value

pub one_index : (text : List ℕ) (i j : ℕ) → IsIndex text i → IsIndex text j → i ≡ j
one_index text i j a b =
    let some : Some a.digits ≡ Some b.digits = sym a.are_digits ∙ b.are_digits in
    let same : a.digits ≡ b.digits = cc in
    a.value ∙ ap (λ ds. sum_of_digits 10 ds) same ∙ sym b.value

-- the pieces of a string are determined by where it begins
pub one_pieces : (s : List ℕ) (m n k : ℕ) (a : IsQuoted s m n) (b : IsQuoted s m k) → a.pieces ≡ b.pieces
one_pieces s m n k a b = (one_quoted s m n k a b).0

pub one_text : (s : List ℕ) (m n k : ℕ) (t u : List ℕ) → IsText s m n t → IsText s m k u → t ≡ u
one_text s m n k t u a b =
    let same = one_pieces s m n k a.string b.string in
    let some : Some t ≡ Some u = sym a.value ∙ ap text_of_pieces same ∙ b.value in
    cc
