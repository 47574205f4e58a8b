-- Whether the text of a number, an index or a string denotes a value, as tests that compute.
use Rattle.std.proofs.Common.{◌≡◌, ℕ, ◌^◌, ◌&&◌, nat_lt, ◌==◌, ℤ, pos, negsuc, FitsSigned, List, Bool, true, false, Option, Some, None, bytes_eq, refl, sym, ap, ◌∙◌}
use Rattle.std.proofs.lemmas.Bool.{ltb-true}
use Rattle.std.proofs.lemmas.Bool.Decides.{Decides-int_eq}
use Rattle.std.proofs.lemmas.Slice.Eq.{bytes_eq-Decides}
use Rattle.std.specs.Int.{w64}
use Rattle.std.specs.Ordering.{int_eq}
use Rattle.upon_language_spec.specs.Literal.{sum_of_digits, digits_in, base_and_digits, with_sign, IsInteger, IsIndex, text_of_pieces, IsText}
use Rattle.upon_language_spec.proofs.Computation.Tests.{left_true, right_true, occurs_tested}
use Rattle.upon_language_spec.proofs.Computation.Tests.{same_number}
use Rattle.upon_language_spec.proofs.Computation.InnerTests.{each_piece, quoted_by, pieces_between}

pub one_text : (a b : List ℕ) → bytes_eq a b ≡ true → a ≡ b
one_text a b h = (bytes_eq-Decides a b).0 h

-- whether there are bytes, and they pass
abbrev pub some_passes : (List ℕ → Bool) → Option (List ℕ) → Bool
some_passes test None = false
some_passes test (Some bytes) = test bytes

one_passes : (test : List ℕ → Bool) (o : Option (List ℕ)) → some_passes test o ≡ true → (bytes : List ℕ) × (o ≡ Some bytes) × (test bytes ≡ true)
one_passes test None h = absurd cc
one_passes test (Some bytes) h = (bytes, refl, h)

-- integers
abbrev pub fits_test : ℤ → Bool
fits_test (pos n) = nat_lt n (2 ^ 63)
fits_test (negsuc n) = nat_lt n (2 ^ 63)

fits_tested : (z : ℤ) → fits_test z ≡ true → FitsSigned w64 z
fits_tested (pos n) h = record { sfits = ltb-true _ _ h }
fits_tested (negsuc n) h = record { sfits = ltb-true _ _ h }

abbrev pub digits_are : Bool → ℕ → ℤ → List ℕ → Bool
digits_are minus base z digits = int_eq z (with_sign minus (sum_of_digits base digits))

abbrev pub integer_test : Bool → List ℕ → ℤ → Bool
integer_test minus text z = fits_test z && some_passes (digits_are minus (base_and_digits text).0 z) (digits_in (base_and_digits text).0 (base_and_digits text).1)

pub integer_tested : (minus : Bool) (text : List ℕ) (z : ℤ) → integer_test minus text z ≡ true → IsInteger minus text z
integer_tested minus text z h =
    let some = one_passes (digits_are minus (base_and_digits text).0 z) (digits_in (base_and_digits text).0 (base_and_digits text).1) (right_true _ _ h) in
    record { digits = some.0; are_digits = some.1; value = (Decides-int_eq z (with_sign minus (sum_of_digits (base_and_digits text).0 some.0))).0 some.2; in_range = fits_tested z (left_true _ _ h) }

-- indexes
abbrev pub index_is : ℕ → List ℕ → Bool
index_is i digits = i == sum_of_digits 10 digits

abbrev pub index_test : List ℕ → ℕ → Bool
index_test text i = nat_lt i (2 ^ 64) && some_passes (index_is i) (digits_in 10 text)

pub index_tested : (text : List ℕ) (i : ℕ) → index_test text i ≡ true → IsIndex text i
index_tested text i h =
    let some = one_passes (index_is i) (digits_in 10 text) (right_true _ _ h) in
    record { digits = some.0; are_digits = some.1; value = same_number _ _ some.2; in_range = ltb-true _ _ (left_true _ _ h) }

-- strings
abbrev pub text_test : List ℕ → ℕ → ℕ → List ℕ → Bool
text_test s m n text = quoted_by s m n (pieces_between s m n) && some_passes (bytes_eq text) (text_of_pieces (pieces_between s m n))

pub text_tested : (s : List ℕ) (m n : ℕ) (text : List ℕ) → text_test s m n text ≡ true → IsText s m n text
text_tested s m n text h =
    let string = left_true _ _ h in
    let stands = right_true _ _ string in
    let some = one_passes (bytes_eq text) (text_of_pieces (pieces_between s m n)) (right_true _ _ h) in
    let same : text ≡ some.0 = one_text _ _ some.2 in
    record {
      string = record { pieces = pieces_between s m n; each = each_piece _ (left_true _ _ string); occurs = occurs_tested s m _ (left_true _ _ stands); to = same_number _ _ (right_true _ _ stands) };
      value = some.1 ∙ ap Some (sym same);
    }
