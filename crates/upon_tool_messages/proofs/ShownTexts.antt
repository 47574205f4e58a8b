-- Texts as they are shown, by their characters.
use Rattle.std.proofs.Common.{◌≡◌, ◌<◌, ◌++◌, ◌∷◌, [], ℕ, ◌+◌, ◌/◌, ◌%◌, List, nat_lt, true, false, ◌≤◌, length, take, drop, cond, sym, subst, ap, ◌∙◌, arith}
use Rattle.std.proofs.lemmas.List.{length-append, length-drop, take-append-drop}
use Rattle.std.proofs.lemmas.Str.{chars_past_char, chars-nil, drop_past_char, length-encode, IsCharBoundary-from_drop, IsUtf8-past_char}
use Rattle.std.proofs.Math.Seq.{take-add, take-append_seam}
use Rattle.std.proofs.lemmas.Bool.Decides.{nat_tests}
use Rattle.std.specs.Char.{digit_char, encode_utf8, len_utf8}
use Rattle.std.specs.Char.Escape.{escape_unicode, hex_digit_at}
use Rattle.std.specs.Str.{IsCharBoundary, IsUtf8}
use Rattle.std.specs.List.{flat_map}
use Rattle.upon_tool_messages.specs.Terminal.{is_spelled, shown_letter, shown_text}

-- nothing is shown of nothing
pub shown_nothing : shown_text [] ≡ []
shown_nothing = ap (flat_map shown_letter) chars-nil

-- the first character is shown, and then the rest
pub shown_first : (text rest : List ℕ) (letter : ℕ) → IsUtf8 text → text ≡ encode_utf8 letter ++ rest → shown_text text ≡ shown_letter letter ++ shown_text rest
shown_first text rest letter utf8 is = ap (flat_map shown_letter) (chars_past_char text rest letter utf8 is)

pub spelled_first : (text rest : List ℕ) (letter : ℕ) → IsUtf8 text → text ≡ encode_utf8 letter ++ rest → is_spelled letter ≡ true → shown_text text ≡ escape_unicode letter ++ shown_text rest
spelled_first text rest letter utf8 is spelled =
    shown_first text rest letter utf8 is ∙ ap (λ b. cond b (escape_unicode letter) (encode_utf8 letter) ++ shown_text rest) spelled

pub plain_first : (text rest : List ℕ) (letter : ℕ) → IsUtf8 text → text ≡ encode_utf8 letter ++ rest → is_spelled letter ≡ false → shown_text text ≡ encode_utf8 letter ++ shown_text rest
plain_first text rest letter utf8 is plain =
    shown_first text rest letter utf8 is ∙ ap (λ b. cond b (escape_unicode letter) (encode_utf8 letter) ++ shown_text rest) plain

-- a character that is spelled has a code of two digits at most
pub spelled_small : (letter : ℕ) → is_spelled letter ≡ true → letter < 256
spelled_small letter spelled = grind (arith, nat_tests)

-- all was passed
pub all_plain : (text rest : List ℕ) (len : ℕ) → drop len text ≡ rest → length rest ≡ 0 → shown_text text ≡ take len text ++ shown_text rest → shown_text text ≡ text
all_plain text [] len left none shown =
    shown ∙ (ap (λ l. take len text ++ l) (shown_nothing ∙ sym left) ∙ take-append-drop len text)
all_plain text (b ∷ bs) len left none shown = absurd (omega (arith, none))

-- a character is spelled after what was passed
pub spelled_there : (passed rest after : List ℕ) (letter : ℕ) (text front back : List ℕ) → shown_text text ≡ passed ++ shown_text rest
    → shown_text rest ≡ escape_unicode letter ++ shown_text after → front ≡ passed → back ≡ after
    → shown_text text ≡ front ++ (escape_unicode letter ++ shown_text back)
spelled_there passed rest after letter text front back shown spelled is_front is_back =
    shown ∙ (ap (λ l. passed ++ l) (spelled ∙ ap (λ l. escape_unicode letter ++ shown_text l) (sym is_back))
    ∙ ap (λ l. l ++ (escape_unicode letter ++ shown_text back)) (sym is_front))

-- ---- a walk along a text: so much was passed, and then a character
module _ (text rest after : List ℕ) (len letter : ℕ) (within : len ≤ length text) (left : drop len text ≡ rest) (utf8 : IsUtf8 rest)
    (is : rest ≡ encode_utf8 letter ++ after) where
  pub after_utf8 : IsUtf8 after
  after_utf8 = IsUtf8-past_char rest after letter utf8 is

  pub left_after : drop (len + len_utf8 letter) text ≡ after
  left_after = drop_past_char text after len letter (left ∙ is)

  pub within_after : len + len_utf8 letter ≤ length text
  within_after = omega (arith, length-drop len text, ap length (left ∙ is), length-append (encode_utf8 letter) after, length-encode letter)

  pub cut_before : IsCharBoundary text len
  cut_before = IsCharBoundary-from_drop text len within (subst IsUtf8 (sym left) utf8)

  pub cut_after : IsCharBoundary text (len + len_utf8 letter)
  cut_after = IsCharBoundary-from_drop text (len + len_utf8 letter) within_after (subst IsUtf8 (sym left_after) after_utf8)

  pub passed_after : take (len + len_utf8 letter) text ≡ take len text ++ encode_utf8 letter
  passed_after =
      take-add len (len_utf8 letter) text
      ∙ ap (λ l. take len text ++ l) (ap (take (len_utf8 letter)) (left ∙ is)
      ∙ (ap (λ n. take n (encode_utf8 letter ++ after)) (sym (length-encode letter)) ∙ take-append_seam (encode_utf8 letter) after))

-- ---- how a code of one or two digits is written
div_one : (n : ℕ) → n / 1 ≡ n
div_one n = omega arith

below : (a b : ℕ) → a < b → nat_lt a b ≡ true
below a b h = grind (arith, nat_tests)

not_below : (a b : ℕ) → b ≤ a → nat_lt a b ≡ false
not_below a b h = grind (arith, nat_tests)

pub one_digit : (letter : ℕ) → letter < 16 → escape_unicode letter ≡ (92 ∷ 117 ∷ 123 ∷ []) ++ ((digit_char (letter % 16) ∷ []) ++ (125 ∷ []))
one_digit letter h =
    let is : letter / 1 % 16 ≡ letter % 16 = ap (λ n. n % 16) (div_one letter) in
    rw (below letter 16 h) (ap (λ n. 92 ∷ 117 ∷ 123 ∷ digit_char n ∷ 125 ∷ []) is)

pub two_digits : (letter : ℕ) → 16 ≤ letter → letter < 256
    → escape_unicode letter ≡ ((92 ∷ 117 ∷ 123 ∷ []) ++ (digit_char (letter / 16) ∷ [])) ++ ((digit_char (letter % 16) ∷ []) ++ (125 ∷ []))
two_digits letter h k =
    let first : letter / 16 % 16 ≡ letter / 16 = omega arith in
    let second : letter / 1 % 16 ≡ letter % 16 = ap (λ n. n % 16) (div_one letter) in
    rw (not_below letter 16 h, below letter 256 k)
    (ap (λ n. 92 ∷ 117 ∷ 123 ∷ digit_char n ∷ hex_digit_at 1 letter ∷ 125 ∷ []) first
    ∙ ap (λ n. 92 ∷ 117 ∷ 123 ∷ digit_char (letter / 16) ∷ digit_char n ∷ 125 ∷ []) second)
