-- Columns of texts that are filled up with blanks.
use Rattle.std.proofs.Common.{◌≡◌, ℕ, zero, suc, ◌+◌, ◌-◌, ◌/◌, List, [], ◌∷◌, ◌++◌, chars, refl, ap, ◌∙◌, arith}
use Rattle.std.proofs.lemmas.Str.{IsAscii-append, IsUtf8-from_ascii, chars-append, chars-IsAscii}
use Rattle.std.specs.Prelude.{max}
use Rattle.std.specs.Str.{IsAscii, IsUtf8}
use Rattle.unicode_width.specs.Width.{char_width}
use Rattle.upon_std.specs.Encoding.Columns.{columns_of, width}
use Rattle.upon_std.specs.Encoding.Padding.{between, blank_text, centered, missing, padded_left, padded_right}

pub columns-append : (xs ys : List ℕ) → columns_of (xs ++ ys) ≡ columns_of xs + columns_of ys
columns-append [] ys = omega arith
columns-append (x ∷ xs) ys = omega (arith, columns-append xs ys)

width-blank : width 32 ≡ 1
unfolding char_width
width-blank = refl

columns-blanks : (n : ℕ) → columns_of (blank_text n) ≡ n
columns-blanks zero = refl
columns-blanks (suc n) = omega (arith, columns-blanks n, width-blank)

IsAscii-nil : IsAscii []
IsAscii-nil zero = omega arith
IsAscii-nil (suc i) = omega arith

IsAscii-blank : IsAscii (32 ∷ [])
IsAscii-blank zero = omega arith
IsAscii-blank (suc i) = omega arith

IsAscii-blanks : (n : ℕ) → IsAscii (blank_text n)
IsAscii-blanks zero = IsAscii-nil
IsAscii-blanks (suc n) = IsAscii-append (32 ∷ []) (blank_text n) IsAscii-blank (IsAscii-blanks n)

columns-chars-blanks : (n : ℕ) → columns_of (chars (blank_text n)) ≡ n
columns-chars-blanks n = ap columns_of (chars-IsAscii (blank_text n) (IsAscii-blanks n)) ∙ columns-blanks n

columns-chars-append : (xs ys : List ℕ) → IsUtf8 xs → columns_of (chars (xs ++ ys)) ≡ columns_of (chars xs) + columns_of (chars ys)
columns-chars-append xs ys utf8 = ap columns_of (chars-append xs ys utf8) ∙ columns-append (chars xs) (chars ys)

before-columns : (n : ℕ) (text : List ℕ) → columns_of (chars (blank_text n ++ text)) ≡ n + columns_of (chars text)
before-columns n text =
    columns-chars-append (blank_text n) text (IsUtf8-from_ascii (blank_text n) (IsAscii-blanks n)) ∙ ap (λ k. k + columns_of (chars text)) (columns-chars-blanks n)

after-columns : (n : ℕ) (text : List ℕ) → IsUtf8 text → columns_of (chars (text ++ blank_text n)) ≡ columns_of (chars text) + n
after-columns n text utf8 = columns-chars-append text (blank_text n) utf8 ∙ ap (λ k. columns_of (chars text) + k) (columns-chars-blanks n)

-- the blanks that are missing, and the columns of the text
filled : (n k : ℕ) → n - k + k ≡ max n k
filled n k = omega arith

pub padded_left-columns : (n : ℕ) (text : List ℕ) → columns_of (chars (padded_left n text)) ≡ max n (columns_of (chars text))
padded_left-columns n text = before-columns (missing n text) text ∙ filled n (columns_of (chars text))

pub padded_right-columns : (n : ℕ) (text : List ℕ) → IsUtf8 text → columns_of (chars (padded_right n text)) ≡ max n (columns_of (chars text))
padded_right-columns n text utf8 =
    let e = after-columns (missing n text) text utf8 in omega (arith, e, filled n (columns_of (chars text)))

between-columns : (n : ℕ) (text : List ℕ) → IsUtf8 text → columns_of (chars (between n text)) ≡ n + columns_of (chars text)
between-columns n text utf8 =
    let inner = after-columns (n - n / 2) text utf8 in
    let outer = before-columns (n / 2) (text ++ blank_text (n - n / 2)) in
    omega (arith, inner, outer)

pub centered-columns : (n : ℕ) (text : List ℕ) → IsUtf8 text → columns_of (chars (centered n text)) ≡ max n (columns_of (chars text))
centered-columns n text utf8 = between-columns (missing n text) text utf8 ∙ filled n (columns_of (chars text))
