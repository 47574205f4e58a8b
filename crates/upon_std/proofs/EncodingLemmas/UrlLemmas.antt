-- Texts that are encoded for URLs.
use Rattle.std.proofs.Common.{◌≡◌, ℕ, ◌+◌, ◌*◌, ◌/◌, ◌%◌, ◌<◌, ◌≢◌, Bool, true, false, cond, List, [], ◌∷◌, ◌++◌, refl, ap, sym, ◌∙◌, append_assoc, arith}
use Rattle.std.specs.Char.{digit_value}
use Rattle.std.specs.Fmt.{digit_glyph}
use Rattle.std.specs.List.{All, list_all}
use Rattle.std.proofs.lemmas.Bool.{and_from, and_parts}
use Rattle.std.proofs.lemmas.Bool.Decides.{nat_tests}
use Rattle.std.proofs.lemmas.List.Elements.{All-head, All-tail}
use Rattle.percent_encoding.specs.Percent.{percent_decode}
use Rattle.percent_encoding.proofs.PercentLemmas.{percent_decode-nil, percent_decode_escape, percent_decode_not_percent}
use Rattle.upon_std.specs.Encoding.Url.{escaped_byte, is_unreserved, is_url_byte, url_byte, url_text}

-- a hexadecimal digit
glyph-value : (d : ℕ) → d < 16 → digit_value (digit_glyph true d) ≡ d
glyph-value d small = grind (arith, nat_tests)

glyph-clean : (d : ℕ) → d < 16 → is_url_byte (digit_glyph true d) ≡ true
glyph-clean d small = grind (arith, nat_tests)

unreserved-clean : (b : ℕ) → is_unreserved b ≡ true → is_url_byte b ≡ true
unreserved-clean b h = grind (arith, nat_tests)

list_all-append : (p : ℕ → Bool) (xs ys : List ℕ) → list_all p xs ≡ true → list_all p ys ≡ true → list_all p (xs ++ ys) ≡ true
list_all-append p [] ys h k = k
list_all-append p (x ∷ xs) ys h k =
    let parts = and_parts (p x) (list_all p xs) h in
    and_from (p x) (list_all p (xs ++ ys)) parts.0 (list_all-append p xs ys parts.1 k)

escaped-clean : (b : ℕ) → b < 256 → list_all is_url_byte (escaped_byte b) ≡ true
escaped-clean b small =
    and_from true _ refl
    (and_from (is_url_byte (digit_glyph true (b / 16))) _ (glyph-clean (b / 16) (omega arith))
    (and_from (is_url_byte (digit_glyph true (b % 16))) true (glyph-clean (b % 16) (omega arith)) refl))

either-clean : (u : Bool) (b : ℕ) → is_unreserved b ≡ u → b < 256 → list_all is_url_byte (cond u (b ∷ []) (escaped_byte b)) ≡ true
either-clean true b h small = and_from (is_url_byte b) true (unreserved-clean b h) refl
either-clean false b h small = escaped-clean b small

pub url_text-clean : (bytes : List ℕ) → All (λ b. b < 256) bytes → list_all is_url_byte (url_text bytes) ≡ true
url_text-clean [] small = refl
url_text-clean (b ∷ bs) small =
    list_all-append is_url_byte (url_byte b) (url_text bs) (either-clean (is_unreserved b) b refl (All-head (λ x. x < 256) b bs small)) (url_text-clean bs (All-tail (λ x. x < 256) b bs small))

not_percent : (b : ℕ) → is_unreserved b ≡ true → b ≢ 37
not_percent b h e = grind (arith, nat_tests)

either-decoded : (u : Bool) (b : ℕ) (rest : List ℕ) → is_unreserved b ≡ u → b < 256
    → percent_decode (cond u (b ∷ []) (escaped_byte b) ++ rest) ≡ b ∷ percent_decode rest
either-decoded true b rest h small = percent_decode_not_percent b rest (not_percent b h)
either-decoded false b rest h small =
    let high = glyph-value (b / 16) (omega arith) in
    let low = glyph-value (b % 16) (omega arith) in
    let below : digit_value (digit_glyph true (b / 16)) < 16 = omega (arith, high) in
    let below' : digit_value (digit_glyph true (b % 16)) < 16 = omega (arith, low) in
    let same : 16 * digit_value (digit_glyph true (b / 16)) + digit_value (digit_glyph true (b % 16)) ≡ b = omega (arith, high, low) in
    percent_decode_escape 37 (digit_glyph true (b / 16)) (digit_glyph true (b % 16)) rest refl below below' ∙ ap (λ x. x ∷ percent_decode rest) same

pub url_text-decoded : (bytes : List ℕ) → All (λ b. b < 256) bytes → percent_decode (url_text bytes) ≡ bytes
url_text-decoded [] small = percent_decode-nil
url_text-decoded (b ∷ bs) small =
    either-decoded (is_unreserved b) b (url_text bs) refl (All-head (λ x. x < 256) b bs small) ∙ ap (λ x. b ∷ x) (url_text-decoded bs (All-tail (λ x. x < 256) b bs small))

-- one more byte is written
pub one_more : (old new rest bytes whole : List ℕ) (b : ℕ) → bytes ≡ b ∷ rest → new ≡ old ++ url_byte b → old ++ url_text bytes ≡ whole
    → new ++ url_text rest ≡ whole
one_more old new rest bytes whole b e of_new so_far =
    ap (λ t. t ++ url_text rest) of_new ∙ append_assoc old (url_byte b) (url_text rest) ∙ ap (λ t. old ++ url_text t) (sym e) ∙ so_far
