-- Characters are read again from their bytes, also where a number is of no character: so the laws of case need no UTF-8.
use Rattle.std.proofs.Common.{◌≡◌, ℕ, zero, suc, ◌+◌, ◌/◌, ◌%◌, ◌<◌, ◌≤◌, List, [], ◌∷◌, ◌++◌, refl, ap, ◌∙◌, ⊎_elim, arith}
use Rattle.std.specs.Char.{encode_utf8}
use Rattle.std.specs.Str.{chars, chars_after, continuation_len, lead_bits, encode_utf8_all}
use Rattle.std.proofs.lemmas.Bool.{cases_lt, lt-ltb, le-ltb}

-- a character's value is complete
whole : (c : ℕ) (bs : List ℕ) → chars_after zero c bs ≡ c ∷ chars bs
unfolding chars
whole c [] = refl
whole c (b ∷ bs) = refl

-- the first byte says how many follow, and has the first bits
led : (a n v : ℕ) (bs : List ℕ) → continuation_len a ≡ n → lead_bits a ≡ v → chars (a ∷ bs) ≡ chars_after n v bs
unfolding chars
led a n v bs p q = λ i. chars_after (p i) (q i) bs

-- ---- a character of one to four bytes

one : (c : ℕ) (rest : List ℕ) → c < 128 → chars (encode_utf8 c ++ rest) ≡ c ∷ chars rest
unfolding encode_utf8
one c rest h = rw (lt-ltb c 128 h) (led c zero c rest (grind arith) (grind arith) ∙ whole c rest)

two : (c : ℕ) (rest : List ℕ) → 128 ≤ c → c < 2048 → chars (encode_utf8 c ++ rest) ≡ c ∷ chars rest
unfolding encode_utf8
two c rest l h =
    rw (le-ltb c 128 l, lt-ltb c 2048 h)
    (led (192 + c / 64) (suc zero) (c / 64) ((128 + c % 64) ∷ rest) (grind arith) (grind arith) ∙ whole _ rest ∙ ap (λ x. x ∷ chars rest) (omega arith))

three : (c : ℕ) (rest : List ℕ) → 2048 ≤ c → c < 65536 → chars (encode_utf8 c ++ rest) ≡ c ∷ chars rest
unfolding encode_utf8
three c rest l h =
    let past_one : 128 ≤ c = omega arith in
    rw (le-ltb c 128 past_one, le-ltb c 2048 l, lt-ltb c 65536 h)
    (led (224 + c / 4096) (suc (suc zero)) (c / 4096) ((128 + c / 64 % 64) ∷ (128 + c % 64) ∷ rest) (grind arith) (grind arith) ∙ whole _ rest ∙ ap (λ x. x ∷ chars rest) (omega arith))

four : (c : ℕ) (rest : List ℕ) → 65536 ≤ c → chars (encode_utf8 c ++ rest) ≡ c ∷ chars rest
unfolding encode_utf8
four c rest l =
    let past_one : 128 ≤ c = omega arith in
    let past_two : 2048 ≤ c = omega arith in
    rw (le-ltb c 128 past_one, le-ltb c 2048 past_two, le-ltb c 65536 l)
    (led (240 + c / 262144) (suc (suc (suc zero))) (c / 262144) ((128 + c / 4096 % 64) ∷ (128 + c / 64 % 64) ∷ (128 + c % 64) ∷ rest) (grind arith) (grind arith) ∙ whole _ rest ∙ ap (λ x. x ∷ chars rest) (omega arith))

chars-encode_utf8 : (c : ℕ) (rest : List ℕ) → chars (encode_utf8 c ++ rest) ≡ c ∷ chars rest
chars-encode_utf8 c rest =
    ⊎_elim (one c rest)
    (λ past_one. ⊎_elim (two c rest past_one) (λ past_two. ⊎_elim (three c rest past_two) (four c rest) (cases_lt c 65536)) (cases_lt c 2048))
    (cases_lt c 128)

pub chars-encode_utf8_all : (cs : List ℕ) → chars (encode_utf8_all cs) ≡ cs
unfolding chars
chars-encode_utf8_all [] = refl
chars-encode_utf8_all (c ∷ cs) = chars-encode_utf8 c (encode_utf8_all cs) ∙ ap (λ l. c ∷ l) (chars-encode_utf8_all cs)
