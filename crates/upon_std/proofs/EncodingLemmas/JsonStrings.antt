-- A text in double quotes is read again as that text.
use Rattle.std.proofs.Common.{◌≡◌, ℕ, ◌+◌, ◌/◌, ◌%◌, ◌<◌, ◌≤◌, Bool, true, false, cond, ◌==◌, List, [], ◌∷◌, ◌++◌, Option, Some, None, codes, chars, nat_lt, refl, sym, ap, ap₂, subst, ◌∙◌, append_assoc, inl, inr, arith}
use Rattle.std.specs.Prelude.{encode_utf8_all}
use Rattle.std.specs.Char.{digit_char, digit_value, encode_utf8}
use Rattle.std.specs.Str.{IsUtf8}
use Rattle.std.proofs.lemmas.Bool.{cases_lt, le-ltb, lt-ltb, lt-leb, ne_eqb}
use Rattle.std.proofs.lemmas.Bool.Decides.{nat_tests}
use Rattle.std.proofs.lemmas.Str.{digit_value-digit_char, encode_ascii, encodes-chars}
use Rattle.json.specs.Lex.{Lexeme, Mode, between, in_string, lex, lex_byte, operator, other, space, string_token, token}
use Rattle.json.specs.Text.{code_unit, content, plain, prepend, short_escape}
use Rattle.json.specs.Token.{string}
use Rattle.json.specs.Word.{is_operator, is_space}
use Rattle.upon_quote.specs.Hex.{four_digits}
use Rattle.upon_quote.specs.Json.{json_escape_of}
use Rattle.upon_quote.specs.Tokens.{bytes_by, bytes_or_itself, quoted_bytes}
use Rattle.upon_quote.proofs.QuoteLemmas.{listed, NoneOf}
use Rattle.upon_std.specs.Encoding.JsonText.{json_string}

-- a character is read again of what is written for it, and the lexer stays in the string
record Passes (c : ℕ) : Type 0 where
  read : (r : List ℕ) → content plain (bytes_or_itself (json_escape_of c) c ++ r) ≡ prepend (encode_utf8 c) (content plain r)
  lexed : (r : List ℕ) → lex in_string (bytes_or_itself (json_escape_of c) c ++ r) ≡ lex in_string r

-- ---- one byte that stands for itself

stays : (o s : Bool) (x : ℕ) (r : List ℕ) (k : Mode → List Lexeme) → lex_byte in_string (cond o operator (cond s space other)) x r k ≡ k in_string
stays true s x r k = refl
stays false true x r k = refl
stays false false x r k = refl

byte_lexed : (x : ℕ) (r : List ℕ) → (x == 34) ≡ false → (x == 92) ≡ false → lex in_string (x ∷ r) ≡ lex in_string r
unfolding lex
byte_lexed x r quote backslash = rw (quote, backslash) (stays (is_operator x) (is_space x) x r (λ m. lex m r))

byte_read : (x : ℕ) (r : List ℕ) → (x == 34) ≡ false → (x == 92) ≡ false → 32 ≤ x → content plain (x ∷ r) ≡ prepend (x ∷ []) (content plain r)
unfolding content
byte_read x r quote backslash h = rw (quote, backslash, le-ltb x 32 h) refl

-- ---- bytes that stand for themselves

record IsItself (x : ℕ) : Type 0 where
  quote : (x == 34) ≡ false
  backslash : (x == 92) ≡ false
  high : 32 ≤ x

abbrev Plain : List ℕ → Type 0
Plain [] = Unit {0}
Plain (x ∷ xs) = IsItself x × Plain xs

prepend-nil : (o : Option (List ℕ)) → prepend [] o ≡ o
prepend-nil None = refl
prepend-nil (Some s) = refl

prepend-prepend : (a b : List ℕ) (o : Option (List ℕ)) → prepend a (prepend b o) ≡ prepend (a ++ b) o
prepend-prepend a b None = refl
prepend-prepend a b (Some s) = ap Some (sym (append_assoc a b s))

bytes_read : (bs r : List ℕ) → Plain bs → content plain (bs ++ r) ≡ prepend bs (content plain r)
bytes_read [] r h = sym (prepend-nil (content plain r))
bytes_read (x ∷ bs) r h =
    byte_read x (bs ++ r) h.0.quote h.0.backslash h.0.high ∙ ap (prepend (x ∷ [])) (bytes_read bs r h.1) ∙ prepend-prepend (x ∷ []) bs (content plain r)

bytes_lexed : (bs r : List ℕ) → Plain bs → lex in_string (bs ++ r) ≡ lex in_string r
bytes_lexed [] r h = refl
bytes_lexed (x ∷ bs) r h = byte_lexed x (bs ++ r) h.0.quote h.0.backslash ∙ bytes_lexed bs r h.1

itself_high : (x : ℕ) → 128 ≤ x → IsItself x
itself_high x h = record { quote = ne_eqb x 34 (λ e. omega arith); backslash = ne_eqb x 92 (λ e. omega arith); high = omega arith }

chosen : (a b e : Bool) (w x y z : List ℕ) → Plain w → Plain x → Plain y → Plain z → Plain (cond a w (cond b x (cond e y z)))
chosen true b e w x y z one two three four = one
chosen false true e w x y z one two three four = two
chosen false false true w x y z one two three four = three
chosen false false false w x y z one two three four = four

Plain-encode_high : (c : ℕ) → 128 ≤ c → Plain (encode_utf8 c)
unfolding encode_utf8
Plain-encode_high c h =
    let last = itself_high (128 + c % 64) (omega arith) in
    let middle = itself_high (128 + c / 64 % 64) (omega arith) in
    let second = itself_high (128 + c / 4096 % 64) (omega arith) in
    chosen (nat_lt c 128) (nat_lt c 2048) (nat_lt c 65536) (c ∷ []) ((192 + c / 64) ∷ (128 + c % 64) ∷ [])
    ((224 + c / 4096) ∷ (128 + c / 64 % 64) ∷ (128 + c % 64) ∷ [])
    ((240 + c / 262144) ∷ (128 + c / 4096 % 64) ∷ (128 + c / 64 % 64) ∷ (128 + c % 64) ∷ []) (itself_high c h, tt)
    (itself_high (192 + c / 64) (omega arith), (last, tt)) (itself_high (224 + c / 4096) (omega arith), (middle, (last, tt)))
    (itself_high (240 + c / 262144) (omega arith), (second, (middle, (last, tt))))

Plain-encode : (c : ℕ) → IsItself c → Plain (encode_utf8 c)
Plain-encode c h = elim (cases_lt c 128) as (λ x. Plain (encode_utf8 c)) [
  | inl low ↦ subst Plain (sym (encode_ascii c low)) (h, tt)
  | inr high ↦ Plain-encode_high c high
]

-- ---- escapes with four digits

digit_itself : (d : ℕ) → d < 16 → IsItself (digit_char d)
digit_itself d h = record { quote = grind (arith, nat_tests); backslash = grind (arith, nat_tests); high = grind (arith, nat_tests) }

unit_read : (u : ℕ) → u < 65536
    → code_unit (digit_char (u / 256 / 16 % 16)) (digit_char (u / 256 % 16)) (digit_char (u / 16 % 16)) (digit_char (u % 16)) ≡ Some u
unfolding code_unit
unit_read u h =
    let a = u / 256 / 16 % 16 in
    let b = u / 256 % 16 in
    let d = u / 16 % 16 in
    let e = u % 16 in
    let va : digit_value (digit_char a) ≡ a = digit_value-digit_char a (omega arith) in
    let vb : digit_value (digit_char b) ≡ b = digit_value-digit_char b (omega arith) in
    let vd : digit_value (digit_char d) ≡ d = digit_value-digit_char d (omega arith) in
    let ve : digit_value (digit_char e) ≡ e = digit_value-digit_char e (omega arith) in
    rw (va, vb, vd, ve, lt-ltb a 16 (omega arith), lt-ltb b 16 (omega arith), lt-ltb d 16 (omega arith), lt-ltb e 16 (omega arith)) (ap Some (omega arith))

escape_read : (u : ℕ) (r : List ℕ) → u < 0xD800 → content plain ((codes "\\u" ++ four_digits u) ++ r) ≡ prepend (encode_utf8 u) (content plain r)
unfolding content
escape_read u r h = rw (unit_read u (omega arith), lt-leb 0xD800 u h, lt-leb 0xDC00 u (omega arith)) refl

escape_begins : (r : List ℕ) → lex in_string (codes "\\u" ++ r) ≡ lex in_string r
unfolding lex
escape_begins r = refl

escape_lexed : (u : ℕ) (r : List ℕ) → lex in_string ((codes "\\u" ++ four_digits u) ++ r) ≡ lex in_string r
escape_lexed u r =
    escape_begins (four_digits u ++ r)
    ∙ bytes_lexed (four_digits u) r
    (digit_itself (u / 256 / 16 % 16) (omega arith), (digit_itself (u / 256 % 16) (omega arith), (digit_itself (u / 16 % 16) (omega arith), (digit_itself (u % 16) (omega arith), tt))))

-- ---- each character

-- characters with an escape of their own
abbrev named : List ℕ
named = 34 ∷ 92 ∷ 8 ∷ 9 ∷ 10 ∷ 12 ∷ 13 ∷ 0x2028 ∷ 0x2029 ∷ []

control_is : (c : ℕ) → NoneOf named c → c < 32 → json_escape_of c ≡ Some (codes "\\u" ++ four_digits c)
control_is c (quote, (backslash, (n8, (n9, (nA, (nC, (nD, (n2028, (n2029, u))))))))) h = rw quote (rw backslash (rw n8 (rw n9 (rw nA (rw nC (rw nD (rw (lt-ltb c 32 h) refl)))))))

plain_is : (c : ℕ) → NoneOf named c → 32 ≤ c → json_escape_of c ≡ None
plain_is c (quote, (backslash, (n8, (n9, (nA, (nC, (nD, (n2028, (n2029, u))))))))) h = rw quote (rw backslash (rw n8 (rw n9 (rw nA (rw nC (rw nD (rw (le-ltb c 32 h) (rw n2028 (rw n2029 refl)))))))))

control_passes : (c : ℕ) → NoneOf named c → c < 32 → Passes c
control_passes c others h =
    let is = control_is c others h in
    record { read = λ r. rw is (escape_read c r (omega arith)); lexed = λ r. rw is (escape_lexed c r) }

plain_passes : (c : ℕ) → NoneOf named c → 32 ≤ c → Passes c
plain_passes c others h =
    let is = plain_is c others h in
    let itself = Plain-encode c (record { quote = others.0; backslash = others.1.0; high = h }) in
    record { read = λ r. rw is (bytes_read (encode_utf8 c) r itself); lexed = λ r. rw is (bytes_lexed (encode_utf8 c) r itself) }

quote_passes : Passes 34
unfolding content lex short_escape encode_utf8
quote_passes = record { read = λ r. refl; lexed = λ r. refl }

backslash_passes : Passes 92
unfolding content lex short_escape encode_utf8
backslash_passes = record { read = λ r. refl; lexed = λ r. refl }

backspace_passes : Passes 8
unfolding content lex short_escape encode_utf8
backspace_passes = record { read = λ r. refl; lexed = λ r. refl }

tab_passes : Passes 9
unfolding content lex short_escape encode_utf8
tab_passes = record { read = λ r. refl; lexed = λ r. refl }

line_feed_passes : Passes 10
unfolding content lex short_escape encode_utf8
line_feed_passes = record { read = λ r. refl; lexed = λ r. refl }

form_feed_passes : Passes 12
unfolding content lex short_escape encode_utf8
form_feed_passes = record { read = λ r. refl; lexed = λ r. refl }

return_passes : Passes 13
unfolding content lex short_escape encode_utf8
return_passes = record { read = λ r. refl; lexed = λ r. refl }

line_passes : Passes 0x2028
line_passes = record { read = λ r. escape_read 0x2028 r (omega arith); lexed = escape_lexed 0x2028 }

paragraph_passes : Passes 0x2029
paragraph_passes = record { read = λ r. escape_read 0x2029 r (omega arith); lexed = escape_lexed 0x2029 }

passes : (c : ℕ) → Passes c
passes c =
    listed Passes named
    (quote_passes, (backslash_passes, (backspace_passes, (tab_passes, (line_feed_passes, (form_feed_passes, (return_passes, (line_passes, (paragraph_passes, tt)))))))))
    c (λ others. elim (cases_lt c 32) as (λ x. Passes c) [ inl h ↦ control_passes c others h | inr h ↦ plain_passes c others h ])

-- ---- a whole text

content_quoted : (cs r : List ℕ) → content plain (bytes_by json_escape_of cs ++ (34 ∷ r)) ≡ Some (encode_utf8_all cs)
unfolding content
content_quoted [] r = refl
content_quoted (c ∷ cs) r =
    ap (content plain) (append_assoc (bytes_or_itself (json_escape_of c) c) (bytes_by json_escape_of cs) (34 ∷ r))
    ∙ (passes c).read (bytes_by json_escape_of cs ++ (34 ∷ r)) ∙ ap (prepend (encode_utf8 c)) (content_quoted cs r)

lex_quoted : (cs r : List ℕ) → lex in_string (bytes_by json_escape_of cs ++ (34 ∷ r)) ≡ lex between r
unfolding lex
lex_quoted [] r = refl
lex_quoted (c ∷ cs) r =
    ap (lex in_string) (append_assoc (bytes_or_itself (json_escape_of c) c) (bytes_by json_escape_of cs) (34 ∷ r))
    ∙ (passes c).lexed (bytes_by json_escape_of cs ++ (34 ∷ r)) ∙ lex_quoted cs r

-- a text in double quotes is one lexeme, whatever follows it
pub string_lexed : (s r : List ℕ) → IsUtf8 s → lex between (json_string s ++ r) ≡ token (string s) ∷ lex between r
unfolding lex
string_lexed s r utf8 =
    ap (λ l. lex between (34 ∷ l)) (append_assoc (quoted_bytes json_escape_of s) (34 ∷ []) r)
    ∙ ap₂ (λ o l. token (string_token o) ∷ l) (content_quoted (chars s) r ∙ ap Some (encodes-chars s utf8)) (lex_quoted (chars s) r)
