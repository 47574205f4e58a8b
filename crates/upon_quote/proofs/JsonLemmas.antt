-- The content of a JSON string is read as the text that was written.
use Rattle.std.proofs.Common.{◌≡◌, ℕ, ◌+◌, ◌<◌, ◌≤◌, List, [], ◌∷◌, ◌++◌, Some, None, option_map, drop, codes, refl, ap, ◌∙◌, inl, inr, arith}
use Rattle.std.proofs.lemmas.Bool.{lt-ltb, le-ltb, lt-leb, cases_lt}
use Rattle.upon_quote.specs.Hex.{four_digits}
use Rattle.upon_quote.specs.Json.{json_escape_of, json_reads, json_unit, json_content, quoted_json}
use Rattle.upon_quote.proofs.PlainDefaults.{LeavesDefaults, below_ten}
use Rattle.upon_quote.proofs.QuoteLemmas.{IsAsciiEscape}
use Rattle.upon_quote.specs.Reading.{read_past, read_then}
use Rattle.upon_quote.proofs.HexLemmas.{four_ascii, number_of_four}
use Rattle.upon_quote.proofs.QuoteLemmas.{ReadsAgain, read_quoted, listed, NoneOf}

abbrev Again : ℕ → Type 0
Again c = ReadsAgain json_escape_of json_reads c

-- a unit that is no surrogate
unit_alone : (u : ℕ) (cs : List ℕ) → u < 0xD800 → json_unit (Some u) cs ≡ Some (u, 5)
unit_alone u cs h = rw (lt-leb 0xD800 u h) (rw (lt-leb 0xDC00 u (omega arith)) refl)

unit_read : (u : ℕ) (rest : List ℕ) → u < 0xD800 → read_past json_reads 0 ((codes "\\u" ++ four_digits u) ++ rest) ≡ option_map (λ text. u ∷ text) (read_past json_reads 0 rest)
unit_read u rest h =
    let behind = four_digits u ++ rest in
    ap (λ r. read_then (json_unit r (drop 4 behind)) (λ n. read_past json_reads n (117 ∷ behind))) (number_of_four u rest (omega arith))
    ∙ ap (λ r. read_then r (λ n. read_past json_reads n (117 ∷ behind))) (unit_alone u (drop 4 behind) h)

-- characters with an escape of their own
abbrev named : List ℕ
named = 34 ∷ 92 ∷ 8 ∷ 9 ∷ 10 ∷ 12 ∷ 13 ∷ 0x2028 ∷ 0x2029 ∷ []

-- a control character has digits
control_is : (c : ℕ) → NoneOf named c → c < 32 → json_escape_of c ≡ Some (codes "\\u" ++ four_digits c)
control_is c (quote, (backslash, (n8, (n9, (nA, (nC, (nD, (n2028, (n2029, u))))))))) h = rw quote (rw backslash (rw n8 (rw n9 (rw nA (rw nC (rw nD (rw (lt-ltb c 32 h) refl)))))))

-- any other character has no escape
plain_is : (c : ℕ) → NoneOf named c → 32 ≤ c → json_escape_of c ≡ None
plain_is c (quote, (backslash, (n8, (n9, (nA, (nC, (nD, (n2028, (n2029, u))))))))) h = rw quote (rw backslash (rw n8 (rw n9 (rw nA (rw nC (rw nD (rw (le-ltb c 32 h) (rw n2028 (rw n2029 refl)))))))))

control_again : (c : ℕ) → NoneOf named c → c < 32 → Again c
control_again c others h = λ rest. rw (control_is c others h) (unit_read c rest (omega arith))

plain_again : (c : ℕ) → NoneOf named c → 32 ≤ c → Again c
plain_again c others h = λ rest.
    let itself : json_reads c rest ≡ Some (c, 0) = rw others.1.0 (rw others.0 (rw (le-ltb c 32 h) refl)) in
    rw (plain_is c others h) (ap (λ r. read_then r (λ n. read_past json_reads n rest)) itself)

again : (c : ℕ) → Again c
again c =
    listed Again named ((λ r. refl), ((λ r. refl), ((λ r. refl), ((λ r. refl), ((λ r. refl), ((λ r. refl), ((λ r. refl), ((λ r. refl), ((λ r. refl), tt))))))))) c
    (λ others. elim (cases_lt c 32) as (λ x. Again c) [ inl h ↦ control_again c others h | inr h ↦ plain_again c others h ])

-- each escape is ASCII
abbrev Ascii : ℕ → Type 0
Ascii c = IsAsciiEscape (json_escape_of c)

control_ascii : (c : ℕ) → NoneOf named c → c < 32 → Ascii c
control_ascii c others h = rw (control_is c others h) (four_ascii c)

plain_ascii : (c : ℕ) → NoneOf named c → 32 ≤ c → Ascii c
plain_ascii c others h = rw (plain_is c others h) tt

pub json_ascii : (c : ℕ) → IsAsciiEscape (json_escape_of c)
json_ascii c =
    listed Ascii named (refl, (refl, (refl, (refl, (refl, (refl, (refl, (refl, (refl, tt))))))))) c
    (λ others. elim (cases_lt c 32) as (λ x. Ascii c) [ inl h ↦ control_ascii c others h | inr h ↦ plain_ascii c others h ])

pub json_content_quoted : (text : List ℕ) → json_content (quoted_json text) ≡ Some text
json_content_quoted text = read_quoted json_escape_of json_reads again text

-- what the default formatter writes for anything but a text is left as it is
pub json_leaves : LeavesDefaults json_escape_of
json_leaves = record {
  digit = below_ten (λ d. json_escape_of (48 + d) ≡ None) (refl, (refl, (refl, (refl, (refl, (refl, (refl, (refl, (refl, (refl, tt))))))))));
  minus = refl;
  true_word = (refl, (refl, (refl, (refl, tt))));
  false_word = (refl, (refl, (refl, (refl, (refl, tt)))));
}
