-- The content of a double-quoted scalar of YAML is read as the text that was written.
use Rattle.std.proofs.Common.{◌≡◌, ℕ, ◌+◌, ◌/◌, ◌%◌, ◌<◌, ◌≤◌, List, [], ◌∷◌, ◌++◌, Some, None, option_map, codes, refl, ap, ◌∙◌, inl, inr, false, true, arith}
use Rattle.std.proofs.lemmas.Bool.{lt-ltb, le-ltb, le-leb, ltb-true, leb-true, cases_lt, cases_Bool, and_from, and_parts}
use Rattle.std.proofs.lemmas.Bool.Decides.{nat_tests}
use Rattle.std.proofs.Math.Utf8.{scalar}
use Rattle.std.specs.Char.{digit_char}
use Rattle.std.specs.List.{list_all}
use Rattle.std.specs.Str.{all_scalars}
use Rattle.upon_quote.specs.Quoted.{or_itself}
use Rattle.upon_quote.specs.Hex.{two_digits}
use Rattle.upon_quote.specs.Yaml.{is_yaml_control, is_visible, yaml_escape_of, yaml_reads, yaml_number, yaml_content, quoted_yaml}
use Rattle.upon_quote.proofs.PlainDefaults.{LeavesDefaults, below_ten}
use Rattle.upon_quote.proofs.QuoteLemmas.{IsAsciiEscape}
use Rattle.upon_quote.specs.Reading.{read_past, read_then}
use Rattle.upon_quote.proofs.HexLemmas.{number_of_two, two_ascii}
use Rattle.upon_quote.proofs.QuoteLemmas.{ReadsAgain, read_quoted, listed, NoneOf}

abbrev Again : ℕ → Type 0
Again c = ReadsAgain yaml_escape_of yaml_reads c

two_read : (u : ℕ) (rest : List ℕ) → u < 256 → read_past yaml_reads 0 ((codes "\\x" ++ two_digits u) ++ rest) ≡ option_map (λ text. u ∷ text) (read_past yaml_reads 0 rest)
two_read u rest h =
    let behind = two_digits u ++ rest in
    let is : yaml_number 3 (Some u) ≡ Some (u, 3) = rw (lt-ltb u 0xD800 (omega arith)) refl in
    ap (λ r. read_then (yaml_number 3 r) (λ n. read_past yaml_reads n (120 ∷ behind))) (number_of_two u rest h)
    ∙ ap (λ r. read_then r (λ n. read_past yaml_reads n (120 ∷ behind))) is

-- characters with an escape of their own
abbrev named : List ℕ
named = 34 ∷ 92 ∷ 0 ∷ 9 ∷ 10 ∷ 13 ∷ 0x2028 ∷ 0x2029 ∷ 0xFEFF ∷ 0xFFFE ∷ 0xFFFF ∷ []

-- a control character has digits
control_is : (c : ℕ) → NoneOf named c → is_yaml_control c ≡ true → yaml_escape_of c ≡ Some (codes "\\x" ++ two_digits c)
control_is c (quote, (backslash, (n0, (n9, (nA, (nD, (n2028, (n2029, (nFEFF, (nFFFE, (nFFFF, u))))))))))) h = rw quote (rw backslash (rw n0 (rw n9 (rw nA (rw nD (rw h refl))))))

-- any other character has no escape
plain_is : (c : ℕ) → NoneOf named c → is_yaml_control c ≡ false → yaml_escape_of c ≡ None
plain_is c (quote, (backslash, (n0, (n9, (nA, (nD, (n2028, (n2029, (nFEFF, (nFFFE, (nFFFF, u))))))))))) h = rw quote (rw backslash (rw n0 (rw n9 (rw nA (rw nD (rw h (rw n2028 (rw n2029 (rw nFEFF (rw nFFFE (rw nFFFF refl)))))))))))

control_again : (c : ℕ) → NoneOf named c → is_yaml_control c ≡ true → c < 256 → Again c
control_again c others h small = λ rest. rw (control_is c others h) (two_read c rest small)

plain_again : (c : ℕ) → NoneOf named c → is_yaml_control c ≡ false → 32 ≤ c → Again c
plain_again c others h large = λ rest.
    let itself : yaml_reads c rest ≡ Some (c, 0) = rw others.1.0 (rw others.0 (rw (le-ltb c 32 large) refl)) in
    rw (plain_is c others h) (ap (λ r. read_then r (λ n. read_past yaml_reads n rest)) itself)

-- below U+0100, or none
low : (c : ℕ) → is_yaml_control c ≡ true → c < 256
low c h = grind (arith, ltb-true, leb-true)

high : (c : ℕ) → is_yaml_control c ≡ false → 32 ≤ c
high c h = grind (arith, lt-ltb)

again : (c : ℕ) → Again c
again c =
    listed Again named ((λ r. refl), ((λ r. refl), ((λ r. refl), ((λ r. refl), ((λ r. refl), ((λ r. refl), ((λ r. refl), ((λ r. refl), ((λ r. refl), ((λ r. refl), ((λ r. refl), tt))))))))))) c
    (λ others. elim (cases_Bool (is_yaml_control c)) as (λ x. Again c) [ inl h ↦ control_again c others h (low c h) | inr h ↦ plain_again c others h (high c h) ])

-- each escape is ASCII
abbrev Ascii : ℕ → Type 0
Ascii c = IsAsciiEscape (yaml_escape_of c)

control_ascii : (c : ℕ) → NoneOf named c → is_yaml_control c ≡ true → Ascii c
control_ascii c others h = rw (control_is c others h) (two_ascii c [] refl)

plain_ascii : (c : ℕ) → NoneOf named c → is_yaml_control c ≡ false → Ascii c
plain_ascii c others h = rw (plain_is c others h) tt

pub yaml_ascii : (c : ℕ) → IsAsciiEscape (yaml_escape_of c)
yaml_ascii c =
    listed Ascii named (refl, (refl, (refl, (refl, (refl, (refl, (refl, (refl, (refl, (refl, (refl, tt))))))))))) c
    (λ others. elim (cases_Bool (is_yaml_control c)) as (λ x. Ascii c) [ inl h ↦ control_ascii c others h | inr h ↦ plain_ascii c others h ])

pub yaml_content_quoted : (text : List ℕ) → yaml_content (quoted_yaml text) ≡ Some text
yaml_content_quoted text = read_quoted yaml_escape_of yaml_reads again text

-- what the default formatter writes for anything but a text is left as it is
pub yaml_leaves : LeavesDefaults yaml_escape_of
yaml_leaves = record {
  digit = below_ten (λ d. yaml_escape_of (48 + d) ≡ None) (refl, (refl, (refl, (refl, (refl, (refl, (refl, (refl, (refl, (refl, tt))))))))));
  minus = refl;
  true_word = (refl, (refl, (refl, (refl, tt))));
  false_word = (refl, (refl, (refl, (refl, (refl, tt)))));
}

-- all that is written is visible
visible_digit : (d : ℕ) → d < 16 → is_visible (digit_char d) ≡ true
visible_digit d h = elim (cases_lt d 10) as (λ x. is_visible (digit_char d) ≡ true) [
  | inl k ↦ rw (lt-ltb d 10 k) (rw (le-leb 0x20 (48 + d) (omega arith)) (rw (le-leb (48 + d) 0x7E (omega arith)) refl))
  | inr k ↦ rw (le-ltb d 10 k) (rw (le-leb 0x20 (87 + d) (omega arith)) (rw (le-leb (87 + d) 0x7E (omega arith)) refl))
]

visible_two : (c : ℕ) → list_all is_visible (codes "\\x" ++ two_digits c) ≡ true
visible_two c = rw (visible_digit (c / 16 % 16) (omega arith)) (rw (visible_digit (c % 16) (omega arith)) refl)

visible_plain : (c : ℕ) → scalar c ≡ true → NoneOf named c → is_yaml_control c ≡ false → is_visible c ≡ true
visible_plain c s others h = grind (arith, nat_tests)

visible_append : (a b : List ℕ) → list_all is_visible a ≡ true → list_all is_visible b ≡ true → list_all is_visible (a ++ b) ≡ true
visible_append [] b h k = k
visible_append (c ∷ cs) b h k =
    let parts = and_parts (is_visible c) (list_all is_visible cs) h in
    and_from (is_visible c) (list_all is_visible (cs ++ b)) parts.0 (visible_append cs b parts.1 k)

abbrev Visible : ℕ → Type 0
Visible c = scalar c ≡ true → list_all is_visible (or_itself (yaml_escape_of c) c) ≡ true

visible_other : (c : ℕ) → NoneOf named c → Visible c
visible_other c others = λ s. elim (cases_Bool (is_yaml_control c)) as (λ x. list_all is_visible (or_itself (yaml_escape_of c) c) ≡ true) [
  | inl h ↦ rw (control_is c others h) (visible_two c)
  | inr h ↦ rw (plain_is c others h) (rw (visible_plain c s others h) refl)
]

visible_one : (c : ℕ) → Visible c
visible_one c =
    listed Visible named ((λ s. refl), ((λ s. refl), ((λ s. refl), ((λ s. refl), ((λ s. refl), ((λ s. refl), ((λ s. refl), ((λ s. refl), ((λ s. refl), ((λ s. refl), ((λ s. refl), tt))))))))))) c (visible_other c)

pub yaml_visible : (text : List ℕ) → all_scalars text ≡ true → list_all is_visible (quoted_yaml text) ≡ true
yaml_visible [] h = refl
yaml_visible (c ∷ cs) h =
    let parts = and_parts (scalar c) (all_scalars cs) h in
    visible_append (or_itself (yaml_escape_of c) c) (quoted_yaml cs) (visible_one c parts.0) (yaml_visible cs parts.1)
