-- A text in lower case is its own lower case: it has no `Σ`, so where words end does not count.
use Rattle.std.proofs.Common.{◌≡◌, ℕ, Bool, true, false, not, ◌&&◌, ◌==◌, List, [], ◌∷◌, encode_utf8_all, chars, refl, ap, subst, ◌∙◌, eqb-true}
use Rattle.std.specs.List.{list_all}
use Rattle.std.specs.Char.Unicode.Rows.{by_runs, by_strings}
use Rattle.std.specs.Char.Unicode.ToLowercase.{lowercase_runs, lowercase_strings, to_lowercase}
use Rattle.std.specs.StrCase.Lower.{starts_with_cased, lowercase_before, is_in_word_after, lowercase_chars, str_to_lowercase}
use Rattle.std.proofs.lemmas.Bool.{and_parts, and_from, cond_both, false_from_ne_true, both_ways}
use Rattle.std.proofs.lemmas.List.Folds.{list_all-append}
use Rattle.upon_std.proofs.CaseTables.{alone, stays, tables_stay, mapping_stays}
use Rattle.upon_std.proofs.Characters.{chars-encode_utf8_all}

lower_tables_stay : tables_stay lowercase_runs lowercase_strings ≡ true
unfolding by_runs by_strings lowercase_runs lowercase_strings
lower_tables_stay = refl

to_lowercase_stays : (c : ℕ) → list_all (stays to_lowercase) (to_lowercase c) ≡ true
unfolding to_lowercase
to_lowercase_stays = mapping_stays lowercase_runs lowercase_strings lower_tables_stay

-- `Σ` does not stay, and `ς` does
sigma_changes : stays to_lowercase 0x3A3 ≡ false
unfolding to_lowercase by_runs by_strings lowercase_runs lowercase_strings
sigma_changes = refl

final_sigma_stays : stays to_lowercase 0x3C2 ≡ true
unfolding to_lowercase by_runs by_strings lowercase_runs lowercase_strings
final_sigma_stays = refl

-- each character of a text in lower case stays
lowercase_stays : (in_word : Bool) (cs : List ℕ) → list_all (stays to_lowercase) (lowercase_chars in_word cs) ≡ true
lowercase_stays in_word [] = refl
lowercase_stays in_word (c ∷ cs) =
    list_all-append (stays to_lowercase) (lowercase_before in_word c cs) (lowercase_chars (is_in_word_after in_word c) cs)
    ∙ and_from _ _
    (cond_both (c == 0x3A3 && in_word && not (starts_with_cased cs)) (0x3C2 ∷ []) (to_lowercase c) (λ xs. list_all (stays to_lowercase) xs ≡ true)
    (λ _. and_from (stays to_lowercase 0x3C2) true final_sigma_stays refl)
    (λ _. to_lowercase_stays c))
    (lowercase_stays (is_in_word_after in_word c) cs)

no_sigma : (c : ℕ) → stays to_lowercase c ≡ true → (c == 0x3A3) ≡ false
no_sigma c h =
    false_from_ne_true (c == 0x3A3)
    (λ e. both_ways (stays to_lowercase 0x3A3) sigma_changes (subst (λ x. stays to_lowercase x ≡ true) (eqb-true c 0x3A3 e) h))

-- characters that stay are their own lower case, inside a word and outside
lowercase_kept : (in_word : Bool) (cs : List ℕ) → list_all (stays to_lowercase) cs ≡ true → lowercase_chars in_word cs ≡ cs
lowercase_kept in_word [] h = refl
lowercase_kept in_word (c ∷ cs) h =
    let parts = and_parts (stays to_lowercase c) (list_all (stays to_lowercase) cs) h in
    rw (no_sigma c parts.0, alone c (to_lowercase c) parts.0, lowercase_kept (is_in_word_after in_word c) cs parts.1)

pub lower-lower : (text : List ℕ) → str_to_lowercase (str_to_lowercase text) ≡ str_to_lowercase text
unfolding str_to_lowercase
lower-lower text =
    ap (λ cs. encode_utf8_all (lowercase_chars false cs)) (chars-encode_utf8_all (lowercase_chars false (chars text)))
    ∙ ap encode_utf8_all (lowercase_kept false (lowercase_chars false (chars text)) (lowercase_stays false (chars text)))
