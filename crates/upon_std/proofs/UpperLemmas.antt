-- A text in upper case is its own upper case.
use Rattle.std.proofs.Common.{◌≡◌, ℕ, true, List, [], ◌∷◌, flat_map, encode_utf8_all, chars, refl, ap, ◌∙◌}
use Rattle.std.specs.List.{list_all}
use Rattle.std.specs.Char.Unicode.Rows.{by_runs, by_strings}
use Rattle.std.specs.Char.Unicode.ToUppercase.{uppercase_runs, uppercase_strings, to_uppercase}
use Rattle.std.specs.StrCase.Upper.{str_to_uppercase}
use Rattle.std.proofs.lemmas.Bool.{and_parts, and_from}
use Rattle.std.proofs.lemmas.List.Folds.{list_all-append}
use Rattle.upon_std.proofs.CaseTables.{alone, stays, tables_stay, mapping_stays}
use Rattle.upon_std.proofs.Characters.{chars-encode_utf8_all}

upper_tables_stay : tables_stay uppercase_runs uppercase_strings ≡ true
unfolding by_runs by_strings uppercase_runs uppercase_strings
upper_tables_stay = refl

to_uppercase_stays : (c : ℕ) → list_all (stays to_uppercase) (to_uppercase c) ≡ true
unfolding to_uppercase
to_uppercase_stays = mapping_stays uppercase_runs uppercase_strings upper_tables_stay

-- each character of a text in upper case stays
uppercase_stays : (cs : List ℕ) → list_all (stays to_uppercase) (flat_map to_uppercase cs) ≡ true
uppercase_stays [] = refl
uppercase_stays (c ∷ cs) =
    list_all-append (stays to_uppercase) (to_uppercase c) (flat_map to_uppercase cs) ∙ and_from _ _ (to_uppercase_stays c) (uppercase_stays cs)

-- characters that stay are their own upper case
uppercase_kept : (cs : List ℕ) → list_all (stays to_uppercase) cs ≡ true → flat_map to_uppercase cs ≡ cs
uppercase_kept [] h = refl
uppercase_kept (c ∷ cs) h =
    let parts = and_parts (stays to_uppercase c) (list_all (stays to_uppercase) cs) h in
    rw (alone c (to_uppercase c) parts.0, uppercase_kept cs parts.1)

pub upper-upper : (text : List ℕ) → str_to_uppercase (str_to_uppercase text) ≡ str_to_uppercase text
unfolding str_to_uppercase
upper-upper text =
    ap (λ cs. encode_utf8_all (flat_map to_uppercase cs)) (chars-encode_utf8_all (flat_map to_uppercase (chars text)))
    ∙ ap encode_utf8_all (uppercase_kept (flat_map to_uppercase (chars text)) (uppercase_stays (chars text)))
