-- Each delimiter of a list that is built has a byte, and is UTF-8.
use Rattle.std.proofs.Common.{◌≡◌, ℕ, zero, suc, ◌<◌, List, [], ◌∷◌, ◌++◌, length, map, arith, sym, subst, refl}
use Rattle.std.specs.Prelude.{Option, None, Some, option_map}
use Rattle.std.proofs.lemmas.List.{length-append}
use Rattle.std.proofs.lemmas.Str.{IsUtf8-string_bytes}
use Rattle.upon_types.specs.Bytes.{hyphen}
use Rattle.upon_types.specs.declared.types.Delimiter.{Delimiter}
use Rattle.upon_language_spec.specs.LiesIn.{HasUtf8}
use Rattle.upon_language_spec.specs.Search.{DelimiterText, HasTexts}
use Rattle.upon_delimiters.specs.Entries.{delimiter_text_of}
use Rattle.upon_delimiters.specs.SetTexts.{pair_delimiters}
use Rattle.upon_delimiters.specs.TagTexts.{pair_of, HaveBytes}
use Rattle.upon_delimiters.specs.declared.syntax.Entry.{Entry}
use Rattle.upon_delimiters.specs.declared.syntax.builder.TagTexts.{TagTexts}

-- each text of the list has a byte
abbrev pub EachHasByte : List DelimiterText → Type 0
EachHasByte [] = Unit {0}
EachHasByte (p ∷ ps) = (0 < length p.text) × EachHasByte ps

pub by_index : (delimiters : List DelimiterText) → EachHasByte delimiters → HasTexts delimiters
by_index [] each i l = absurd (omega arith)
by_index (p ∷ ps) each zero l = each.0
by_index (p ∷ ps) each (suc i) l = by_index ps each.1 i (omega arith)

each_append : (xs ys : List DelimiterText) → EachHasByte xs → EachHasByte ys → EachHasByte (xs ++ ys)
each_append [] ys one other = other
each_append (x ∷ xs) ys one other = (one.0, each_append xs ys one.1 other)

longer : (xs ys : List ℕ) → 0 < length xs → 0 < length (xs ++ ys)
longer xs ys some = omega (arith, length-append xs ys)

pair_bytes : (begin end begin_trim end_trim : Delimiter) (texts : Option TagTexts) → HaveBytes texts
    → EachHasByte (pair_delimiters begin end begin_trim end_trim (option_map pair_of texts))
pair_bytes begin end begin_trim end_trim None have = tt
pair_bytes begin end begin_trim end_trim (Some texts) have =
    let two = have texts refl in
    (two.0, (two.1, (longer texts.begin.now (hyphen ∷ []) two.0, (omega arith, tt))))

-- a list to which the delimiters of a pair were added
pub more_bytes : (begin end begin_trim end_trim : Delimiter) (texts : Option TagTexts) (old new : List DelimiterText)
    → HaveBytes texts
    → new ≡ old ++ pair_delimiters begin end begin_trim end_trim (option_map pair_of texts)
    → EachHasByte old → EachHasByte new
more_bytes begin end begin_trim end_trim texts old new have is each =
    subst EachHasByte (sym is) (each_append old _ each (pair_bytes begin end begin_trim end_trim texts have))

pub entries_utf8 : (entries : List Entry) → HasUtf8 (map delimiter_text_of entries)
entries_utf8 [] i l = absurd (omega arith)
entries_utf8 (e ∷ es) zero l = IsUtf8-string_bytes e.text
entries_utf8 (e ∷ es) (suc i) l = entries_utf8 es i (omega arith)
