-- The delimiters of the default syntax have texts, and these are UTF-8.
use Rattle.std.proofs.Common.{zero, suc, List, [], ◌∷◌, arith, rules}
use Rattle.std.specs.Str.{IsUtf8}
use Rattle.upon_language_spec.specs.Search.{DelimiterText, HasTexts}
use Rattle.upon_language_spec.specs.DefaultDelimiters.{default_delimiters}
use Rattle.upon_language_spec.specs.LiesIn.{HasUtf8}

abbrev EachIsUtf8 : List DelimiterText → Type 0
EachIsUtf8 [] = Unit {0}
EachIsUtf8 (p ∷ ps) = IsUtf8 p.text × EachIsUtf8 ps

by_index : (delimiters : List DelimiterText) → EachIsUtf8 delimiters → HasUtf8 delimiters
by_index [] each i l = absurd (omega arith)
by_index (p ∷ ps) each zero l = each.0
by_index (p ∷ ps) each (suc i) l = by_index ps each.1 i (omega arith)

pub default_texts : HasTexts default_delimiters
default_texts i l = search rules

pub default_utf8 : HasUtf8 default_delimiters
default_utf8 = by_index default_delimiters (search rules)
