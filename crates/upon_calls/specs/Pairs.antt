-- The delimiters that options ask for.
use Rattle.std.specs.Prelude.{ℕ, List, ◌∷◌, Option, Some, None, option_and_then, is_some, codes, bytes_eq, if◌then◌else◌}
use Rattle.upon_types.specs.Val.{Val, list_val, Vals, no_vals, val_then}
use Rattle.upon_language_spec.specs.DefaultDelimiters.{default_delimiters}
use Rattle.upon_language_spec.specs.Search.{DelimiterText}
use Rattle.upon_delimiters.specs.SetTexts.{SetTexts, nothing_set, with_expr, with_block, with_comment, built_delimiters}
use Rattle.upon_calls.specs.Arguments.{its_text}
use Rattle.upon_calls.specs.declared.pairs.Sort.{Sort}
use Rattle.upon_calls.specs.declared.pairs.Sort.TheVariants.{Expr, Block, Comment}

-- what a pair is for, by its word
abbrev pub sort_in : List ℕ → Option Sort
sort_in word = if bytes_eq word (codes "expr") then Some Expr else (
    if bytes_eq word (codes "block") then Some Block else (
    if bytes_eq word (codes "comment") then Some Comment else None))

-- a text, if it has a byte
abbrev pub if_any : List ℕ → Option (List ℕ)
if_any (b ∷ bs) = Some (b ∷ bs)
if_any _ = None

-- the text that a value is, if it has a byte
abbrev pub some_text_in : Val → Option (List ℕ)
some_text_in v = option_and_then if_any (its_text v)

-- what a pair is for, with its texts, if all three are there
abbrev pub triple_of : Option Sort → Option (List ℕ) → Option (List ℕ) → Option (Sort × (List ℕ × List ℕ))
triple_of (Some sort) (Some begin) (Some end) = Some (sort, (begin, end))
triple_of _ _ _ = None

-- the triple that a list is, of a word and two texts
abbrev pub triple_in : Val → Option (Sort × (List ℕ × List ℕ))
triple_in (list_val (val_then word (val_then begin (val_then end no_vals)))) =
    triple_of (option_and_then sort_in (its_text word)) (some_text_in begin) (some_text_in end)
triple_in _ = None

-- with a pair for this
abbrev pub with_sort_pair : Sort → List ℕ → List ℕ → SetTexts → SetTexts
with_sort_pair Expr begin end set = with_expr begin end set
with_sort_pair Block begin end set = with_block begin end set
with_sort_pair Comment begin end set = with_comment begin end set

-- with the pairs of triples, one after the other; none if one is no triple
abbrev pub with_pairs : Vals → SetTexts → Option SetTexts
with_pairs no_vals set = Some set
with_pairs (val_then v vs) set = option_and_then (λ t. with_pairs vs (with_sort_pair t.0 t.1.0 t.1.1 set)) (triple_in v)

-- pairs, if there is one for expressions
abbrev pub if_expr : SetTexts → Option SetTexts
if_expr set = if is_some set.expr then Some set else None

-- the pairs of a list of triples, if each is one, and one is for expressions
abbrev pub pairs_in : Vals → Option SetTexts
pairs_in vs = option_and_then if_expr (with_pairs vs nothing_set)

-- the delimiters that the option `syntax` asks for: the default ones if it is not there, else those of its pairs
abbrev pub delimiters_in : Option Val → Option (List DelimiterText)
delimiters_in None = Some default_delimiters
delimiters_in (Some (list_val vs)) = option_and_then (λ set. Some (built_delimiters set)) (pairs_in vs)
delimiters_in (Some _) = None
