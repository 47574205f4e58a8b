-- Texts with hyphens, and the trees that they have: a hyphen takes the whitespace of the raw part beside it.
use Rattle.std.proofs.Common.{pos, negsuc, [], ◌∷◌, false, refl, codes, encode_utf8_all}
use Rattle.upon_language_spec.proofs.Computation.Computing.{computing}
use Rattle.upon_types.specs.declared.types.token.Token.TheVariants.{Raw, Minus, BeginExpr, EndExpr, BeginBlock, EndBlock, Whitespace, Keyword, Ident, Number}
use Rattle.upon_types.specs.Expression.{base}
use Rattle.upon_types.specs.Tree.{raw, if_else, no_else}
use Rattle.upon_language_spec.specs.DefaultDelimiters.{default_delimiters}
use Rattle.upon_language_spec.specs.Grammar.{HasTree}
use Rattle.upon_language_spec.proofs.Computation.HasTreeTests.{has_tree_tested}
use Rattle.upon_language_spec.specs.ShortTrees.{at, name, one, two}
use Rattle.upon_language_spec.proofs.Examples.ShortTrees.{lex, trimming, number, three, shows}

-- `a  {{- 1 -}}  b`
both_sides : HasTree default_delimiters (codes "a  {{- 1 -}}  b") (three (raw (at 0 1)) (shows (number (pos 1) 7 8) 3 12) (raw (at 14 15)))
unfolding computing
both_sides = has_tree_tested _ _ (lex Raw 0 3 ∷ trimming BeginExpr 3 6 ∷ lex Whitespace 6 7 ∷ lex Number 7 8 ∷ lex Whitespace 8 9 ∷ trimming EndExpr 9 12 ∷ lex Raw 12 15 ∷ []) _ refl

-- `a  {{- 1 }}  b`
before : HasTree default_delimiters (codes "a  {{- 1 }}  b") (three (raw (at 0 1)) (shows (number (pos 1) 7 8) 3 11) (raw (at 11 14)))
unfolding computing
before = has_tree_tested _ _ (lex Raw 0 3 ∷ trimming BeginExpr 3 6 ∷ lex Whitespace 6 7 ∷ lex Number 7 8 ∷ lex Whitespace 8 9 ∷ lex EndExpr 9 11 ∷ lex Raw 11 14 ∷ []) _ refl

-- `a  {{ 1 -}}  b`
behind : HasTree default_delimiters (codes "a  {{ 1 -}}  b") (three (raw (at 0 3)) (shows (number (pos 1) 6 7) 3 11) (raw (at 13 14)))
unfolding computing
behind = has_tree_tested _ _ (lex Raw 0 3 ∷ lex BeginExpr 3 5 ∷ lex Whitespace 5 6 ∷ lex Number 6 7 ∷ lex Whitespace 7 8 ∷ trimming EndExpr 8 11 ∷ lex Raw 11 14 ∷ []) _ refl

-- ` {{ 1 }}`
no_hyphen : HasTree default_delimiters (codes " {{ 1 }}") (two (raw (at 0 1)) (shows (number (pos 1) 4 5) 1 8))
unfolding computing
no_hyphen = has_tree_tested _ _ (lex Raw 0 1 ∷ lex BeginExpr 1 3 ∷ lex Whitespace 3 4 ∷ lex Number 4 5 ∷ lex Whitespace 5 6 ∷ lex EndExpr 6 8 ∷ []) _ refl

-- ` {{- 1 }}`: a raw part stays, and shows nothing
whitespace_alone : HasTree default_delimiters (codes " {{- 1 }}") (two (raw (at 0 0)) (shows (number (pos 1) 5 6) 1 9))
unfolding computing
whitespace_alone = has_tree_tested _ _ (lex Raw 0 1 ∷ trimming BeginExpr 1 4 ∷ lex Whitespace 4 5 ∷ lex Number 5 6 ∷ lex Whitespace 6 7 ∷ lex EndExpr 7 9 ∷ []) _ refl

-- `{{ 1 -}} \n{{- 2 }}`: trimmed at its end and then at its start
between : HasTree default_delimiters (codes "{{ 1 -}} \n{{- 2 }}") (three (shows (number (pos 1) 3 4) 0 8) (raw (at 8 8)) (shows (number (pos 2) 14 15) 10 18))
unfolding computing
between = has_tree_tested _ _ (lex BeginExpr 0 2 ∷ lex Whitespace 2 3 ∷ lex Number 3 4 ∷ lex Whitespace 4 5 ∷ trimming EndExpr 5 8 ∷ lex Raw 8 10 ∷ trimming BeginExpr 10 13 ∷ lex Whitespace 13 14 ∷ lex Number 14 15 ∷ lex Whitespace 15 16 ∷ lex EndExpr 16 18 ∷ []) _ refl

-- `{% if a -%} x {%- endif %}`
inside_block : HasTree default_delimiters (codes "{% if a -%} x {%- endif %}") (one (if_else false (base (name (codes "a") 6 7)) (one (raw (at 12 13))) no_else))
unfolding computing
inside_block = has_tree_tested _ _ (lex BeginBlock 0 2 ∷ lex Whitespace 2 3 ∷ lex Keyword 3 5 ∷ lex Whitespace 5 6 ∷ lex Ident 6 7 ∷ lex Whitespace 7 8 ∷ trimming EndBlock 8 11 ∷ lex Raw 11 14 ∷ trimming BeginBlock 14 17 ∷ lex Whitespace 17 18 ∷ lex Keyword 18 23 ∷ lex Whitespace 23 24 ∷ lex EndBlock 24 26 ∷ []) _ refl

-- `a {{-5}}`: the hyphen belongs to the begin, and the number is 5
hyphen_before_number : HasTree default_delimiters (codes "a {{-5}}") (two (raw (at 0 1)) (shows (number (pos 5) 5 6) 2 8))
unfolding computing
hyphen_before_number = has_tree_tested _ _ (lex Raw 0 2 ∷ trimming BeginExpr 2 5 ∷ lex Number 5 6 ∷ lex EndExpr 6 8 ∷ []) _ refl

-- `a {{--5}}`: `negsuc 4` is -5
hyphen_and_minus : HasTree default_delimiters (codes "a {{--5}}") (two (raw (at 0 1)) (shows (number (negsuc 4) 5 7) 2 9))
unfolding computing
hyphen_and_minus = has_tree_tested _ _ (lex Raw 0 2 ∷ trimming BeginExpr 2 5 ∷ lex Minus 5 6 ∷ lex Number 6 7 ∷ lex EndExpr 7 9 ∷ []) _ refl

-- a no-break space before `{{- 1 }}`: each whitespace character of Unicode is trimmed
no_break_space : HasTree default_delimiters (encode_utf8_all (97 ∷ 160 ∷ codes "{{- 1 }}")) (two (raw (at 0 1)) (shows (number (pos 1) 7 8) 3 11))
unfolding computing
no_break_space = has_tree_tested _ _ (lex Raw 0 3 ∷ trimming BeginExpr 3 6 ∷ lex Whitespace 6 7 ∷ lex Number 7 8 ∷ lex Whitespace 8 9 ∷ lex EndExpr 9 11 ∷ []) _ refl
