-- Texts with an expression, and the trees that they have.
use Rattle.std.proofs.Common.{pos, [], ◌∷◌, refl, codes, encode_utf8_all}
use Rattle.upon_language_spec.proofs.Computation.Computing.{computing}
use Rattle.upon_types.specs.declared.types.token.Token.TheVariants.{Raw, BeginExpr, EndExpr, OpenBracket, CloseBracket, OpenBrace, CloseBrace, OpenParen, CloseParen, Dot, QuestionDot, Pipe, Comma, Colon, Whitespace, Ident, Index, Number, String}
use Rattle.upon_types.specs.declared.types.ast.path.AccessOp.TheVariants.{Direct, Optional}
use Rattle.upon_types.specs.Path.{by_index, by_key}
use Rattle.upon_types.specs.Expression.{base, filtered, var, list, mapping, paren, call, no_bases, no_items, item_then, no_arguments, arguments}
use Rattle.upon_types.specs.Tree.{raw}
use Rattle.upon_language_spec.specs.DefaultDelimiters.{default_delimiters}
use Rattle.upon_language_spec.specs.Grammar.{HasTree}
use Rattle.upon_language_spec.proofs.Computation.HasTreeTests.{has_tree_tested}
use Rattle.upon_language_spec.specs.ShortTrees.{at, word, bare, name, two}
use Rattle.upon_language_spec.proofs.Examples.ShortTrees.{lex, braced, step, number, quote, one_base, two_bases, shows, only, only_expression}

-- `{{ a }}}`: a tag, and a raw `}`
name_and_brace : HasTree default_delimiters (codes "{{ a }}}") (two (shows (name (codes "a") 3 4) 0 7) (raw (at 7 8)))
unfolding computing
name_and_brace = has_tree_tested _ _ (lex BeginExpr 0 2 ∷ lex Whitespace 2 3 ∷ lex Ident 3 4 ∷ lex Whitespace 4 5 ∷ lex EndExpr 5 7 ∷ lex Raw 7 8 ∷ []) _ refl

-- `{{ a.5 }}`: a step is from its operator
index : HasTree default_delimiters (codes "{{ a.5 }}") (only (var (bare (codes "a") 3 4) (step Direct (by_index 5 (at 5 6)) 4 6 ∷ [])) 9)
unfolding computing
index = has_tree_tested _ _ (braced (lex Ident 3 4 ∷ lex Dot 4 5 ∷ lex Index 5 6 ∷ []) 6) _ refl

-- `{{ ?.a }}`: a first name after an operator
leading_operator : HasTree default_delimiters (codes "{{ ?.a }}") (only (var (step Optional (by_key (word (codes "a") 5 6)) 3 6) []) 9)
unfolding computing
leading_operator = has_tree_tested _ _ (braced (lex QuestionDot 3 5 ∷ lex Ident 5 6 ∷ []) 6) _ refl

-- `{{ a.b?.c }}`
three_steps : HasTree default_delimiters (codes "{{ a.b?.c }}") (only (var (bare (codes "a") 3 4) (step Direct (by_key (word (codes "b") 5 6)) 4 6 ∷ step Optional (by_key (word (codes "c") 8 9)) 6 9 ∷ [])) 12)
unfolding computing
three_steps = has_tree_tested _ _ (braced (lex Ident 3 4 ∷ lex Dot 4 5 ∷ lex Ident 5 6 ∷ lex QuestionDot 6 8 ∷ lex Ident 8 9 ∷ []) 9) _ refl

-- `{{ (1) }}`
in_parentheses : HasTree default_delimiters (codes "{{ (1) }}") (only (paren (base (number (pos 1) 4 5)) (at 3 6)) 9)
unfolding computing
in_parentheses = has_tree_tested _ _ (braced (lex OpenParen 3 4 ∷ lex Number 4 5 ∷ lex CloseParen 5 6 ∷ []) 6) _ refl

-- `{{ f() }}`
call_of_nothing : HasTree default_delimiters (codes "{{ f() }}") (only (call (word (codes "f") 3 4) no_arguments (at 3 6)) 9)
unfolding computing
call_of_nothing = has_tree_tested _ _ (braced (lex Ident 3 4 ∷ lex OpenParen 4 5 ∷ lex CloseParen 5 6 ∷ []) 6) _ refl

-- `{{ f(1, a) }}`: the arguments are from the call's name to the last of them
call_of_two : HasTree default_delimiters (codes "{{ f(1, a) }}") (only (call (word (codes "f") 3 4) (arguments (two_bases (number (pos 1) 5 6) (name (codes "a") 8 9)) (at 3 9)) (at 3 10)) 13)
unfolding computing
call_of_two = has_tree_tested _ _ (braced (lex Ident 3 4 ∷ lex OpenParen 4 5 ∷ lex Number 5 6 ∷ lex Comma 6 7 ∷ lex Whitespace 7 8 ∷ lex Ident 8 9 ∷ lex CloseParen 9 10 ∷ []) 10) _ refl

-- `{{ a | f }}`
filter_alone : HasTree default_delimiters (codes "{{ a | f }}") (only_expression (filtered (base (name (codes "a") 3 4)) (word (codes "f") 7 8) no_arguments (at 3 8)) 11)
unfolding computing
filter_alone = has_tree_tested _ _ (braced (lex Ident 3 4 ∷ lex Whitespace 4 5 ∷ lex Pipe 5 6 ∷ lex Whitespace 6 7 ∷ lex Ident 7 8 ∷ []) 8) _ refl

-- `{{ a | f: 1, "x" }}`: the filter is from what it receives, and its arguments from the colon
filter_with_arguments : HasTree default_delimiters (codes "{{ a | f: 1, \"x\" }}") (only_expression (filtered (base (name (codes "a") 3 4)) (word (codes "f") 7 8) (arguments (two_bases (number (pos 1) 10 11) (quote (codes "x") 13 16)) (at 8 16)) (at 3 16)) 19)
unfolding computing
filter_with_arguments = has_tree_tested _ _ (braced (lex Ident 3 4 ∷ lex Whitespace 4 5 ∷ lex Pipe 5 6 ∷ lex Whitespace 6 7 ∷ lex Ident 7 8 ∷ lex Colon 8 9 ∷ lex Whitespace 9 10 ∷ lex Number 10 11 ∷ lex Comma 11 12 ∷ lex Whitespace 12 13 ∷ lex String 13 16 ∷ []) 16) _ refl

-- `{{ (a) | f | g }}`: the second receives what the first gives
two_filters : HasTree default_delimiters (codes "{{ (a) | f | g }}") (only_expression (filtered (filtered (base (paren (base (name (codes "a") 4 5)) (at 3 6))) (word (codes "f") 9 10) no_arguments (at 3 10)) (word (codes "g") 13 14) no_arguments (at 3 14)) 17)
unfolding computing
two_filters = has_tree_tested _ _ (braced (lex OpenParen 3 4 ∷ lex Ident 4 5 ∷ lex CloseParen 5 6 ∷ lex Whitespace 6 7 ∷ lex Pipe 7 8 ∷ lex Whitespace 8 9 ∷ lex Ident 9 10 ∷ lex Whitespace 10 11 ∷ lex Pipe 11 12 ∷ lex Whitespace 12 13 ∷ lex Ident 13 14 ∷ []) 14) _ refl

-- `{{ [] }}`
empty_list : HasTree default_delimiters (codes "{{ [] }}") (only (list no_bases (at 3 5)) 8)
unfolding computing
empty_list = has_tree_tested _ _ (braced (lex OpenBracket 3 4 ∷ lex CloseBracket 4 5 ∷ []) 5) _ refl

-- `{{ [1, a] }}`
list_of_two : HasTree default_delimiters (codes "{{ [1, a] }}") (only (list (two_bases (number (pos 1) 4 5) (name (codes "a") 7 8)) (at 3 9)) 12)
unfolding computing
list_of_two = has_tree_tested _ _ (braced (lex OpenBracket 3 4 ∷ lex Number 4 5 ∷ lex Comma 5 6 ∷ lex Whitespace 6 7 ∷ lex Ident 7 8 ∷ lex CloseBracket 8 9 ∷ []) 9) _ refl

-- `{{ {} }}`
empty_map : HasTree default_delimiters (codes "{{ {} }}") (only (mapping no_items (at 3 5)) 8)
unfolding computing
empty_map = has_tree_tested _ _ (braced (lex OpenBrace 3 4 ∷ lex CloseBrace 4 5 ∷ []) 5) _ refl

-- `{{ {"a": [1, b.c?.0,]} }}`: a comma may be before the `]`
map_of_a_list : HasTree default_delimiters (codes "{{ {\"a\": [1, b.c?.0,]} }}") (only (mapping (item_then (word (codes "a") 4 7) (list (two_bases (number (pos 1) 10 11) (var (bare (codes "b") 13 14) (step Direct (by_key (word (codes "c") 15 16)) 14 16 ∷ step Optional (by_index 0 (at 18 19)) 16 19 ∷ []))) (at 9 21)) no_items) (at 3 22)) 25)
unfolding computing
map_of_a_list = has_tree_tested _ _ (braced (lex OpenBrace 3 4 ∷ lex String 4 7 ∷ lex Colon 7 8 ∷ lex Whitespace 8 9 ∷ lex OpenBracket 9 10 ∷ lex Number 10 11 ∷ lex Comma 11 12 ∷ lex Whitespace 12 13 ∷ lex Ident 13 14 ∷ lex Dot 14 15 ∷ lex Ident 15 16 ∷ lex QuestionDot 16 18 ∷ lex Index 18 19 ∷ lex Comma 19 20 ∷ lex CloseBracket 20 21 ∷ lex CloseBrace 21 22 ∷ []) 22) _ refl

-- `{{a}}`
no_blanks : HasTree default_delimiters (codes "{{a}}") (only (name (codes "a") 2 3) 5)
unfolding computing
no_blanks = has_tree_tested _ _ (lex BeginExpr 0 2 ∷ lex Ident 2 3 ∷ lex EndExpr 3 5 ∷ []) _ refl

-- `{{ iffy }}`: a name may begin with a keyword
longer_than_keyword : HasTree default_delimiters (codes "{{ iffy }}") (only (name (codes "iffy") 3 7) 10)
unfolding computing
longer_than_keyword = has_tree_tested _ _ (braced (lex Ident 3 7 ∷ []) 7) _ refl

-- `{{ f (1) }}`: whitespace may be before the parenthesis
call_with_blank : HasTree default_delimiters (codes "{{ f (1) }}") (only (call (word (codes "f") 3 4) (arguments (one_base (number (pos 1) 6 7)) (at 3 7)) (at 3 8)) 11)
unfolding computing
call_with_blank = has_tree_tested _ _ (braced (lex Ident 3 4 ∷ lex Whitespace 4 5 ∷ lex OpenParen 5 6 ∷ lex Number 6 7 ∷ lex CloseParen 7 8 ∷ []) 8) _ refl

-- `{{ .5 }}`: a path of an index alone, and no number
leading_index : HasTree default_delimiters (codes "{{ .5 }}") (only (var (step Direct (by_index 5 (at 4 5)) 3 5) []) 8)
unfolding computing
leading_index = has_tree_tested _ _ (braced (lex Dot 3 4 ∷ lex Index 4 5 ∷ []) 5) _ refl

-- `{{ é }}`: spans count bytes
beyond_ascii : HasTree default_delimiters (encode_utf8_all (codes "{{ é }}")) (only (name (195 ∷ 169 ∷ []) 3 5) 8)
unfolding computing
beyond_ascii = has_tree_tested _ _ (braced (lex Ident 3 5 ∷ []) 5) _ refl
