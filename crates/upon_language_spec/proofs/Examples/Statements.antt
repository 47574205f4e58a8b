-- Texts with tags, and the trees that they have.
use Rattle.std.proofs.Common.{pos, [], ◌∷◌, Some, None, true, false, refl, codes}
use Rattle.upon_language_spec.proofs.Computation.Computing.{computing}
use Rattle.upon_types.specs.declared.types.token.Token.TheVariants.{Raw, BeginExpr, EndExpr, BeginBlock, EndBlock, OpenBracket, CloseBracket, Dot, Comma, Whitespace, Keyword, Ident, Number, String}
use Rattle.upon_types.specs.declared.types.ast.path.AccessOp.TheVariants.{Direct}
use Rattle.upon_types.specs.Path.{by_key, item, key_value}
use Rattle.upon_types.specs.Expression.{base, var, list}
use Rattle.upon_types.specs.Tree.{raw, include, if_else, for_loop, with, no_statements, no_else, otherwise}
use Rattle.upon_language_spec.specs.DefaultDelimiters.{default_delimiters}
use Rattle.upon_language_spec.specs.Grammar.{HasTree}
use Rattle.upon_language_spec.proofs.Computation.HasTreeTests.{has_tree_tested}
use Rattle.upon_language_spec.specs.ShortTrees.{at, word, bare, name, one}
use Rattle.upon_language_spec.proofs.Examples.ShortTrees.{lex, step, number, two_bases, shows}

-- the empty text: it has no statement
nothing : HasTree default_delimiters (codes "") no_statements
unfolding computing
nothing = has_tree_tested _ _ [] _ refl

-- `ab`
text_alone : HasTree default_delimiters (codes "ab") (one (raw (at 0 2)))
unfolding computing
text_alone = has_tree_tested _ _ (lex Raw 0 2 ∷ []) _ refl

-- `{% if not a %}x{% else if b %}y{% else %}z{% endif %}`: one `endif` ends both
if_else_if_else : HasTree default_delimiters (codes "{% if not a %}x{% else if b %}y{% else %}z{% endif %}") (one (if_else true (base (name (codes "a") 10 11)) (one (raw (at 14 15))) (otherwise (one (if_else false (base (name (codes "b") 26 27)) (one (raw (at 30 31))) (otherwise (one (raw (at 41 42)))))))))
unfolding computing
if_else_if_else = has_tree_tested _ _ (lex BeginBlock 0 2 ∷ lex Whitespace 2 3 ∷ lex Keyword 3 5 ∷ lex Whitespace 5 6 ∷ lex Keyword 6 9 ∷ lex Whitespace 9 10 ∷ lex Ident 10 11 ∷ lex Whitespace 11 12 ∷ lex EndBlock 12 14 ∷ lex Raw 14 15 ∷ lex BeginBlock 15 17 ∷ lex Whitespace 17 18 ∷ lex Keyword 18 22 ∷ lex Whitespace 22 23 ∷ lex Keyword 23 25 ∷ lex Whitespace 25 26 ∷ lex Ident 26 27 ∷ lex Whitespace 27 28 ∷ lex EndBlock 28 30 ∷ lex Raw 30 31 ∷ lex BeginBlock 31 33 ∷ lex Whitespace 33 34 ∷ lex Keyword 34 38 ∷ lex Whitespace 38 39 ∷ lex EndBlock 39 41 ∷ lex Raw 41 42 ∷ lex BeginBlock 42 44 ∷ lex Whitespace 44 45 ∷ lex Keyword 45 50 ∷ lex Whitespace 50 51 ∷ lex EndBlock 51 53 ∷ []) _ refl

-- `{% if a %}{% else %}{% if b %}{% endif %}{% endif %}`: an `if` inside the other branch has an `endif` of its own
if_inside_else : HasTree default_delimiters (codes "{% if a %}{% else %}{% if b %}{% endif %}{% endif %}") (one (if_else false (base (name (codes "a") 6 7)) no_statements (otherwise (one (if_else false (base (name (codes "b") 26 27)) no_statements no_else)))))
unfolding computing
if_inside_else = has_tree_tested _ _ (lex BeginBlock 0 2 ∷ lex Whitespace 2 3 ∷ lex Keyword 3 5 ∷ lex Whitespace 5 6 ∷ lex Ident 6 7 ∷ lex Whitespace 7 8 ∷ lex EndBlock 8 10 ∷ lex BeginBlock 10 12 ∷ lex Whitespace 12 13 ∷ lex Keyword 13 17 ∷ lex Whitespace 17 18 ∷ lex EndBlock 18 20 ∷ lex BeginBlock 20 22 ∷ lex Whitespace 22 23 ∷ lex Keyword 23 25 ∷ lex Whitespace 25 26 ∷ lex Ident 26 27 ∷ lex Whitespace 27 28 ∷ lex EndBlock 28 30 ∷ lex BeginBlock 30 32 ∷ lex Whitespace 32 33 ∷ lex Keyword 33 38 ∷ lex Whitespace 38 39 ∷ lex EndBlock 39 41 ∷ lex BeginBlock 41 43 ∷ lex Whitespace 43 44 ∷ lex Keyword 44 49 ∷ lex Whitespace 49 50 ∷ lex EndBlock 50 52 ∷ []) _ refl

-- `{% if a %}{% else if b %}{% endif %}`: the same tree but for its spans
else_if : HasTree default_delimiters (codes "{% if a %}{% else if b %}{% endif %}") (one (if_else false (base (name (codes "a") 6 7)) no_statements (otherwise (one (if_else false (base (name (codes "b") 21 22)) no_statements no_else)))))
unfolding computing
else_if = has_tree_tested _ _ (lex BeginBlock 0 2 ∷ lex Whitespace 2 3 ∷ lex Keyword 3 5 ∷ lex Whitespace 5 6 ∷ lex Ident 6 7 ∷ lex Whitespace 7 8 ∷ lex EndBlock 8 10 ∷ lex BeginBlock 10 12 ∷ lex Whitespace 12 13 ∷ lex Keyword 13 17 ∷ lex Whitespace 17 18 ∷ lex Keyword 18 20 ∷ lex Whitespace 20 21 ∷ lex Ident 21 22 ∷ lex Whitespace 22 23 ∷ lex EndBlock 23 25 ∷ lex BeginBlock 25 27 ∷ lex Whitespace 27 28 ∷ lex Keyword 28 33 ∷ lex Whitespace 33 34 ∷ lex EndBlock 34 36 ∷ []) _ refl

-- `{% for k, v in m %}{{ loop.index }}{% endfor %}`: the two names are from the first to the second
for_pairs : HasTree default_delimiters (codes "{% for k, v in m %}{{ loop.index }}{% endfor %}") (one (for_loop (key_value (word (codes "k") 7 8) (word (codes "v") 10 11) (at 7 11)) (base (name (codes "m") 15 16)) (one (shows (var (bare (codes "loop") 22 26) (step Direct (by_key (word (codes "index") 27 32)) 26 32 ∷ [])) 19 35)) no_else))
unfolding computing
for_pairs = has_tree_tested _ _ (lex BeginBlock 0 2 ∷ lex Whitespace 2 3 ∷ lex Keyword 3 6 ∷ lex Whitespace 6 7 ∷ lex Ident 7 8 ∷ lex Comma 8 9 ∷ lex Whitespace 9 10 ∷ lex Ident 10 11 ∷ lex Whitespace 11 12 ∷ lex Keyword 12 14 ∷ lex Whitespace 14 15 ∷ lex Ident 15 16 ∷ lex Whitespace 16 17 ∷ lex EndBlock 17 19 ∷ lex BeginExpr 19 21 ∷ lex Whitespace 21 22 ∷ lex Ident 22 26 ∷ lex Dot 26 27 ∷ lex Ident 27 32 ∷ lex Whitespace 32 33 ∷ lex EndExpr 33 35 ∷ lex BeginBlock 35 37 ∷ lex Whitespace 37 38 ∷ lex Keyword 38 44 ∷ lex Whitespace 44 45 ∷ lex EndBlock 45 47 ∷ []) _ refl

-- `{% for i in m %}a{% else %}b{% endfor %}`
for_else : HasTree default_delimiters (codes "{% for i in m %}a{% else %}b{% endfor %}") (one (for_loop (item (word (codes "i") 7 8)) (base (name (codes "m") 12 13)) (one (raw (at 16 17))) (otherwise (one (raw (at 27 28))))))
unfolding computing
for_else = has_tree_tested _ _ (lex BeginBlock 0 2 ∷ lex Whitespace 2 3 ∷ lex Keyword 3 6 ∷ lex Whitespace 6 7 ∷ lex Ident 7 8 ∷ lex Whitespace 8 9 ∷ lex Keyword 9 11 ∷ lex Whitespace 11 12 ∷ lex Ident 12 13 ∷ lex Whitespace 13 14 ∷ lex EndBlock 14 16 ∷ lex Raw 16 17 ∷ lex BeginBlock 17 19 ∷ lex Whitespace 19 20 ∷ lex Keyword 20 24 ∷ lex Whitespace 24 25 ∷ lex EndBlock 25 27 ∷ lex Raw 27 28 ∷ lex BeginBlock 28 30 ∷ lex Whitespace 30 31 ∷ lex Keyword 31 37 ∷ lex Whitespace 37 38 ∷ lex EndBlock 38 40 ∷ []) _ refl

-- `{% for i in [1, 2] %}{% endfor %}`
for_items : HasTree default_delimiters (codes "{% for i in [1, 2] %}{% endfor %}") (one (for_loop (item (word (codes "i") 7 8)) (base (list (two_bases (number (pos 1) 13 14) (number (pos 2) 16 17)) (at 12 18))) no_statements no_else))
unfolding computing
for_items = has_tree_tested _ _ (lex BeginBlock 0 2 ∷ lex Whitespace 2 3 ∷ lex Keyword 3 6 ∷ lex Whitespace 6 7 ∷ lex Ident 7 8 ∷ lex Whitespace 8 9 ∷ lex Keyword 9 11 ∷ lex Whitespace 11 12 ∷ lex OpenBracket 12 13 ∷ lex Number 13 14 ∷ lex Comma 14 15 ∷ lex Whitespace 15 16 ∷ lex Number 16 17 ∷ lex CloseBracket 17 18 ∷ lex Whitespace 18 19 ∷ lex EndBlock 19 21 ∷ lex BeginBlock 21 23 ∷ lex Whitespace 23 24 ∷ lex Keyword 24 30 ∷ lex Whitespace 30 31 ∷ lex EndBlock 31 33 ∷ []) _ refl

-- `{% with 1 as n %}{% endwith %}`
with_name : HasTree default_delimiters (codes "{% with 1 as n %}{% endwith %}") (one (with (base (number (pos 1) 8 9)) (word (codes "n") 13 14) no_statements))
unfolding computing
with_name = has_tree_tested _ _ (lex BeginBlock 0 2 ∷ lex Whitespace 2 3 ∷ lex Keyword 3 7 ∷ lex Whitespace 7 8 ∷ lex Number 8 9 ∷ lex Whitespace 9 10 ∷ lex Keyword 10 12 ∷ lex Whitespace 12 13 ∷ lex Ident 13 14 ∷ lex Whitespace 14 15 ∷ lex EndBlock 15 17 ∷ lex BeginBlock 17 19 ∷ lex Whitespace 19 20 ∷ lex Keyword 20 27 ∷ lex Whitespace 27 28 ∷ lex EndBlock 28 30 ∷ []) _ refl

-- `{% include "t" %}`
include_alone : HasTree default_delimiters (codes "{% include \"t\" %}") (one (include (word (codes "t") 11 14) None))
unfolding computing
include_alone = has_tree_tested _ _ (lex BeginBlock 0 2 ∷ lex Whitespace 2 3 ∷ lex Keyword 3 10 ∷ lex Whitespace 10 11 ∷ lex String 11 14 ∷ lex Whitespace 14 15 ∷ lex EndBlock 15 17 ∷ []) _ refl

-- `{% include "t" with v %}`
include_with : HasTree default_delimiters (codes "{% include \"t\" with v %}") (one (include (word (codes "t") 11 14) (Some (base (name (codes "v") 20 21)))))
unfolding computing
include_with = has_tree_tested _ _ (lex BeginBlock 0 2 ∷ lex Whitespace 2 3 ∷ lex Keyword 3 10 ∷ lex Whitespace 10 11 ∷ lex String 11 14 ∷ lex Whitespace 14 15 ∷ lex Keyword 15 19 ∷ lex Whitespace 19 20 ∷ lex Ident 20 21 ∷ lex Whitespace 21 22 ∷ lex EndBlock 22 24 ∷ []) _ refl
