-- Texts with comments, and the trees that they have: a comment leaves nothing.
use Rattle.std.proofs.Common.{[], ◌∷◌, refl, codes}
use Rattle.upon_language_spec.proofs.Computation.Computing.{computing}
use Rattle.upon_types.specs.declared.types.token.Token.TheVariants.{Raw, BeginComment, EndComment}
use Rattle.upon_types.specs.Tree.{raw, no_statements}
use Rattle.upon_language_spec.specs.DefaultDelimiters.{default_delimiters}
use Rattle.upon_language_spec.specs.Grammar.{HasTree}
use Rattle.upon_language_spec.proofs.Computation.HasTreeTests.{has_tree_tested}
use Rattle.upon_language_spec.specs.ShortTrees.{at, two}
use Rattle.upon_language_spec.proofs.Examples.ShortTrees.{lex, trimming}

-- `{# a #}`
comment_alone : HasTree default_delimiters (codes "{# a #}") no_statements
unfolding computing
comment_alone = has_tree_tested _ _ (lex BeginComment 0 2 ∷ lex Raw 2 5 ∷ lex EndComment 5 7 ∷ []) _ refl

-- `x{# a #}y`: two raw parts
comment_between : HasTree default_delimiters (codes "x{# a #}y") (two (raw (at 0 1)) (raw (at 8 9)))
unfolding computing
comment_between = has_tree_tested _ _ (lex Raw 0 1 ∷ lex BeginComment 1 3 ∷ lex Raw 3 6 ∷ lex EndComment 6 8 ∷ lex Raw 8 9 ∷ []) _ refl

-- `a {#- b -#} c`: its hyphens trim both
comment_with_hyphens : HasTree default_delimiters (codes "a {#- b -#} c") (two (raw (at 0 1)) (raw (at 12 13)))
unfolding computing
comment_with_hyphens = has_tree_tested _ _ (lex Raw 0 2 ∷ trimming BeginComment 2 5 ∷ lex Raw 5 8 ∷ trimming EndComment 8 11 ∷ lex Raw 11 13 ∷ []) _ refl

-- `{# #}`
comment_of_a_blank : HasTree default_delimiters (codes "{# #}") no_statements
unfolding computing
comment_of_a_blank = has_tree_tested _ _ (lex BeginComment 0 2 ∷ lex Raw 2 3 ∷ lex EndComment 3 5 ∷ []) _ refl
