-- Texts under other delimiters, and the trees that they have.
use Rattle.std.proofs.Common.{ℕ, pos, List, [], ◌∷◌, refl, codes}
use Rattle.upon_language_spec.proofs.Computation.Computing.{computing}
use Rattle.upon_types.specs.declared.types.Delimiter.TheVariants as delimiter
use Rattle.upon_types.specs.declared.types.token.Token.TheVariants.{Raw, BeginExpr, EndExpr, Whitespace, Ident, Number}
use Rattle.upon_types.specs.Tree.{raw}
use Rattle.upon_language_spec.specs.Search.{DelimiterText}
use Rattle.upon_language_spec.specs.Grammar.{HasTree}
use Rattle.upon_language_spec.proofs.Computation.HasTreeTests.{has_tree_tested}
use Rattle.upon_language_spec.specs.ShortTrees.{at, name, two}
use Rattle.upon_language_spec.proofs.Examples.ShortTrees.{lex, trimming, number, three, shows, only}

-- the delimiters of expressions alone, in the order of a syntax: begin, end, and both with a hyphen
abbrev braces : List ℕ → List ℕ → List ℕ → List ℕ → List DelimiterText
braces begin end begin_trimming end_trimming = record { kind = delimiter.BeginExpr; text = begin } ∷ record { kind = delimiter.EndExpr; text = end } ∷ record { kind = delimiter.BeginExprTrim; text = begin_trimming } ∷ record { kind = delimiter.EndExprTrim; text = end_trimming } ∷ []

-- a begin that is a beginning of the end: the longest is the best
abbrev angles : List DelimiterText
angles = braces (codes "<") (codes "<<") (codes "<-") (codes "-<<")

-- `< a <<`
longest_is_best : HasTree angles (codes "< a <<") (only (name (codes "a") 2 3) 6)
unfolding computing
longest_is_best = has_tree_tested _ _ (lex BeginExpr 0 1 ∷ lex Whitespace 1 2 ∷ lex Ident 2 3 ∷ lex Whitespace 3 4 ∷ lex EndExpr 4 6 ∷ []) _ refl

-- ` <- a -<< `
angles_with_hyphens : HasTree angles (codes " <- a -<< ") (three (raw (at 0 0)) (shows (name (codes "a") 4 5) 1 9) (raw (at 10 10)))
unfolding computing
angles_with_hyphens = has_tree_tested _ _ (lex Raw 0 1 ∷ trimming BeginExpr 1 3 ∷ lex Whitespace 3 4 ∷ lex Ident 4 5 ∷ lex Whitespace 5 6 ∷ trimming EndExpr 6 9 ∷ lex Raw 9 10 ∷ []) _ refl

-- an end that is also the begin with a hyphen: the one listed first is the best
abbrev hyphens : List DelimiterText
hyphens = braces (codes "-") (codes "--") (codes "--") (codes "---")

-- `- 1 --`
first_is_best : HasTree hyphens (codes "- 1 --") (only (number (pos 1) 2 3) 6)
unfolding computing
first_is_best = has_tree_tested _ _ (lex BeginExpr 0 1 ∷ lex Whitespace 1 2 ∷ lex Number 2 3 ∷ lex Whitespace 3 4 ∷ lex EndExpr 4 6 ∷ []) _ refl

-- a begin that begins with a blank
abbrev blanks : List DelimiterText
blanks = braces (codes " <") (codes ">") (codes " <-") (codes "->")

-- `a  < 1 >`: the raw part ends at the blank of the begin
blank_in_begin : HasTree blanks (codes "a  < 1 >") (two (raw (at 0 2)) (shows (number (pos 1) 5 6) 2 8))
unfolding computing
blank_in_begin = has_tree_tested _ _ (lex Raw 0 2 ∷ lex BeginExpr 2 4 ∷ lex Whitespace 4 5 ∷ lex Number 5 6 ∷ lex Whitespace 6 7 ∷ lex EndExpr 7 8 ∷ []) _ refl

-- `a  <- 1 >`
blank_in_begin_with_hyphen : HasTree blanks (codes "a  <- 1 >") (two (raw (at 0 1)) (shows (number (pos 1) 6 7) 2 9))
unfolding computing
blank_in_begin_with_hyphen = has_tree_tested _ _ (lex Raw 0 2 ∷ trimming BeginExpr 2 5 ∷ lex Whitespace 5 6 ∷ lex Number 6 7 ∷ lex Whitespace 7 8 ∷ lex EndExpr 8 9 ∷ []) _ refl
