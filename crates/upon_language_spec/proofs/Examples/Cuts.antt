-- Texts and how they are cut.
use Rattle.std.proofs.Common.{ℕ, [], ◌∷◌, false, refl, codes}
use Rattle.upon_language_spec.proofs.Computation.Computing.{computing}
use Rattle.upon_types.specs.declared.types.token.Token.TheVariants.{Raw, BeginExpr, EndExpr, Whitespace, Ident}
use Rattle.upon_types.specs.declared.types.token.Token.{Token}
use Rattle.upon_language_spec.specs.DefaultDelimiters.{default_delimiters}
use Rattle.upon_language_spec.specs.Cut.{Lexeme, outside, Cut}
use Rattle.upon_language_spec.proofs.Computation.WholeCut.{cut_tested}

abbrev lex : Token → ℕ → ℕ → Lexeme
lex t m n = record { token = t; hyphen = false; span = record { m = m; n = n } }

-- `{{ a }}}`
name_and_brace : Cut default_delimiters (codes "{{ a }}}") outside 0 (lex BeginExpr 0 2 ∷ lex Whitespace 2 3 ∷ lex Ident 3 4 ∷ lex Whitespace 4 5 ∷ lex EndExpr 5 7 ∷ lex Raw 7 8 ∷ []) outside 8
unfolding computing
name_and_brace = cut_tested default_delimiters (codes "{{ a }}}") outside 0 (lex BeginExpr 0 2 ∷ lex Whitespace 2 3 ∷ lex Ident 3 4 ∷ lex Whitespace 4 5 ∷ lex EndExpr 5 7 ∷ lex Raw 7 8 ∷ []) refl
