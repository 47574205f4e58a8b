-- Whether a text has a given tree, as a test that computes.
use Rattle.std.proofs.Common.{◌≡◌, ℕ, ◌&&◌, List, [], ◌∷◌, Bool, true, false, Some, None, refl}
use Rattle.upon_types.specs.Tree.{Statements}
use Rattle.upon_language_spec.specs.Search.{DelimiterText}
use Rattle.upon_language_spec.specs.Cut.{Lexeme, outside}
use Rattle.upon_language_spec.specs.Shown.{shown_lexemes}
use Rattle.upon_language_spec.specs.Tokens.{significant}
use Rattle.upon_language_spec.specs.Grammar.{HasTree}
use Rattle.upon_language_spec.proofs.Computation.Tests.{left_true, right_true}
use Rattle.upon_language_spec.proofs.Computation.WholeCut.{cut_test, cut_tested}
use Rattle.upon_language_spec.proofs.Computation.ReadTokens.{Left}
use Rattle.upon_language_spec.proofs.Computation.ReadStatements.{read_statements, statements_read}

-- whether a reading leaves no token
abbrev pub leaves_none : Left → Bool
leaves_none None = false
leaves_none (Some []) = true
leaves_none (Some (l ∷ ls)) = false

none_left : (left : Left) → leaves_none left ≡ true → left ≡ Some []
none_left None h = absurd cc
none_left (Some []) h = refl
none_left (Some (l ∷ ls)) h = absurd cc

-- whether the tokens, trimmed and without whitespace and comments, read as the tree
abbrev pub reads_test : List ℕ → List Lexeme → Statements → Bool
reads_test s lexemes tree = leaves_none (read_statements s tree (significant (shown_lexemes s false lexemes)))

abbrev pub tree_test : List DelimiterText → List ℕ → List Lexeme → Statements → Bool
tree_test delimiters s lexemes tree = cut_test delimiters s outside 0 lexemes && reads_test s lexemes tree

pub has_tree_tested : (delimiters : List DelimiterText) (s : List ℕ) (lexemes : List Lexeme) (tree : Statements) → tree_test delimiters s lexemes tree ≡ true → HasTree delimiters s tree
has_tree_tested delimiters s lexemes tree h = record {
  lexemes = lexemes;
  cut = cut_tested delimiters s outside 0 lexemes (left_true _ _ h);
  reads = statements_read s tree (significant (shown_lexemes s false lexemes)) [] (none_left _ (right_true _ _ h));
}
