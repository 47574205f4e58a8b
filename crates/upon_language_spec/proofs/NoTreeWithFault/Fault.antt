-- A text with a fault, whichever, has no tree.
use Rattle.std.proofs.Common.{ℕ, List}
use Rattle.upon_types.specs.declared.types.Span.{Span}
use Rattle.upon_types.specs.Tree.{Statements}
use Rattle.upon_language_spec.specs.Search.{DelimiterText, HasTexts}
use Rattle.upon_language_spec.specs.Grammar.{HasTree}
use Rattle.upon_language_spec.specs.FirstFault.{SyntaxFault, unexpected_end, unclosed_tag, unclosed_bracket, unexpected_close, unexpected_character, undelimited_string, unexpected_token, unexpected_eof, empty_comment, comment_eof, wrong_number, wrong_index, wrong_escape, unexpected_block, unclosed_block, Holds, IsFirstFault}
use Rattle.upon_language_spec.proofs.NoTreeWithFault.FineExpression.{passes_expression}
use Rattle.upon_language_spec.proofs.NoTreeWithFault.Cut.{no_tree_unexpected_end, no_tree_unclosed_tag, no_tree_unexpected_character, no_tree_undelimited_string, no_tree_unexpected_eof, no_tree_comment_eof}
use Rattle.upon_language_spec.proofs.NoTreeWithFault.Tag.{no_tree_unexpected_token, no_tree_unclosed_bracket, no_tree_unexpected_close}
use Rattle.upon_language_spec.proofs.NoTreeWithFault.Literal.{no_tree_wrong_number, no_tree_wrong_index, no_tree_wrong_escape, no_tree_empty_comment}
use Rattle.upon_language_spec.proofs.NoTreeWithFault.Unclosed.{no_tree_unclosed_block}
use Rattle.upon_language_spec.proofs.NoTreeWithFault.Unexpected.{no_tree_unexpected_block}

pub no_tree_with_row : (delimiters : List DelimiterText) (s : List ℕ) (texts : HasTexts delimiters) (row : SyntaxFault) (p : ℕ) (place : Span) (reason : List ℕ) → Holds delimiters s row p place reason → (tree : Statements) → HasTree delimiters s tree → ⊥
no_tree_with_row delimiters s texts unexpected_end p place reason f tree has = no_tree_unexpected_end delimiters s texts p place reason f tree has
no_tree_with_row delimiters s texts unclosed_tag p place reason f tree has = no_tree_unclosed_tag delimiters s texts p place reason f tree has
no_tree_with_row delimiters s texts unclosed_bracket p place reason f tree has = no_tree_unclosed_bracket delimiters s texts p place reason tree has f
no_tree_with_row delimiters s texts unexpected_close p place reason f tree has = no_tree_unexpected_close delimiters s texts p place reason tree has f
no_tree_with_row delimiters s texts unexpected_character p place reason f tree has = no_tree_unexpected_character delimiters s texts p place reason f tree has
no_tree_with_row delimiters s texts undelimited_string p place reason f tree has = no_tree_undelimited_string delimiters s texts p place reason f tree has
no_tree_with_row delimiters s texts unexpected_token p place reason f tree has = no_tree_unexpected_token delimiters s texts p place reason tree has f
no_tree_with_row delimiters s texts unexpected_eof p place reason f tree has = no_tree_unexpected_eof delimiters s texts p place reason f tree has
no_tree_with_row delimiters s texts empty_comment p place reason f tree has = no_tree_empty_comment delimiters s texts p place reason tree has f
no_tree_with_row delimiters s texts comment_eof p place reason f tree has = no_tree_comment_eof delimiters s texts p place reason f tree has
no_tree_with_row delimiters s texts wrong_number p place reason f tree has = no_tree_wrong_number delimiters s texts p place reason tree has f
no_tree_with_row delimiters s texts wrong_index p place reason f tree has = no_tree_wrong_index delimiters s texts p place reason tree has f
no_tree_with_row delimiters s texts wrong_escape p place reason f tree has = no_tree_wrong_escape delimiters s texts p place reason tree has f
no_tree_with_row delimiters s texts unexpected_block p place reason f tree has = no_tree_unexpected_block delimiters s texts (passes_expression s) p place reason f tree has
no_tree_with_row delimiters s texts unclosed_block p place reason f tree has = no_tree_unclosed_block delimiters s texts (passes_expression s) p place reason f tree has

pub no_tree_with_fault : (delimiters : List DelimiterText) (s : List ℕ) (place : Span) (reason : List ℕ) (tree : Statements) → HasTexts delimiters → IsFirstFault delimiters s place reason → HasTree delimiters s tree → ⊥
no_tree_with_fault delimiters s place reason tree texts f has = no_tree_with_row delimiters s texts f.fault f.point place reason f.holds tree has
