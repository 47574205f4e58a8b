use Rattle.std.proofs.Common.{List, ◌≤◌, length}
use Rattle.upon_language_spec.specs.Cut.{Lexeme}
use Rattle.upon_tag_parser.specs.TagParsing.{ReadsPart}
use Rattle.upon_tag_parser.specs.TagTokens.{lexemes_of, IsRest}
use Rattle.upon_tree.specs.AstExpression.{expression_tree}
use Rattle.upon_tree.proofs.expression.TreeReader.after_part.Given as goal

abbrev pub invariant-filters : goal.invariant-filters
invariant-filters l = record {
  read : (start : List Lexeme) → ReadsPart l.self.parser.source.now (expression_tree l.fn.first) start (lexemes_of l.tokens) → ReadsPart l.self.parser.source.now (expression_tree l.part) start (lexemes_of l.left);
  rest : IsRest l.left l.tokens;
  shorter : length l.left ≤ length l.tokens;
}

abbrev pub decreases-filters : goal.decreases-filters
decreases-filters l = length l.left
