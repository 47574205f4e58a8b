use Rattle.std.proofs.Common.{◌≡◌, ◌-◌, length, None}
use Rattle.upon_language_spec.specs.InTags.{last_or}
use Rattle.upon_lexer.specs.Lexers.{lexer_text, lexer_delimiters, lexer_state}
use Rattle.upon_lexer.specs.Literals.{before_of}
use Rattle.upon_tag_parser.specs.TagTokens.{lexemes_of, EachTagToken}
use Rattle.upon_syntax.specs.TagEnds.{SignLies, ReadsTokens}
use Rattle.upon_syntax.proofs.compile.parse.tag_tokens.read_tokens.Given as goal

abbrev pub invariant-tokens : goal.invariant-tokens
invariant-tokens l = record {
  text : lexer_text l.lexer ≡ lexer_text l.fn.lexer;
  delimiters : lexer_delimiters l.lexer ≡ lexer_delimiters l.fn.lexer;
  each : EachTagToken l.source None (lexemes_of l.tokens.items);
  last : last_or None (lexemes_of l.tokens.items) ≡ before_of l.before;
  sign : SignLies l.source (before_of l.before) (lexer_state l.lexer).offset;
  inner : ReadsTokens (lexer_delimiters l.fn.lexer) l.source (lexer_state l.fn.lexer) (lexer_state l.lexer) (lexemes_of l.tokens.items);
}

abbrev pub decreases-tokens : goal.decreases-tokens
decreases-tokens l = length (lexer_text l.lexer) - (lexer_state l.lexer).offset
