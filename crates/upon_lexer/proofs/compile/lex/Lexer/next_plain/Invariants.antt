use Rattle.std.proofs.Common.{◌≡◌, ◌-◌, ◌≤◌, List, length}
use Rattle.upon_language_spec.specs.Cut.{Lexeme}
use Rattle.upon_lexer.specs.Lexers.{lexer_text, lexer_delimiters, ReadSoFar, HasPassedSpaces}
use Rattle.upon_lexer.proofs.compile.lex.Lexer.next_plain.Given as goal

abbrev pub invariant-blanks : goal.invariant-blanks
invariant-blanks l = record {
  text : lexer_text l.self ≡ lexer_text l.fn.self;
  delimiters : lexer_delimiters l.self ≡ lexer_delimiters l.fn.self;
  onward : l.fn.self.offset ≤ l.self.offset;
  spaces : (ls : List Lexeme) → ReadSoFar l.fn.self ls → HasPassedSpaces l.self ls;
}

abbrev pub decreases-blanks : goal.decreases-blanks
decreases-blanks l = length (lexer_text l.self) - l.self.offset
