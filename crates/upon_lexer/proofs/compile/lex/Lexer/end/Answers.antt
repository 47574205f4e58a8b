use Rattle.std.proofs.Common.{ℕ, subst}
use Rattle.upon_language_spec.specs.Search.{IsBestDelimiter}
use Rattle.upon_lexer.specs.Roles.{sort_of}
use Rattle.upon_lexer.specs.Brackets.{bracket_lexeme}
use Rattle.upon_lexer.specs.Lexers.{lexer_text, lexer_delimiters, lexer_state}
use Rattle.upon_lexer.proofs.OpenBrackets.{innermost_first}
use Rattle.upon_language_spec.proofs.Offsets.LexFaults.{wrong_bracket}
use Rattle.upon_lexer.proofs.compile.lex.Lexer.end.Goals as goal

pub returns-in-Some-clause-wrong_span : goal.returns-in-Some-clause-wrong_span
returns-in-Some-clause-wrong_span c = c.args.self.now.bracket_spans c.in-Some.bracket (rw c.deref.ensures.value at c.in-Some.ensures.listed)

pub returns-in-Some-clause-wrong : goal.returns-in-Some-clause-wrong
returns-in-Some-clause-wrong c =
    let delimiters = lexer_delimiters c.args.self.now in
    let s = lexer_text c.args.self.now in
    let left = lexer_state c.args.self.now in
    let At : ℕ → Type 0 = λ p. IsBestDelimiter delimiters s c.args.kind p c.args.span.n in
    let brackets = innermost_first left.brackets (bracket_lexeme c.in-Some.bracket) (rw c.deref.ensures.value at c.in-Some.ensures.value) in
    wrong_bracket delimiters s left c.args.kind (sort_of c.args.sort) c.args.span.n (bracket_lexeme c.in-Some.bracket) brackets.0 (subst At c.requires.start c.requires.occurs) c.requires.sort c.requires.awaited brackets.1
