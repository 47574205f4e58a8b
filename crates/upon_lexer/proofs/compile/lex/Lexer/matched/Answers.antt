use Rattle.std.proofs.Common.{◌≡◌, ℕ, false, sym, subst}
use Rattle.upon_types.specs.declared.types.token.Token.{Token}
use Rattle.upon_language_spec.specs.Inside.{IsInside}
use Rattle.upon_language_spec.specs.Faults.{span_of, closes_first}
use Rattle.upon_lexer.specs.Brackets.{close_token}
use Rattle.upon_lexer.specs.Reasons.{reason_of}
use Rattle.upon_lexer.specs.declared.compile.fault.SyntaxFault.TheVariants.{UnexpectedClose}
use Rattle.upon_language_spec.specs.LexStep.{IsWrong}
use Rattle.upon_lexer.specs.Lexers.{lexer_text, lexer_delimiters, lexer_state}
use Rattle.upon_language_spec.proofs.Offsets.LexFaults.{wrong_close}
use Rattle.upon_lexer.proofs.OpenBrackets.{is_closing}
use Rattle.upon_lexer.proofs.compile.lex.Lexer.matched.Goals as goal

pub returns-then-not-closes_innermost-clause-wrong : goal.returns-then-not-closes_innermost-clause-wrong
returns-then-not-closes_innermost-clause-wrong c =
    let delimiters = lexer_delimiters c.args.self.now in
    let s = lexer_text c.args.self.now in
    let left = lexer_state c.args.self.now in
    let shape = c.in-Closes.shape in
    let mode = c.requires.mode in
    let At : ℕ → Type 0 = λ p. IsInside delimiters s mode.1 c.args.token p c.args.span.n in
    let As : Token → Type 0 = λ t. IsInside delimiters s mode.1 t left.offset c.args.span.n in
    let From : ℕ → Type 0 = λ p. IsWrong delimiters s left (span_of p c.args.span.n) (reason_of (UnexpectedClose shape)) in
    let fails = c.if-not-closes_innermost.ensures in
    let unmatched : closes_first left.brackets (close_token shape) ≡ false = sym (rw c.deref.ensures.value at fails) in
    subst From (sym c.requires.start)
    (wrong_close delimiters s left mode.0 mode.1 (close_token shape) c.args.span.n mode.2 (subst As c.in-Closes.ensures (subst At c.requires.start mode.3)) (is_closing shape) unmatched)
