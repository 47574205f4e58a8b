use Rattle.std.proofs.Common.{ℕ, sym, ap, subst}
use Rattle.upon_language_spec.specs.Search.{IsBestDelimiter}
use Rattle.upon_language_spec.specs.Faults.{span_of}
use Rattle.upon_lexer.specs.Roles.{sort_of}
use Rattle.upon_lexer.specs.Reasons.{reason_of}
use Rattle.upon_lexer.specs.declared.compile.fault.SyntaxFault.TheVariants.{UnexpectedEnd}
use Rattle.upon_lexer.specs.OpenTags.{begin_of}
use Rattle.upon_language_spec.specs.LexStep.{IsWrong}
use Rattle.upon_lexer.specs.Lexers.{lexer_text, lexer_delimiters, lexer_state}
use Rattle.upon_lexer.proofs.OpenModes.{awaited_of}
use Rattle.upon_language_spec.proofs.Offsets.LexFaults.{wrong_begin, wrong_end}
use Rattle.upon_lexer.proofs.compile.lex.Lexer.delimiter.Goals as goal

pub returns-in-Some-clause-wrong_span : goal.returns-in-Some-clause-wrong_span
returns-in-Some-clause-wrong_span c = c.args.self.now.tag_span c.in-Some.tag c.in-Some.is

pub returns-in-Some-clause-wrong : goal.returns-in-Some-clause-wrong
returns-in-Some-clause-wrong c =
    let delimiters = lexer_delimiters c.args.self.now in
    let s = lexer_text c.args.self.now in
    let left = lexer_state c.args.self.now in
    let At : ℕ → Type 0 = λ p. IsBestDelimiter delimiters s c.args.kind p c.args.span.n in
    wrong_begin delimiters s left c.args.kind (sort_of c.in-Some.tag.sort) (sort_of c.in-Begin.sort) c.args.span.n c.in-Some.tag.begin (subst At c.requires.start c.requires.occurs) c.in-Begin.ensures (awaited_of c.args.self.now.tag c.in-Some.tag c.in-Some.is) (ap begin_of c.in-Some.is)

pub returns-else-awaits-clause-wrong : goal.returns-else-awaits-clause-wrong
returns-else-awaits-clause-wrong c =
    let delimiters = lexer_delimiters c.args.self.now in
    let s = lexer_text c.args.self.now in
    let left = lexer_state c.args.self.now in
    let At : ℕ → Type 0 = λ p. IsBestDelimiter delimiters s c.args.kind p c.args.span.n in
    let From : ℕ → Type 0 = λ p. IsWrong delimiters s left (span_of p c.args.span.n) (reason_of (UnexpectedEnd c.in-End.sort)) in
    subst From (sym c.requires.start)
    (wrong_end delimiters s left c.args.kind (sort_of c.in-End.sort) c.args.span.n (subst At c.requires.start c.requires.occurs) c.in-End.ensures (λ h. let is = c.awaits.ensures.1 h in let fails = c.if-awaits.false in cc))
