use Rattle.std.proofs.Common.{ℕ, List, [], ◌∷◌, ◌++◌, false, Some, Ok, append_assoc, refl, sym, ◌∙◌, subst, arith}
use Rattle.upon_language_spec.specs.Cut.{Lexeme}
use Rattle.upon_language_spec.specs.Faults.{lexeme_at, span_of}
use Rattle.upon_language_spec.specs.Lexing.{HasRead, Lexes}
use Rattle.upon_language_spec.specs.Search.{DelimiterText}
use Rattle.upon_lexer.specs.Lexers.{lexer_text, lexer_delimiters, lexer_state}
use Rattle.upon_lexer.proofs.Passing.{frequent_given, passed_gives, passed_read, spaces_more}
use Rattle.upon_lexer.proofs.compile.lex.Lexer.next_plain.Goals as goal

pub returns-then-not-is_space-clause-token : goal.returns-then-not-is_space-clause-token
returns-then-not-is_space-clause-token c = λ ls r.
    let inv = c.blanks.invariant in
    let start = c.blanks.self in
    let left = lexer_state start in
    let token = c.in_ok-token.token in
    let span = span_of start.offset c.in_ok-token.end in
    let after = lexer_state c.pass_plain.new.self in
    let passed = inv.spaces ls r in
    let given = frequent_given (lexer_delimiters start) (lexer_text start) left token span c.in_ok-token.ensures.kind in
    let found = lexeme_at token false start.offset c.in_ok-token.end in
    let gives = passed_gives (lexer_delimiters start) (lexer_text start) left start.searcher.now.syntax.has_texts found c.in_ok-token.ensures.token token refl span given (ls ++ passed.0) after passed.2 (c.pass_plain.ensures.state passed.2.not_over) in
    let Gives : List DelimiterText → List ℕ → Type 0 = λ d s. Lexes d s left (ls ++ passed.0) (Ok (Some (token, span))) after in
    let Read : List DelimiterText → List ℕ → Type 0 = λ d s. HasRead d s left (ls ++ passed.0) in
    let s = lexer_text c.args.self.now in
    record {
      spaces = passed.0;
      each = passed.1;
      start = left;
      gives = subst (λ d. Gives d s) inv.delimiters (subst (λ x. Gives (lexer_delimiters start) x) inv.text gives);
      has_read = subst (λ d. Read d s) inv.delimiters (subst (λ x. Read (lexer_delimiters start) x) inv.text passed.2);
      counts = sym c.if-not-is_space.ensures;
    }

pub blanks-preserved : goal.blanks-preserved
blanks-preserved c = record {
  text = c.pass_plain.ensures.text ∙ c.blanks.invariant.text;
  delimiters = c.pass_plain.ensures.delimiters ∙ c.blanks.invariant.delimiters;
  onward = omega (arith, c.blanks.invariant.onward, c.in_ok-token.ensures.further, c.pass_plain.ensures.offset);
  spaces = λ ls r.
      let start = c.blanks.self in
      let left = lexer_state start in
      let token = c.in_ok-token.token in
      let span = span_of start.offset c.in_ok-token.end in
      let next = c.pass_plain.new.self in
      let passed = c.blanks.invariant.spaces ls r in
      let found = lexeme_at token false start.offset c.in_ok-token.end in
      let given = frequent_given (lexer_delimiters start) (lexer_text start) left token span c.in_ok-token.ensures.kind in
      let whole = passed_read (lexer_delimiters start) (lexer_text start) left start.searcher.now.syntax.has_texts found c.in_ok-token.ensures.token token refl span given (ls ++ passed.0) (lexer_state next) passed.2 (c.pass_plain.ensures.state passed.2.not_over) in
      let Read : List DelimiterText → List ℕ → List Lexeme → Type 0 = λ d s x. HasRead d s (lexer_state next) x in
      let read = subst (λ d. Read d (lexer_text next) ((ls ++ passed.0) ++ found ∷ [])) (sym c.pass_plain.ensures.delimiters) (subst (λ x. Read (lexer_delimiters start) x ((ls ++ passed.0) ++ found ∷ [])) (sym c.pass_plain.ensures.text) whole) in
      (passed.0 ++ found ∷ [], spaces_more passed.0 found passed.1 (sym c.if-not-is_space.ensures), subst (Read (lexer_delimiters next) (lexer_text next)) (append_assoc ls passed.0 (found ∷ [])) read);
}
