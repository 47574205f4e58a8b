use Rattle.std.proofs.Common.{List, [], ◌∷◌, ℕ, sym, subst}
use Rattle.upon_types.specs.Span.{LiesIn}
use Rattle.upon_language_spec.specs.Lexing.{HasRead}
use Rattle.upon_lexer.specs.Lexers.{lexer_text, lexer_delimiters, lexer_state}
use Rattle.upon_lexer.specs.Spelling.{IsSpelled}
use Rattle.upon_lexer.specs.Literals.{before_of, lexeme_of}
use Rattle.upon_syntax.specs.TagEnds.{ReadsOnTokens}
use Rattle.upon_syntax.proofs.LiteralSpans.{index_digits}
use Rattle.upon_syntax.proofs.TagTokenSteps.{ends_wrong, ends_eof, stops, goes_on}
use Rattle.upon_syntax.proofs.compile.parse.tag_tokens.read_token.Goals as goal

pub returns-in-Err-clause-ends : goal.returns-in-Err-clause-ends
returns-in-Err-clause-ends c =
    let s = lexer_text c.args.lexer.now in
    record {
      inner = λ sort path ls read mode.
          let g = c.in-Err.ensures.token ls read in
          rw c.requires.same (ends_wrong (lexer_delimiters c.args.lexer.now) s sort path ls (lexer_state c.args.lexer.now) read mode (lexer_state c.next.new.self) (before_of c.args.before) c.in-Err.e g);
      lies = tt;
    }

pub returns-in-Ok-None-clause-ends : goal.returns-in-Ok-None-clause-ends
returns-in-Ok-None-clause-ends c =
    let s = lexer_text c.args.lexer.now in
    record {
      inner = λ sort path ls read mode.
          let g = rw c.in-Ok-None.field-0-is at c.in-Ok-None.ensures.token ls read in
          rw c.requires.same (ends_eof (lexer_delimiters c.args.lexer.now) s sort path ls (lexer_state c.args.lexer.now) read mode (lexer_state c.next.new.self) (before_of c.args.before) g);
      lies = tt;
    }

pub returns-in-None-clause-found : goal.returns-in-None-clause-found
returns-in-None-clause-found c =
    let delimiters = lexer_delimiters c.args.lexer.now in
    let s = c.args.source.now in
    let left = lexer_state c.args.lexer.now in
    let after = lexer_state c.next.new.self in
    let token = c.in-Ok-Some.token in
    let span = c.in-Ok-Some.span in
    let F : List ℕ → Type 0 = λ x. IsSpelled x token span in
    let G : List ℕ → Type 0 = λ x. LiesIn x span in
    let spelled = subst F (sym c.requires.same) (rw c.in-Ok-Some.field-0-is at c.in-Ok-Some.ensures.spelled) in
    let lies = subst G (sym c.requires.same) (rw c.in-Ok-Some.field-0-is at c.in-Ok-Some.ensures.span) in
    let between = rw c.in-Ok-Some.field-0-is at c.in-Ok-Some.ensures.between in
    record {
      token = record {
        inside = c.in-None.ensures.token.0;
        lies = lies;
        quoted = spelled.quoted;
        digits = λ e. index_digits s span.m span.n (spelled.digits e);
        fine = c.in-None.ensures.token.1;
      };
      sign = λ e. (lies, (between e).1);
      further = rw c.in-Ok-Some.field-0-is at c.in-Ok-Some.ensures.further;
      inner = λ sort path ls read mode.
          let has_read = subst (λ x. HasRead delimiters x left ls) c.requires.same read in
          let g = rw c.in-Ok-Some.field-0-is at c.in-Ok-Some.ensures.token ls has_read in
          let on = goes_on delimiters (lexer_text c.args.lexer.now) sort path ls left has_read mode after token span g c.in-None.ensures.token.0 in
          subst (λ x. ReadsOnTokens delimiters x sort ls after (lexeme_of (record { token = token; span = span }) ∷ [])) (sym c.requires.same) on;
    }

pub returns-in-Some-clause-ends : goal.returns-in-Some-clause-ends
returns-in-Some-clause-ends c =
    let s = lexer_text c.args.lexer.now in
    let stop = rw c.requires.same at c.in-Some.ensures.token in
    record {
      inner = λ sort path ls read mode.
          let g = rw c.in-Ok-Some.field-0-is at c.in-Ok-Some.ensures.token ls read in
          rw c.requires.same (stops (lexer_delimiters c.args.lexer.now) s sort path ls (lexer_state c.args.lexer.now) read mode (lexer_state c.next.new.self) c.in-Ok-Some.token c.in-Ok-Some.span g (before_of c.args.before) c.in-Some.ended stop);
      lies = c.in-Some.ensures.lies;
    }
