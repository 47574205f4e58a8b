use Rattle.std.proofs.Common.{◌≡◌, false, refl, sym, ap, inl, subst}
use Rattle.upon_types.specs.declared.types.token.Token.TheVariants.{Raw}
use Rattle.upon_language_spec.specs.Cut.{Lexeme, Mode, in_comment, IsToken, mode_after}
use Rattle.upon_language_spec.specs.Lexing.{IsGiven}
use Rattle.upon_language_spec.specs.LexStep.{state_after}
use Rattle.upon_language_spec.specs.Tokens.{is_space}
use Rattle.upon_lexer.specs.Lexers.{lexer_text, lexer_delimiters, lexer_state}
use Rattle.upon_lexer.proofs.Passing.{same_state}
use Rattle.upon_lexer.proofs.compile.lex.Lexer.pass_comment.Goals as goal

pub returns-clause-passed : goal.returns-clause-passed
returns-clause-passed c =
    let delimiters = lexer_delimiters c.args.self.now in
    let s = lexer_text c.args.self.now in
    let left = lexer_state c.args.self.now in
    let raw = c.raw-raw.result in
    let mode : left.mode ≡ in_comment = c.requires.inside in
    let found : Lexeme = record { token = Raw; hyphen = false; span = raw.span } in
    let In : Mode → Type 0 = λ m. IsToken delimiters s m Raw false left.offset raw.span.n in
    let Given : Mode → Type 0 = λ m. IsGiven delimiters s m left.trims Raw raw.span raw.span in
    let Same : Mode → Type 0 = λ m. m ≡ mode_after m Raw in
    record {
      found = found;
      of_token = sym c.raw-raw.ensures.token;
      next = record { from = c.raw-raw.ensures.start; step = subst In (sym mode) (inl (refl, refl, c.raw-raw.ensures.raw)); fits = tt };
      of_span = subst Given (sym mode) refl;
      state = same_state _ (state_after left found) refl (subst Same (sym mode) refl) refl refl refl c.requires.not_over;
      counts = ap is_space c.raw-raw.ensures.token;
      not_over = c.requires.not_over;
    }
