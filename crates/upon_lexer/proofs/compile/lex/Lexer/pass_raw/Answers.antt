use Rattle.std.proofs.Common.{◌≡◌, false, refl, sym, ap, inl, subst}
use Rattle.upon_types.specs.declared.types.token.Token.TheVariants.{Raw}
use Rattle.upon_language_spec.specs.Faults.{span_of}
use Rattle.upon_language_spec.specs.Cut.{Mode, outside, IsToken, mode_after}
use Rattle.upon_language_spec.specs.Lexing.{IsGiven}
use Rattle.upon_lexer.specs.OpenTags.{mode_of}
use Rattle.upon_lexer.specs.Lexers.{lexer_text, lexer_delimiters, lexer_state}
use Rattle.upon_language_spec.specs.LexStep.{state_after}
use Rattle.upon_lexer.proofs.Passing.{same_state}
use Rattle.upon_lexer.proofs.compile.lex.Lexer.pass_raw.Goals as goal

pub returns-clause-passed : goal.returns-clause-passed
returns-clause-passed c =
    let delimiters = lexer_delimiters c.args.self.now in
    let s = lexer_text c.args.self.now in
    let left = lexer_state c.args.self.now in
    let end = c.raw_end-end.result.0 in
    let mode : left.mode ≡ outside = ap mode_of c.requires.outside in
    let In : Mode → Type 0 = λ m. IsToken delimiters s m Raw false left.offset end in
    let Given : Mode → Type 0 = λ m. IsGiven delimiters s m left.trims Raw (span_of left.offset end) c.shown-given.result in
    let Same : Mode → Type 0 = λ m. m ≡ mode_after m Raw in
    record {
      found = record { token = Raw; hyphen = false; span = span_of left.offset end };
      of_token = refl;
      next = record { from = refl; step = subst In (sym mode) (inl (refl, refl, c.raw_end-end.ensures.raw)); fits = tt };
      of_span = subst Given (sym mode) (c.begin_trims.result, c.begin_trims.ensures delimiters s end c.raw_end-end.ensures.next, c.shown-given.ensures.shown);
      state = same_state _ (state_after left (record { token = Raw; hyphen = false; span = span_of left.offset end })) refl (subst Same (sym mode) refl) refl refl refl c.requires.not_over;
      counts = refl;
      not_over = c.requires.not_over;
    }
