use Rattle.std.proofs.Common.{ℕ, List, [], ◌∷◌, ◌++◌, refl, sym, subst}
use Rattle.upon_types.specs.Span.{LiesIn}
use Rattle.upon_language_spec.specs.Search.{DelimiterText}
use Rattle.upon_language_spec.specs.Lexing.{HasRead}
use Rattle.upon_lexer.specs.Lexers.{lexer_text, lexer_delimiters, lexer_state}
use Rattle.upon_lexer.specs.Literals.{lexeme_of}
use Rattle.upon_syntax.specs.TagEnds.{ReadsOnTokens}
use Rattle.upon_syntax.proofs.TagTokenSteps.{goes_on, plain_is_inside, plain_token, reads_spaces}
use Rattle.upon_syntax.proofs.compile.parse.tag_tokens.plain_token.Goals as goal

pub returns-in-Some-clause-found : goal.returns-in-Some-clause-found
returns-in-Some-clause-found c = λ before.
    let found = c.in-Some in
    let delimiters = lexer_delimiters c.args.lexer.now in
    let s = lexer_text c.args.lexer.now in
    let left = lexer_state c.args.lexer.now in
    let after = lexer_state c.next_plain.new.self in
    let lies = subst (λ x. LiesIn x found.span) (sym c.requires.same) found.ensures.span in
    record {
      token = plain_token c.args.source.now before found.token found.span found.ensures.plain lies;
      sign = λ _. (lies, found.ensures.before);
      further = found.ensures.further;
      inner = λ sort path ls read mode.
          let has_read = subst (λ x. HasRead delimiters x left ls) c.requires.same read in
          let on = goes_on delimiters s sort path ls left has_read mode after found.token found.span (found.ensures.token ls has_read) (plain_is_inside found.token found.ensures.plain) in
          subst (λ x. ReadsOnTokens delimiters x sort ls after (lexeme_of (record { token = found.token; span = found.span }) ∷ [])) (sym c.requires.same) on;
    }

pub returns-in-None-clause-blanks : goal.returns-in-None-clause-blanks
returns-in-None-clause-blanks c = λ sort path ls read mode.
    let delimiters = lexer_delimiters c.args.lexer.now in
    let s = lexer_text c.args.lexer.now in
    let left = lexer_state c.args.lexer.now in
    let next = c.next_plain.new.self in
    let after = lexer_state next in
    let has_read = subst (λ x. HasRead delimiters x left ls) c.requires.same read in
    let passed = c.in-None.ensures.blanks refl ls has_read in
    let Read : List DelimiterText → List ℕ → Type 0 = λ d x. HasRead d x after (ls ++ passed.0) in
    let more = subst (λ d. Read d s) c.in-None.ensures.delimiters (subst (λ x. Read (lexer_delimiters next) x) c.in-None.ensures.text passed.2) in
    subst (λ x. ReadsOnTokens delimiters x sort ls after []) (sym c.requires.same) (reads_spaces delimiters s sort path ls left has_read mode after passed.0 passed.1 more)
