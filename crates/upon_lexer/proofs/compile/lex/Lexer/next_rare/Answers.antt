use Rattle.std.proofs.Common.{◌≡◌, ℕ, ◌++◌, ◌∷◌, [], List, true, Some, None, Ok, Err, sym, ap, ◌∙◌, subst}
use Rattle.upon_language_spec.specs.Cut.{Lexeme}
use Rattle.upon_language_spec.specs.Search.{DelimiterText}
use Rattle.upon_language_spec.specs.Tokens.{is_space}
use Rattle.upon_language_spec.specs.Lexing.{HasRead, Lexes, LexesAfterSpace}
use Rattle.upon_lexer.specs.Lexers.{lexer_text, lexer_delimiters, lexer_state, ReadSoFar}
use Rattle.upon_lexer.proofs.Spaces.{at_once, behind_space, further_still, between_still}
use Rattle.upon_lexer.proofs.compile.lex.Lexer.next_rare.Goals as goal
use Rattle.upon_lexer.proofs.compile.lex.Lexer.next_rare.Goals.{After-lex-then-is_space}

pub returns-in-Ok-None-clause-gives : goal.returns-in-Ok-None-clause-gives
returns-in-Ok-None-clause-gives c = record {
  token = λ ls r. at_once (lexer_delimiters c.args.self.now) (lexer_text c.args.self.now) (lexer_state c.args.self.now) ls (Ok None) (lexer_state c.lex.new.self) r (rw c.in-Ok-None.field-0-is at c.in-Ok-None.ensures.token ls r) tt;
  span = tt;
  spelled = tt;
  between = tt;
  further = tt;
  stops = tt;
  stopped = rw c.in-Ok-None.field-0-is at c.in-Ok-None.ensures.stopped;
}

pub returns-in-Err-clause-gives : goal.returns-in-Err-clause-gives
returns-in-Err-clause-gives c = record {
  token = λ ls r. at_once (lexer_delimiters c.args.self.now) (lexer_text c.args.self.now) (lexer_state c.args.self.now) ls (Err c.in-Err.e) (lexer_state c.lex.new.self) r (c.in-Err.ensures.token ls r) tt;
  span = tt;
  spelled = tt;
  between = tt;
  further = tt;
  stops = c.in-Err.ensures.stops;
  stopped = c.in-Err.ensures.stopped;
}

pub returns-else-is_space-clause-gives : goal.returns-else-is_space-clause-gives
returns-else-is_space-clause-gives c =
    let first = c.in-Ok-Some in
    record {
      token = λ ls r. at_once (lexer_delimiters c.args.self.now) (lexer_text c.args.self.now) (lexer_state c.args.self.now) ls (Ok (Some (first.token, first.span))) (lexer_state c.lex.new.self) r (rw first.field-0-is at first.ensures.token ls r) (sym c.is_space.ensures ∙ c.if-is_space.false);
      span = rw first.field-0-is at first.ensures.span;
      spelled = rw first.field-0-is at first.ensures.spelled;
      between = rw first.field-0-is at first.ensures.between;
      further = rw first.field-0-is at first.ensures.further;
      stops = tt;
      stopped = rw first.field-0-is at first.ensures.stopped;
    }

-- the second call begins behind the whitespace that the first gave
behind : (c : After-lex-then-is_space) (ls : List Lexeme) → ReadSoFar c.args.self.now ls → LexesAfterSpace (lexer_delimiters c.args.self.now) (lexer_text c.args.self.now) ls c.lex-then-is_space.result (lexer_state c.lex-then-is_space.new.self)
behind c ls r =
    let delimiters = lexer_delimiters c.args.self.now in
    let s = lexer_text c.args.self.now in
    let first = rw c.in-Ok-Some.field-0-is at c.in-Ok-Some.ensures.token ls r in
    let spaced : is_space first.0.token ≡ true = ap is_space first.1 ∙ sym c.is_space.ensures ∙ c.if-is_space.true in
    let between = lexer_state c.lex.new.self in
    let Pairs : List DelimiterText → Type 0 = λ x. HasRead x s between (ls ++ first.0 ∷ []) in
    let Text : List ℕ → Type 0 = λ x. HasRead (lexer_delimiters c.lex.new.self) x between (ls ++ first.0 ∷ []) in
    let PairsBack : List DelimiterText → Type 0 = λ x. Lexes x (lexer_text c.lex.new.self) between (ls ++ first.0 ∷ []) c.lex-then-is_space.result (lexer_state c.lex-then-is_space.new.self) in
    let TextBack : List ℕ → Type 0 = λ x. Lexes delimiters x between (ls ++ first.0 ∷ []) c.lex-then-is_space.result (lexer_state c.lex-then-is_space.new.self) in
    let second = c.lex-then-is_space.ensures.token (ls ++ first.0 ∷ []) (subst Text (sym c.lex.ensures.text) (subst Pairs (sym c.lex.ensures.delimiters) first.3)) in
    behind_space delimiters s between ls first.0 c.lex-then-is_space.result (lexer_state c.lex-then-is_space.new.self) spaced first.3 (subst TextBack c.lex.ensures.text (subst PairsBack c.lex.ensures.delimiters second))

pub returns-then-is_space-clause-gives : goal.returns-then-is_space-clause-gives
returns-then-is_space-clause-gives c =
    let from = (lexer_state c.args.self.now).offset in
    let between = (lexer_state c.lex.new.self).offset in
    let second = c.lex-then-is_space in
    let to = (lexer_state second.new.self).offset in
    let moved = rw c.in-Ok-Some.field-0-is at c.in-Ok-Some.ensures.further in
    record {
      token = behind c;
      span = rw c.lex.ensures.text at second.ensures.span;
      spelled = rw c.lex.ensures.text at second.ensures.spelled;
      between = between_still from between to second.result moved second.ensures.between;
      further = further_still from between to second.result moved second.ensures.further;
      stops = second.ensures.stops;
      stopped = λ over. let none = rw c.in-Ok-Some.field-0-is at c.in-Ok-Some.ensures.stopped over in let no = none.0 in absurd (cc);
    }
