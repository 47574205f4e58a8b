use Rattle.std.proofs.Common.{◌<◌, List, Some, None, Ok, inl, refl, sym, subst}
use Rattle.upon_language_spec.specs.Lexing.{IsCutError}
use Rattle.upon_language_spec.specs.Lexing as language
use Rattle.upon_language_spec.specs.Cut.{Lexeme}
use Rattle.upon_lexer.specs.Lexers.{lexer_text, lexer_delimiters, lexer_state, next_lexeme, ReadSoFar}
use Rattle.upon_lexer.specs.Spelling.{IsSpelled, LiesBetween}
use Rattle.upon_lexer.specs.Reasons.{reason_of}
use Rattle.upon_lexer.specs.declared.compile.lex.Lexer.{Lexer}
use Rattle.upon_language_spec.proofs.Offsets.Clear.{none_at_end}
use Rattle.upon_language_spec.proofs.OneFirstFault.CutFault.{first_cut}
use Rattle.upon_lexer.proofs.Passing.{passed_gives, passed_spelled, passed_between, passed_further}
use Rattle.upon_lexer.proofs.compile.lex.Lexer.lex.Goals as goal

pub returns-in-Some-clause-token : goal.returns-in-Some-clause-token
returns-in-Some-clause-token c = λ ls r.
    let before = c.args.self.now in
    let given = c.in-Some.given in
    let p = c.in-Some.ensures.passed in
    passed_gives (lexer_delimiters before) (lexer_text before) (lexer_state before) before.searcher.now.syntax.has_texts p.found p.next given.0 p.of_token given.1 p.of_span ls (lexer_state c.pass_frequent.new.self) r p.state

pub returns-in-Some-clause-spelled : goal.returns-in-Some-clause-spelled
returns-in-Some-clause-spelled c =
    let before = c.args.self.now in
    let given = c.in-Some.given in
    let p = c.in-Some.ensures.passed in
    passed_spelled (lexer_delimiters before) (lexer_text before) (lexer_state before) before.searcher.now.syntax.has_texts p.found p.next given.0 p.of_token given.1 p.of_span

pub returns-in-Some-clause-between : goal.returns-in-Some-clause-between
returns-in-Some-clause-between c =
    let before = c.args.self.now in
    let given = c.in-Some.given in
    let p = c.in-Some.ensures.passed in
    passed_between (lexer_delimiters before) (lexer_text before) (lexer_state before) before.searcher.now.syntax.has_texts p.found p.next given.0 p.of_token given.1 p.of_span (lexer_state c.pass_frequent.new.self) p.state

pub returns-in-Some-clause-further : goal.returns-in-Some-clause-further
returns-in-Some-clause-further c =
    let before = c.args.self.now in
    let given = c.in-Some.given in
    let p = c.in-Some.ensures.passed in
    passed_further (lexer_delimiters before) (lexer_text before) (lexer_state before) before.searcher.now.syntax.has_texts p.found p.next given.0 p.of_token given.1 p.of_span (lexer_state c.pass_frequent.new.self) p.state

-- where nothing frequent was passed, the lexer is as it was

pub returns-in-Ok-clause-token : goal.returns-in-Ok-clause-token
returns-in-Ok-clause-token c =
    let left = c.pass_frequent.new.self in
    let found = c.in-Ok-Some.found in
    let after = lexer_state c.pass.new.self in
    let next = rw c.in-Ok-Some.field-0-is at c.in-Ok-Some.ensures.token in
    let whole = rw c.in-Ok-Some.field-0-is at c.in-Ok-Some.ensures.given in
    let Lexes : Lexer → Type 0 = λ x. (ls : List Lexeme) → ReadSoFar x ls → language.Lexes (lexer_delimiters x) (lexer_text x) (lexer_state x) ls (Ok (Some (found.token, found.span))) after in
    let lexes : Lexes left = λ ls r.
    passed_gives (lexer_delimiters left) (lexer_text left) (lexer_state left) left.searcher.now.syntax.has_texts (next_lexeme found) next found.token refl found.span whole ls after r c.in-Ok.ensures.start
    in
    subst Lexes (c.in_default.ensures.stays refl) lexes

pub returns-in-Ok-clause-spelled : goal.returns-in-Ok-clause-spelled
returns-in-Ok-clause-spelled c =
    let left = c.pass_frequent.new.self in
    let found = c.in-Ok-Some.found in
    let next = rw c.in-Ok-Some.field-0-is at c.in-Ok-Some.ensures.token in
    let whole = rw c.in-Ok-Some.field-0-is at c.in-Ok-Some.ensures.given in
    let Spelled : Lexer → Type 0 = λ x. IsSpelled (lexer_text x) found.token found.span in
    let spelled : Spelled left = passed_spelled (lexer_delimiters left) (lexer_text left) (lexer_state left) left.searcher.now.syntax.has_texts (next_lexeme found) next found.token refl found.span whole in
    subst Spelled (c.in_default.ensures.stays refl) spelled

pub returns-in-Ok-clause-between : goal.returns-in-Ok-clause-between
returns-in-Ok-clause-between c =
    let left = c.pass_frequent.new.self in
    let found = c.in-Ok-Some.found in
    let after = lexer_state c.pass.new.self in
    let next = rw c.in-Ok-Some.field-0-is at c.in-Ok-Some.ensures.token in
    let whole = rw c.in-Ok-Some.field-0-is at c.in-Ok-Some.ensures.given in
    let Between : Lexer → Type 0 = λ x. LiesBetween x.offset after.offset found.token found.span in
    let between : Between left = passed_between (lexer_delimiters left) (lexer_text left) (lexer_state left) left.searcher.now.syntax.has_texts (next_lexeme found) next found.token refl found.span whole after c.in-Ok.ensures.start in
    subst Between (c.in_default.ensures.stays refl) between

pub returns-in-Ok-clause-further : goal.returns-in-Ok-clause-further
returns-in-Ok-clause-further c =
    let left = c.pass_frequent.new.self in
    let found = c.in-Ok-Some.found in
    let after = lexer_state c.pass.new.self in
    let next = rw c.in-Ok-Some.field-0-is at c.in-Ok-Some.ensures.token in
    let whole = rw c.in-Ok-Some.field-0-is at c.in-Ok-Some.ensures.given in
    let Further : Lexer → Type 0 = λ x. x.offset < after.offset in
    let further : Further left = passed_further (lexer_delimiters left) (lexer_text left) (lexer_state left) left.searcher.now.syntax.has_texts (next_lexeme found) next found.token refl found.span whole after c.in-Ok.ensures.start in
    subst Further (c.in_default.ensures.stays refl) further

pub returns-in-Ok-None-clause-token : goal.returns-in-Ok-None-clause-token
returns-in-Ok-None-clause-token c =
    let left = c.pass_frequent.new.self in
    let at_end = rw c.in-Ok-None.field-0-is at c.in-Ok-None.ensures.token in
    let Ends : Lexer → Type 0 = λ x. (ls : List Lexeme) → ReadSoFar x ls → language.Lexes (lexer_delimiters x) (lexer_text x) (lexer_state x) ls (Ok None) (lexer_state x) in
    let ends : Ends left = λ ls r. (at_end, none_at_end (lexer_delimiters left) (lexer_text left) left.searcher.now.syntax.has_texts (lexer_state left) ls r at_end, r) in
    let same = c.in_default.ensures.stays refl in
    let After : Lexer → Type 0 = λ x. (ls : List Lexeme) → ReadSoFar c.args.self.now ls → language.Lexes (lexer_delimiters c.args.self.now) (lexer_text c.args.self.now) (lexer_state c.args.self.now) ls (Ok None) (lexer_state x) in
    subst After (sym same) (subst Ends same ends)

pub returns-in-Err-clause-token : goal.returns-in-Err-clause-token
returns-in-Err-clause-token c =
    let left = c.pass_frequent.new.self in
    let wrong = c.in-Err.wrong in
    let Wrong : Lexer → Type 0 = λ x. (ls : List Lexeme) → ReadSoFar x ls → IsCutError (lexer_delimiters x) (lexer_text x) (lexer_state x) c.refuse.result in
    let is_wrong : Wrong left = λ ls r.
    let fault = c.in-Err.ensures.wrong ls r in
    let first = first_cut (lexer_delimiters left) (lexer_text left) left.searcher.now.syntax.has_texts (lexer_state left) ls r fault.0 wrong.span (reason_of wrong.fault) fault.1 fault.2 in
    inl (wrong.span, (reason_of wrong.fault), first, c.refuse.ensures.words)
    in
    subst Wrong (c.in_default.ensures.stays refl) is_wrong
