use Rattle.std.proofs.Common.{Some, Ok}
use Rattle.upon_lexer.specs.Lexers.{lexer_text, lexer_delimiters, lexer_state}
use Rattle.upon_lexer.proofs.Passing.{passed_gives, passed_between, passed_further}
use Rattle.upon_lexer.proofs.Spaces.{at_once}
use Rattle.upon_lexer.proofs.compile.lex.Lexer.next.Goals as goal

pub returns-in-Some-clause-token : goal.returns-in-Some-clause-token
returns-in-Some-clause-token c = λ ls r.
    let before = c.args.self.now in
    let given = c.in-Some.given in
    let after = lexer_state c.pass_right.new.self in
    let p = c.in-Some.ensures.passed in
    let gives = passed_gives (lexer_delimiters before) (lexer_text before) (lexer_state before) before.searcher.now.syntax.has_texts p.found p.next given.0 p.of_token given.1 p.of_span ls after r p.state in
    at_once (lexer_delimiters before) (lexer_text before) (lexer_state before) ls (Ok (Some given)) after r gives p.counts

pub returns-in-Some-clause-between : goal.returns-in-Some-clause-between
returns-in-Some-clause-between c =
    let before = c.args.self.now in
    let given = c.in-Some.given in
    let p = c.in-Some.ensures.passed in
    passed_between (lexer_delimiters before) (lexer_text before) (lexer_state before) before.searcher.now.syntax.has_texts p.found p.next given.0 p.of_token given.1 p.of_span (lexer_state c.pass_right.new.self) p.state

pub returns-in-Some-clause-further : goal.returns-in-Some-clause-further
returns-in-Some-clause-further c =
    let before = c.args.self.now in
    let given = c.in-Some.given in
    let p = c.in-Some.ensures.passed in
    passed_further (lexer_delimiters before) (lexer_text before) (lexer_state before) before.searcher.now.syntax.has_texts p.found p.next given.0 p.of_token given.1 p.of_span (lexer_state c.pass_right.new.self) p.state
