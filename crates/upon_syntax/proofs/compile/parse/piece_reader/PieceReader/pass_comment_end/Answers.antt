use Rattle.std.proofs.Common.{List, false, None, Some, Ok, Err, refl, codes}
use Rattle.upon_types.specs.declared.error.Error.{Error}
use Rattle.upon_language_spec.specs.Cut.{Lexeme, in_comment}
use Rattle.upon_lexer.specs.Lexers.{lexer_text, lexer_state}
use Rattle.upon_syntax.specs.PieceReading.{text_of_reader, pieces_delimiters, pieces_state, AfterCommentRaw}
use Rattle.upon_syntax.specs.TagReading.{IsSyntaxError}
use Rattle.upon_syntax.proofs.NextTokens.{handed_on, next_in, cut_error, said_at_end}
use Rattle.upon_syntax.proofs.Comments.{comment_end, eof_fault}
use Rattle.upon_syntax.proofs.compile.parse.piece_reader.PieceReader.pass_comment_end.Goals as goal

pub returns-in_err-end-clause-fault : goal.returns-in_err-end-clause-fault
returns-in_err-end-clause-fault c =
    let delimiters = pieces_delimiters c.args.self.now in
    let s = text_of_reader c.args.self.now in
    let left = pieces_state c.args.self.now in
    let fault : (ls : List Lexeme) → AfterCommentRaw delimiters s left ls → IsSyntaxError delimiters s c.in_err-end.field-0.0 = λ ls b.
    cut_error delimiters s left c.in_err-end.field-0.0 b.read_to.clear (next_in delimiters s left (lexer_state c.next.new.self) in_comment ls (Err c.in_err-end.field-0.0) tt b.read_to (c.in_err-end.ensures.token ls b.read_to.read)) in
    let P : Error → Type 0 = λ e. (ls : List Lexeme) → AfterCommentRaw delimiters s left ls → IsSyntaxError delimiters s e in
    handed_on P c.in_err-end.field-0.0 c.from_residual.result c.from_residual.ensures.1 fault

pub returns-in-None-clause-fault : goal.returns-in-None-clause-fault
returns-in-None-clause-fault c = λ ls b.
    let delimiters = pieces_delimiters c.args.self.now in
    let s = text_of_reader c.args.self.now in
    let left = pieces_state c.args.self.now in
    let gives = next_in delimiters s left (lexer_state c.next.new.self) in_comment ls (Ok None) tt b.read_to (rw c.in-None.is at c.in_ok-end.ensures.token ls b.read_to.read) in
    let first = eof_fault delimiters s c.args.self.now.lexer.searcher.now.syntax.has_texts left ls false (codes "expected end comment, found EOF") b.read_to b.no_begin gives.0 refl in
    said_at_end delimiters s (lexer_text c.next.new.self) c.end.result (codes "expected end comment, found EOF") c.refusal.result c.in_ok-end.ensures.text c.end.ensures.end first c.refusal.ensures

pub returns-in-Some-clause-passes : goal.returns-in-Some-clause-passes
returns-in-Some-clause-passes c = λ ls b.
    let delimiters = pieces_delimiters c.args.self.now in
    let s = text_of_reader c.args.self.now in
    let left = pieces_state c.args.self.now in
    let gives = next_in delimiters s left (lexer_state c.next.new.self) in_comment ls (Ok (Some c.in-Some.field-0)) tt b.read_to (rw c.in-Some.is at c.in_ok-end.ensures.token ls b.read_to.read) in
    comment_end delimiters s c.args.self.now.lexer.searcher.now.syntax.has_texts left (lexer_state c.next.new.self) ls gives.0 gives.3 b
