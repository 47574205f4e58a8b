use Rattle.std.proofs.Common.{ℕ, List, [], length, None, Some, Ok, Err, sym, ap, ◌∙◌, subst}
use Rattle.std.proofs.lemmas.List.{append-nil}
use Rattle.upon_language_spec.specs.Search.{DelimiterText}
use Rattle.upon_language_spec.specs.Cut.{outside}
use Rattle.upon_lexer.specs.Lexers.{lexer_text, lexer_delimiters, lexer_state}
use Rattle.upon_syntax.specs.PieceReading.{text_of_reader, pieces_delimiters, pieces_state, pieces_blocks, pieces_tokens, BetweenPieces, TokenGiven, ReadsOnPieces, PieceRead, GoesFurther}
use Rattle.upon_syntax.specs.Pieces.{TemplatePiece}
use Rattle.upon_syntax.specs.TagReading.{IsSyntaxError}
use Rattle.upon_syntax.proofs.NextTokens.{over, back, handed_on, next_in, cut_error}
use Rattle.upon_syntax.proofs.PieceSteps.{token_given, at_end, so_far_on, found_on, all_found}
use Rattle.upon_syntax.proofs.compile.parse.piece_reader.PieceReader.next.Goals as goal

pub returns-in_err-given-clause-fault : goal.returns-in_err-given-clause-fault
returns-in_err-given-clause-fault c =
    let self = c.args.self.now in
    let delimiters = pieces_delimiters self in
    let s = text_of_reader self in
    let so_far = c.requires.so_far.1 in
    let read_to = so_far.between.read_to in
    let fault = cut_error delimiters s (pieces_state self) c.in_err-given.field-0.0 read_to.clear (next_in delimiters s (pieces_state self) (lexer_state c.next.new.self) outside so_far.lexemes (Err c.in_err-given.field-0.0) tt read_to (c.in_err-given.ensures.token so_far.lexemes read_to.read)) in
    handed_on (IsSyntaxError delimiters s) c.in_err-given.field-0.0 c.from_residual.result c.from_residual.ensures.1 fault

pub all_closed-requires-clause-between : goal.all_closed-requires-clause-between
all_closed-requires-clause-between c =
    let self = c.args.self.now in
    let delimiters = pieces_delimiters self in
    let s = text_of_reader self in
    let so_far = c.requires.so_far.1 in
    let read_to = so_far.between.read_to in
    let after = lexer_state c.next.new.self in
    let gives = next_in delimiters s (pieces_state self) after outside so_far.lexemes (Ok None) tt read_to (rw c.in-None.is at c.in_ok-given.ensures.token so_far.lexemes read_to.read) in
    let end = at_end delimiters s self.lexer.searcher.now.syntax.has_texts (pieces_state self) after (pieces_blocks self) so_far.lexemes so_far.between gives in
    let F : List DelimiterText → List ℕ → Type 0 = λ x y. BetweenPieces x y after (pieces_blocks self) so_far.lexemes in
    (so_far.lexemes, over F delimiters (lexer_delimiters c.next.new.self) s (lexer_text c.next.new.self) c.in_ok-given.ensures.delimiters c.in_ok-given.ensures.text end.0)

pub all_closed-requires-clause-eof : goal.all_closed-requires-clause-eof
all_closed-requires-clause-eof c =
    let self = c.args.self.now in
    let delimiters = pieces_delimiters self in
    let s = text_of_reader self in
    let so_far = c.requires.so_far.1 in
    let read_to = so_far.between.read_to in
    let after = lexer_state c.next.new.self in
    let gives = next_in delimiters s (pieces_state self) after outside so_far.lexemes (Ok None) tt read_to (rw c.in-None.is at c.in_ok-given.ensures.token so_far.lexemes read_to.read) in
    let end = at_end delimiters s self.lexer.searcher.now.syntax.has_texts (pieces_state self) after (pieces_blocks self) so_far.lexemes so_far.between gives in
    end.1 ∙ ap (λ (x : List ℕ). length x) (sym c.in_ok-given.ensures.text)

pub read_piece-requires : goal.read_piece-requires
read_piece-requires c =
    let self = c.args.self.now in
    let delimiters = pieces_delimiters self in
    let s = text_of_reader self in
    let so_far = c.requires.so_far.1 in
    let read_to = so_far.between.read_to in
    let after = lexer_state c.next.new.self in
    let gives = next_in delimiters s (pieces_state self) after outside so_far.lexemes (Ok (Some (c.in-Some.token, c.in-Some.span))) tt read_to (rw c.in-Some.is at c.in_ok-given.ensures.token so_far.lexemes read_to.read) in
    let given = token_given delimiters s self.lexer.searcher.now.syntax.has_texts (pieces_state self) after (pieces_blocks self) so_far.lexemes c.in-Some.token c.in-Some.span so_far.between gives in
    let F : List DelimiterText → List ℕ → Type 0 = λ x y. TokenGiven x y (pieces_state self) after (pieces_blocks self) so_far.lexemes c.in-Some.token c.in-Some.span in
    record { given = (pieces_state self, so_far.lexemes, over F delimiters (lexer_delimiters c.next.new.self) s (lexer_text c.next.new.self) c.in_ok-given.ensures.delimiters c.in_ok-given.ensures.text given) }

pub returns-in_ok-all_closed-in-None-clause-found : goal.returns-in_ok-all_closed-in-None-clause-found
returns-in_ok-all_closed-in-None-clause-found c = λ found so_far.
    let self = c.args.self.now in
    let delimiters = pieces_delimiters self in
    let s = text_of_reader self in
    let read_to = so_far.between.read_to in
    let after = lexer_state c.next.new.self in
    let gives = next_in delimiters s (pieces_state self) after outside so_far.lexemes (Ok None) tt read_to (rw c.in-None.is at c.in_ok-given.ensures.token so_far.lexemes read_to.read) in
    all_found delimiters s self.lexer.searcher.now.syntax.has_texts (pieces_state self) (pieces_blocks self) found so_far gives.0 c.in_ok-all_closed-in-None.ensures.closed

pub returns-in-Some-2-clause-found : goal.returns-in-Some-2-clause-found
returns-in-Some-2-clause-found c = λ found so_far.
    let self = c.args.self.now in
    let delimiters = pieces_delimiters self in
    let s = text_of_reader self in
    let texts = self.lexer.searcher.now.syntax.has_texts in
    let before = pieces_state self in
    let stack = pieces_blocks self in
    let read_to = so_far.between.read_to in
    let mid = lexer_state c.next.new.self in
    let gives = next_in delimiters s before mid outside so_far.lexemes (Ok (Some (c.in-Some.token, c.in-Some.span))) tt read_to (rw c.in-Some.is at c.in_ok-given.ensures.token so_far.lexemes read_to.read) in
    let given = token_given delimiters s texts before mid stack so_far.lexemes c.in-Some.token c.in-Some.span so_far.between gives in
    let F : List DelimiterText → List ℕ → Type 0 = λ x y. TokenGiven x y before mid stack so_far.lexemes c.in-Some.token c.in-Some.span in
    let there = over F delimiters (lexer_delimiters c.next.new.self) s (lexer_text c.next.new.self) c.in_ok-given.ensures.delimiters c.in_ok-given.ensures.text given in
    let after = pieces_state c.read_piece.new.self in
    let next = pieces_blocks c.read_piece.new.self in
    let old = c.args.code.now.items in
    let new = c.read_piece.new.code.items in
    let kept = c.in-Some-2.piece in
    let tokens = pieces_tokens c.read_piece.new.self in
    let G : List DelimiterText → List ℕ → Type 0 = λ x y. PieceRead x y before after stack next so_far.lexemes tokens old new kept in
    let on = rw c.in-Some-2.is at c.in_ok-piece-in-Some.ensures.piece before so_far.lexemes there in
    found_on delimiters s texts before after stack next found tokens old new kept so_far (back G delimiters (lexer_delimiters c.next.new.self) s (lexer_text c.next.new.self) c.in_ok-given.ensures.delimiters c.in_ok-given.ensures.text on)

pub returns-in-None-2-clause-found : goal.returns-in-None-2-clause-found
returns-in-None-2-clause-found c = λ found so_far.
    let self = c.args.self.now in
    let delimiters = pieces_delimiters self in
    let s = text_of_reader self in
    let texts = self.lexer.searcher.now.syntax.has_texts in
    let before = pieces_state self in
    let stack = pieces_blocks self in
    let read_to = so_far.between.read_to in
    let mid = lexer_state c.next.new.self in
    let gives = next_in delimiters s before mid outside so_far.lexemes (Ok (Some (c.in-Some.token, c.in-Some.span))) tt read_to (rw c.in-Some.is at c.in_ok-given.ensures.token so_far.lexemes read_to.read) in
    let given = token_given delimiters s texts before mid stack so_far.lexemes c.in-Some.token c.in-Some.span so_far.between gives in
    let F : List DelimiterText → List ℕ → Type 0 = λ x y. TokenGiven x y before mid stack so_far.lexemes c.in-Some.token c.in-Some.span in
    let there = over F delimiters (lexer_delimiters c.next.new.self) s (lexer_text c.next.new.self) c.in_ok-given.ensures.delimiters c.in_ok-given.ensures.text given in
    let after = pieces_state c.read_piece.new.self in
    let next = pieces_blocks c.read_piece.new.self in
    let none : List TemplatePiece = [] in
    let G : List DelimiterText → List ℕ → Type 0 = λ x y. ReadsOnPieces x y before after stack next so_far.lexemes none in
    let H : List TemplatePiece → Type 0 = λ x. GoesFurther delimiters s before after next x in
    let on = rw c.in-None-2.is at c.in_ok-piece-in-Some.ensures.piece before so_far.lexemes there in
    (subst H (append-nil found) (so_far_on delimiters s texts before after stack next found none so_far (back G delimiters (lexer_delimiters c.next.new.self) s (lexer_text c.next.new.self) c.in_ok-given.ensures.delimiters c.in_ok-given.ensures.text on.0)), on.1)
