use Rattle.std.proofs.Common.{◌≡◌, ℕ, List, [], ◌∷◌, ◌++◌, true, None, Some, Ok, Err, refl, sym, ◌∙◌, codes}
use Rattle.upon_types.specs.declared.types.token.Token.TheVariants.{Raw, EndComment}
use Rattle.upon_types.specs.declared.error.Error.{Error}
use Rattle.upon_language_spec.specs.Search.{DelimiterText}
use Rattle.upon_language_spec.specs.Cut.{Lexeme, in_comment}
use Rattle.upon_lexer.specs.Lexers.{lexer_text, lexer_delimiters, lexer_state}
use Rattle.upon_syntax.specs.PieceReading.{text_of_reader, pieces_delimiters, pieces_state, AfterCommentBegin, AfterCommentRaw, PassesEnd, PassesComment}
use Rattle.upon_syntax.specs.TagReading.{IsSyntaxError}
use Rattle.upon_syntax.proofs.NextTokens.{ok_on, err_on, over, back, handed_on, next_in, cut_error, said_at, said_at_end}
use Rattle.upon_syntax.proofs.Comments.{comment_raw, empty_fault, eof_fault}
use Rattle.upon_syntax.proofs.compile.parse.piece_reader.PieceReader.pass_comment.Goals.{in-EndComment, in_default}
use Rattle.upon_syntax.proofs.compile.parse.piece_reader.PieceReader.pass_comment.Goals as goal

pub returns-in_err-inside-clause-fault : goal.returns-in_err-inside-clause-fault
returns-in_err-inside-clause-fault c =
    let delimiters = pieces_delimiters c.args.self.now in
    let s = text_of_reader c.args.self.now in
    let left = pieces_state c.args.self.now in
    let fault : (ls : List Lexeme) → AfterCommentBegin delimiters s left ls → IsSyntaxError delimiters s c.in_err-inside.field-0.0 = λ ls b.
    cut_error delimiters s left c.in_err-inside.field-0.0 b.read_to.clear (next_in delimiters s left (lexer_state c.next.new.self) in_comment ls (Err c.in_err-inside.field-0.0) tt b.read_to (c.in_err-inside.ensures.token ls b.read_to.read)) in
    let P : Error → Type 0 = λ e. (ls : List Lexeme) → AfterCommentBegin delimiters s left ls → IsSyntaxError delimiters s e in
    handed_on P c.in_err-inside.field-0.0 c.from_residual.result c.from_residual.ensures.1 fault

pub returns-in-None-clause-fault : goal.returns-in-None-clause-fault
returns-in-None-clause-fault c = λ ls b.
    let delimiters = pieces_delimiters c.args.self.now in
    let s = text_of_reader c.args.self.now in
    let left = pieces_state c.args.self.now in
    let gives = next_in delimiters s left (lexer_state c.next.new.self) in_comment ls (Ok None) tt b.read_to (rw c.in-None.is at c.in_ok-inside.ensures.token ls b.read_to.read) in
    let first = eof_fault delimiters s c.args.self.now.lexer.searcher.now.syntax.has_texts left ls true (codes "expected raw template, found EOF") b.read_to b.begin gives.0 refl in
    said_at_end delimiters s (lexer_text c.next.new.self) c.end.result (codes "expected raw template, found EOF") c.refusal.result c.in_ok-inside.ensures.text c.end.ensures.end first c.refusal.ensures

pub returns-then-matches-clause-fault : goal.returns-then-matches-clause-fault
returns-then-matches-clause-fault c = λ ls b.
    let delimiters = pieces_delimiters c.args.self.now in
    let s = text_of_reader c.args.self.now in
    let left = pieces_state c.args.self.now in
    let gives = next_in delimiters s left (lexer_state c.next.new.self) in_comment ls (Ok (Some (c.in-Some.token, c.in-Some.span))) tt b.read_to (rw c.in-Some.is at c.in_ok-inside.ensures.token ls b.read_to.read) in
    let ended : c.in-Some.token ≡ EndComment = elim c.match-matches.branch [
      | in-EndComment w ↦ w.in-EndComment.is
      | in_default w ↦ absurd (let f = w.matches-is in let g = c.if-matches.true in cc)
    ] in
    let first = empty_fault delimiters s c.args.self.now.lexer.searcher.now.syntax.has_texts left (lexer_state c.next.new.self) ls gives.0 gives.3 b (gives.1 ∙ ended) c.in-Some.span gives.2 in
    said_at delimiters s (lexer_text c.next.new.self) c.in-Some.span c.in-Some.span (codes "expected raw template, found end comment") c.refusal-then-matches.result c.in_ok-inside.ensures.text refl first c.refusal-then-matches.ensures

-- the raw part that was given
given_raw : (c : goal.After-pass_comment_end) (ls : List Lexeme) → AfterCommentBegin (pieces_delimiters c.args.self.now) (text_of_reader c.args.self.now) (pieces_state c.args.self.now) ls
    → (l : Lexeme) × (l.token ≡ Raw) × AfterCommentRaw (pieces_delimiters c.args.self.now) (text_of_reader c.args.self.now) (lexer_state c.next.new.self) (ls ++ l ∷ [])
given_raw c ls b =
    let delimiters = pieces_delimiters c.args.self.now in
    let s = text_of_reader c.args.self.now in
    let left = pieces_state c.args.self.now in
    let gives = next_in delimiters s left (lexer_state c.next.new.self) in_comment ls (Ok (Some (c.in-Some.token, c.in-Some.span))) tt b.read_to (rw c.in-Some.is at c.in_ok-inside.ensures.token ls b.read_to.read) in
    let other : c.in-Some.token ≡ EndComment → ⊥ = λ e. elim c.match-matches.branch [
      | in-EndComment w ↦ let f = w.matches-is in let g = c.if-matches.false in cc
      | in_default w ↦ w.in_default.not-EndComment e
    ] in
    let raw = comment_raw delimiters s c.args.self.now.lexer.searcher.now.syntax.has_texts left (lexer_state c.next.new.self) ls gives.0 gives.3 b (λ e. other (sym gives.1 ∙ e)) in
    (gives.0, raw.0, raw.1)

pub returns-else-matches-clause-passes : goal.returns-else-matches-clause-passes
returns-else-matches-clause-passes c =
    let delimiters = pieces_delimiters c.args.self.now in
    let s = text_of_reader c.args.self.now in
    let delimiters' = lexer_delimiters c.next.new.self in
    let s' = lexer_text c.next.new.self in
    let mid = lexer_state c.next.new.self in
    let after = pieces_state c.pass_comment_end.new.self in
    let P : Unit {0} → Type 0 = λ u. (ls : List Lexeme) → AfterCommentRaw delimiters' s' mid ls → PassesEnd delimiters' s' after ls in
    let Q : Unit {0} → Type 0 = λ u. (ls : List Lexeme) → AfterCommentBegin delimiters s (pieces_state c.args.self.now) ls → PassesComment delimiters s after ls in
    ok_on P Q c.pass_comment_end.result (λ u passes ls b.
    let raw = given_raw c ls b in
    let more = ls ++ raw.0 ∷ [] in
    let F : List DelimiterText → List ℕ → Type 0 = λ x y. AfterCommentRaw x y mid more in
    let G : List DelimiterText → List ℕ → Type 0 = λ x y. PassesEnd x y after more in
    let there = over F delimiters delimiters' s s' c.in_ok-inside.ensures.delimiters c.in_ok-inside.ensures.text raw.2 in
    record { raw = raw.0; is_raw = raw.1; end = back G delimiters delimiters' s s' c.in_ok-inside.ensures.delimiters c.in_ok-inside.ensures.text (passes more there) }) c.pass_comment_end.ensures.passes

pub returns-else-matches-clause-fault : goal.returns-else-matches-clause-fault
returns-else-matches-clause-fault c =
    let delimiters = pieces_delimiters c.args.self.now in
    let s = text_of_reader c.args.self.now in
    let delimiters' = lexer_delimiters c.next.new.self in
    let s' = lexer_text c.next.new.self in
    let mid = lexer_state c.next.new.self in
    let P : Error → Type 0 = λ e. (ls : List Lexeme) → AfterCommentRaw delimiters' s' mid ls → IsSyntaxError delimiters' s' e in
    let Q : Error → Type 0 = λ e. (ls : List Lexeme) → AfterCommentBegin delimiters s (pieces_state c.args.self.now) ls → IsSyntaxError delimiters s e in
    err_on P Q c.pass_comment_end.result (λ e fault ls b.
    let raw = given_raw c ls b in
    let more = ls ++ raw.0 ∷ [] in
    let F : List DelimiterText → List ℕ → Type 0 = λ x y. AfterCommentRaw x y mid more in
    let G : List DelimiterText → List ℕ → Type 0 = λ x y. IsSyntaxError x y e in
    let there = over F delimiters delimiters' s s' c.in_ok-inside.ensures.delimiters c.in_ok-inside.ensures.text raw.2 in
    back G delimiters delimiters' s s' c.in_ok-inside.ensures.delimiters c.in_ok-inside.ensures.text (fault more there)) c.pass_comment_end.ensures.fault
