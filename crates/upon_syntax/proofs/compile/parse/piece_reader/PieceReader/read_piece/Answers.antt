use Rattle.std.proofs.Common.{List, [], ◌∷◌, ◌++◌, refl, sym, subst}
use Rattle.std.proofs.lemmas.List.{append-nil}
use Rattle.upon_types.specs.declared.types.token.Token.{Token}
use Rattle.upon_types.specs.declared.types.token.Token.TheVariants.{BeginComment}
use Rattle.upon_language_spec.specs.Blocks.{OpenBlock}
use Rattle.upon_compiler.specs.Program.{program_view}
use Rattle.upon_syntax.specs.Pieces.{raw_piece}
use Rattle.upon_syntax.specs.PieceReading.{text_of_reader, pieces_delimiters, pieces_state, pieces_blocks, token_lexeme, TokenGiven, ReadsOnPieces}
use Rattle.upon_syntax.specs.TagReading.{IsSyntaxError}
use Rattle.upon_syntax.proofs.Comments.{comment_begins}
use Rattle.upon_syntax.proofs.NextTokens.{handed_on}
use Rattle.upon_syntax.proofs.PieceSteps.{raw_on, comment_on}
use Rattle.upon_syntax.proofs.compile.parse.piece_reader.PieceReader.read_piece.Goals as goal

pub returns-in_err-pass_comment-in-BeginComment-clause-fault : goal.returns-in_err-pass_comment-in-BeginComment-clause-fault
returns-in_err-pass_comment-in-BeginComment-clause-fault c =
    let self = c.args.self.now in
    let F : Token → Type 0 = λ t. TokenGiven (pieces_delimiters self) (text_of_reader self) c.requires.given.0 (pieces_state self) (pieces_blocks self) c.requires.given.1 t c.args.span in
    let x = subst F c.in-BeginComment.is c.requires.given.2 in
    let begun = comment_begins (pieces_delimiters self) (text_of_reader self) self.lexer.searcher.now.syntax.has_texts c.requires.given.0 (pieces_state self) (pieces_blocks self) c.requires.given.1 c.args.span x in
    let fault = c.in_err-pass_comment-in-BeginComment.ensures.fault (c.requires.given.1 ++ token_lexeme BeginComment x.hyphen x.at ∷ []) begun in
    handed_on (IsSyntaxError (pieces_delimiters self) (text_of_reader self)) c.in_err-pass_comment-in-BeginComment.field-0.0 c.from_residual.result c.from_residual.ensures.1 fault

pub returns-in_ok-pass_comment-in-BeginComment-clause-piece : goal.returns-in_ok-pass_comment-in-BeginComment-clause-piece
returns-in_ok-pass_comment-in-BeginComment-clause-piece c = λ before ls given.
    let self = c.args.self.now in
    let delimiters = pieces_delimiters self in
    let s = text_of_reader self in
    let texts = self.lexer.searcher.now.syntax.has_texts in
    let stack = pieces_blocks self in
    let after = pieces_state c.pass_comment.new.self in
    let F : Token → Type 0 = λ t. TokenGiven delimiters s before (pieces_state self) stack ls t c.args.span in
    let x : TokenGiven delimiters s before (pieces_state self) stack ls BeginComment c.args.span = subst F c.in-BeginComment.is given in
    let begun = comment_begins delimiters s texts before (pieces_state self) stack ls c.args.span x in
    let passes = c.in_ok-pass_comment-in-BeginComment.ensures.passes (ls ++ token_lexeme BeginComment x.hyphen x.at ∷ []) begun in
    let G : List OpenBlock → Type 0 = λ y. ReadsOnPieces delimiters s before after stack y ls [] in
    (subst G (sym c.in_ok-pass_comment-in-BeginComment.ensures.blocks) (comment_on delimiters s texts before (pieces_state self) after stack ls c.args.span x passes), refl)

pub returns-in_default-clause-piece : goal.returns-in_default-clause-piece
returns-in_default-clause-piece c = λ before ls given.
    let self = c.args.self.now in
    let span = c.args.span in
    let on = raw_on (pieces_delimiters self) (text_of_reader self) self.lexer.searcher.now.syntax.has_texts before (pieces_state self) (pieces_blocks self) ls c.args.token span c.in_default.not-BeginExpr c.in_default.not-BeginBlock c.in_default.not-BeginComment given in
    record { piece = raw_piece span; reads = on; keeps = refl; holds = tt; code = sym (append-nil (program_view c.args.code.now.items)) }
