use Rattle.std.proofs.Common.{◌≡◌, List, [], ◌∷◌, ◌++◌, sym, ap, ◌∙◌}
use Rattle.upon_types.specs.declared.types.Span.{Span}
use Rattle.upon_language_spec.specs.Tokens.{without_spaces}
use Rattle.upon_tag_parser.proofs.Bases.{span_is}
use Rattle.upon_types.specs.declared.error.Error.{Error}
use Rattle.upon_types.specs.declared.types.token.Token.TheVariants.{BeginExpr}
use Rattle.upon_language_spec.specs.Cut.{Lexeme}
use Rattle.upon_language_spec.specs.Delimiters.{expression}
use Rattle.upon_language_spec.specs.Faults.{span_of}
use Rattle.upon_language_spec.specs.Lexing.{LexerState}
use Rattle.upon_lexer.specs.Lexers.{lexer_state}
use Rattle.upon_tag_parser.specs.WholeTags.{HoldsInline, IsInlineTag}
use Rattle.upon_syntax.specs.declared.compile.parse.piece.Piece.TheVariants.{InlineExpr}
use Rattle.upon_syntax.specs.PieceReading.{text_of_reader, pieces_delimiters, pieces_state, pieces_blocks, token_lexeme, TokenGiven, PieceRead}
use Rattle.upon_syntax.specs.Pieces.{inline_piece, InlineLeads}
use Rattle.upon_syntax.specs.TagReading.{AfterBegin, AfterEnd, KeepsTokens, IsSyntaxError}
use Rattle.upon_syntax.specs.TagReaders.{reader_tokens}
use Rattle.upon_syntax.proofs.KeptTokens.{held, each_kept, kept_holds, both_ok}
use Rattle.upon_syntax.proofs.NextTokens.{ok_on, err_on}
use Rattle.upon_syntax.proofs.TagEnds.{after_begin_expr, inline_step}
use Rattle.upon_syntax.proofs.compile.parse.piece_reader.PieceReader.read_inline.Goals as goal

pub returns-clause-tag : goal.returns-clause-tag
returns-clause-tag c =
    let self = c.args.self.now in
    let lexer = self.lexer in
    let reader = c.read_inline.new in
    let after = reader.lexer in
    let delimiters = pieces_delimiters self in
    let s = text_of_reader self in
    let stack = pieces_blocks self in
    let old = c.args.code.now.items in
    let new = reader.code.items in
    let begin = c.args.begin in
    let texts = lexer.searcher.now.syntax.has_texts in
    let tags = reader.self in
    let P : Span → Type 0 = λ span. ((ls : List Lexeme) → AfterBegin lexer expression begin ls → AfterEnd lexer after expression ls span.n (KeepsTokens s tags (λ tokens. HoldsInline s tokens old new) (InlineLeads s))) × (span.m ≡ begin.m) in
    let Q : Span → Type 0 = λ span. (before : LexerState) (ls : List Lexeme) → TokenGiven delimiters s before (pieces_state self) stack ls BeginExpr begin → PieceRead delimiters s before (lexer_state after) stack stack ls (reader_tokens tags) old new (InlineExpr span) in
    ok_on P Q c.read_inline.result (λ span both before ls x.
    let kept = both.0 (ls ++ token_lexeme BeginExpr x.hyphen x.at ∷ []) (after_begin_expr lexer texts before stack ls begin x) in
    let a = held lexer after expression (ls ++ token_lexeme BeginExpr x.hyphen x.at ∷ []) span.n s tags (λ tokens. HoldsInline s tokens old new) (InlineLeads s) kept in
    let at = span_of x.at.m a.ends.to in
    let on = inline_step lexer texts before stack ls begin after c.read_inline.ensures.keeps.delimiters c.read_inline.ensures.keeps.text x span.n old new a in
    let same : span ≡ at = span_is span x.at.m a.ends.to (both.1 ∙ ap (λ (y : Span). y.m) x.given) a.at in
    let P' : List Lexeme → Type 0 = λ tokens. HoldsInline s tokens old new in
    let holds = kept_holds s tags P' (InlineLeads s) (λ tokens. IsInlineTag s a.tokens.tree tokens) (without_spaces a.inner) kept.tokens a.tokens.inside in
    record { piece = inline_piece a.tokens.tree at; reads = on; keeps = (a.tokens.tree, ap (λ (y : Span). inline_piece a.tokens.tree y) (sym same)); holds = (holds, kept_holds s tags P' (InlineLeads s) (InlineLeads s) (without_spaces a.inner) kept.tokens kept.tokens.leads, each_kept s tags P' (InlineLeads s) (without_spaces a.inner) kept.tokens); code = a.tokens.code })
    (both_ok c.read_inline.result (λ (span : Span). (ls : List Lexeme) → AfterBegin lexer expression begin ls → AfterEnd lexer after expression ls span.n (KeepsTokens s tags (λ tokens. HoldsInline s tokens old new) (InlineLeads s))) (λ (span : Span). span.m ≡ begin.m) c.read_inline.ensures.tag c.read_inline.ensures.start)

pub returns-clause-fault : goal.returns-clause-fault
returns-clause-fault c =
    let self = c.args.self.now in
    let lexer = self.lexer in
    let delimiters = pieces_delimiters self in
    let s = text_of_reader self in
    let given = c.requires.given in
    let P : Error → Type 0 = λ e. (ls : List Lexeme) → AfterBegin lexer expression c.args.begin ls → IsSyntaxError delimiters s e in
    let Q : Error → Type 0 = λ e. IsSyntaxError delimiters s e in
    err_on P Q c.read_inline.result (λ e fault.
    let x = given.2 in
    fault (given.1 ++ token_lexeme BeginExpr x.hyphen x.at ∷ []) (after_begin_expr lexer lexer.searcher.now.syntax.has_texts given.0 (pieces_blocks self) given.1 c.args.begin x)) c.read_inline.ensures.fault
