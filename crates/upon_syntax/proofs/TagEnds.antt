-- A tag from its begin to its end, as the reader of tags says what it has read.
use Rattle.std.proofs.Common.{◌≡◌, ℕ, List, [], ◌∷◌, ◌++◌, false, Some, refl, sym, ap, ◌∙◌, subst, codes}
use Rattle.std.specs.Str.{IsUtf8}
use Rattle.upon_types.specs.declared.types.Span.{Span}
use Rattle.upon_types.specs.declared.types.token.Token.TheVariants.{BeginExpr, BeginBlock}
use Rattle.upon_language_spec.specs.Search.{DelimiterText, HasTexts}
use Rattle.upon_language_spec.specs.LiesIn.{HasUtf8}
use Rattle.upon_language_spec.specs.Delimiters.{expression, block}
use Rattle.upon_language_spec.specs.Cut.{Lexeme, outside, in_tag}
use Rattle.upon_language_spec.specs.Blocks.{OpenBlock, Closer, takes, closer_words}
use Rattle.upon_language_spec.specs.Faults.{span_of}
use Rattle.upon_language_spec.specs.FirstFault.{IsFirstFault}
use Rattle.upon_language_spec.specs.Lexing.{LexerState, HasRead}
use Rattle.upon_language_spec.specs.Wanted.{in_quotes}
use Rattle.upon_language_spec.proofs.NoTreeWithFault.BeforeTag.{open_tag_is}
use Rattle.upon_language_spec.proofs.Totality.Stage.{outside_is_clear}
use Rattle.upon_compiler.specs.declared.types.program.Instr.{Instr as CodeInstr}
use Rattle.upon_lexer.specs.declared.compile.lex.Lexer.{Lexer}
use Rattle.upon_lexer.specs.Lexers.{lexer_text, lexer_delimiters, lexer_state, ReadSoFar}
use Rattle.upon_syntax.specs.OpenBlocks.{closed_by, after_tag, IsTaken}
use Rattle.upon_syntax.specs.PieceReading.{token_lexeme, TokenGiven, ReadsOnPieces}
use Rattle.upon_tag_parser.specs.declared.compile.parse.tag.Tag.{Tag}
use Rattle.upon_syntax.specs.Pieces.{inline_piece, block_piece}
use Rattle.upon_syntax.specs.TagReading.{AfterBegin, AfterEnd}
use Rattle.upon_tag_parser.specs.WholeTags.{HoldsInline, HoldsTag}
use Rattle.upon_syntax.proofs.NextTokens.{back, stage_of, read_on, below_end}
use Rattle.upon_syntax.proofs.TagSteps.{inline_on, block_on, untaken_is_first}

module _ (lexer : Lexer) (texts : HasTexts (lexer_delimiters lexer)) (before : LexerState) (stack : List OpenBlock) (ls : List Lexeme) (begin : Span) where
  pub after_begin_expr : (x : TokenGiven (lexer_delimiters lexer) (lexer_text lexer) before (lexer_state lexer) stack ls BeginExpr begin) → AfterBegin lexer expression begin (ls ++ token_lexeme BeginExpr x.hyphen x.at ∷ [])
  after_begin_expr x =
      let delimiters = lexer_delimiters lexer in
      let s = lexer_text lexer in
      let l = token_lexeme BeginExpr x.hyphen x.at in
      let r = x.between.read_to in
      let below = below_end delimiters s texts before (lexer_state lexer) outside ls l r x.read in
      let clear = outside_is_clear delimiters s texts ls outside before.offset (stage_of delimiters s before outside ls r) refl below.1 in
      let at : begin ≡ x.at = x.given in
      record {
        read = x.read;
        stage = stage_of delimiters s (lexer_state lexer) (in_tag expression false) (ls ++ l ∷ []) (read_on delimiters s texts before (lexer_state lexer) outside ls l r x.read clear);
        hyphen = x.hyphen;
        opened = open_tag_is ls l [] refl tt ∙ ap (λ (y : Span). token_lexeme BeginExpr x.hyphen y ∷ []) (sym at);
      }

  pub after_begin_block : (x : TokenGiven (lexer_delimiters lexer) (lexer_text lexer) before (lexer_state lexer) stack ls BeginBlock begin) → AfterBegin lexer block begin (ls ++ token_lexeme BeginBlock x.hyphen x.at ∷ [])
  after_begin_block x =
      let delimiters = lexer_delimiters lexer in
      let s = lexer_text lexer in
      let l = token_lexeme BeginBlock x.hyphen x.at in
      let r = x.between.read_to in
      let below = below_end delimiters s texts before (lexer_state lexer) outside ls l r x.read in
      let clear = outside_is_clear delimiters s texts ls outside before.offset (stage_of delimiters s before outside ls r) refl below.1 in
      let at : begin ≡ x.at = x.given in
      record {
        read = x.read;
        stage = stage_of delimiters s (lexer_state lexer) (in_tag block false) (ls ++ l ∷ []) (read_on delimiters s texts before (lexer_state lexer) outside ls l r x.read clear);
        hyphen = x.hyphen;
        opened = open_tag_is ls l [] refl tt ∙ ap (λ (y : Span). token_lexeme BeginBlock x.hyphen y ∷ []) (sym at);
      }

  module _ (after : Lexer) (delims : lexer_delimiters after ≡ lexer_delimiters lexer) (text_is : lexer_text after ≡ lexer_text lexer) where
    read_back : (ks : List Lexeme) → ReadSoFar after ks → HasRead (lexer_delimiters lexer) (lexer_text lexer) (lexer_state after) ks
    read_back ks h = let F : List DelimiterText → List ℕ → Type 0 = λ x y. HasRead x y (lexer_state after) ks in back F (lexer_delimiters lexer) (lexer_delimiters after) (lexer_text lexer) (lexer_text after) delims text_is h

    span_is : (at span : Span) (to : ℕ) → begin ≡ at → span.m ≡ begin.m → span.n ≡ to → span ≡ span_of at.m to
    span_is at span to e m n = let start : span.m ≡ at.m = m ∙ ap (λ (y : Span). y.m) e in λ i. span_of (start i) (n i)

    pub inline_step : (x : TokenGiven (lexer_delimiters lexer) (lexer_text lexer) before (lexer_state lexer) stack ls BeginExpr begin) (to : ℕ) (old new : List CodeInstr)
        (a : AfterEnd lexer after expression (ls ++ token_lexeme BeginExpr x.hyphen x.at ∷ []) to (λ tokens. HoldsInline (lexer_text lexer) tokens old new))
        → ReadsOnPieces (lexer_delimiters lexer) (lexer_text lexer) before (lexer_state after) stack stack ls (inline_piece a.tokens.tree (span_of x.at.m a.ends.to) ∷ [])
    inline_step x to old new a = inline_on (lexer_delimiters lexer) (lexer_text lexer) texts before (lexer_state lexer) (lexer_state after) stack ls begin x a.inner a.each a.path a.offset a.ends (read_back _ a.read) a.tokens.tree a.tokens.inside

    module _ (utf8 : HasUtf8 (lexer_delimiters lexer)) (text : IsUtf8 (lexer_text lexer)) (x : TokenGiven (lexer_delimiters lexer) (lexer_text lexer) before (lexer_state lexer) stack ls BeginBlock begin) (tag : Tag) (span : Span) (old new : List CodeInstr)
        (a : AfterEnd lexer after block (ls ++ token_lexeme BeginBlock x.hyphen x.at ∷ []) span.n (λ tokens. HoldsTag (lexer_text lexer) tag tokens old new)) (start : span.m ≡ begin.m) where
      same_span : span ≡ span_of x.at.m a.ends.to
      same_span = span_is x.at span a.ends.to x.given start a.at

      pub block_step : (next : List OpenBlock) → IsTaken a.tokens.tree stack → next ≡ after_tag a.tokens.tree span stack → ReadsOnPieces (lexer_delimiters lexer) (lexer_text lexer) before (lexer_state after) stack next ls (block_piece a.tokens.tree ∷ [])
      block_step next taken is =
          let told = a.tokens.tree in
          let F : List OpenBlock → Type 0 = λ y. ReadsOnPieces (lexer_delimiters lexer) (lexer_text lexer) before (lexer_state after) stack y ls (block_piece told ∷ []) in
          subst F (sym (is ∙ ap (λ (y : Span). after_tag told y stack) same_span)) (block_on (lexer_delimiters lexer) (lexer_text lexer) texts utf8 text before (lexer_state lexer) (lexer_state after) stack ls begin x a.inner a.each a.path a.offset a.ends (read_back _ a.read) told a.tokens.inside taken)

      pub untaken_first : (closer : Closer) → closed_by a.tokens.tree ≡ Some closer → takes stack closer ≡ false → IsFirstFault (lexer_delimiters lexer) (lexer_text lexer) span (codes "unexpected " ++ (in_quotes (closer_words closer) ++ codes " block"))
      untaken_first closer closing refused =
          let F : Span → Type 0 = λ y. IsFirstFault (lexer_delimiters lexer) (lexer_text lexer) y (codes "unexpected " ++ (in_quotes (closer_words closer) ++ codes " block")) in
          subst F (sym same_span) (untaken_is_first (lexer_delimiters lexer) (lexer_text lexer) texts utf8 text before (lexer_state lexer) (lexer_state after) stack ls begin x a.inner a.each a.path a.offset a.ends (read_back _ a.read) a.tokens.tree a.tokens.inside closer closing refused)
