-- One tag further: what its end leaves, or that a closing tag that is not taken is the first fault.
use Rattle.std.proofs.Common.{◌≡◌, inl, ℕ, ◌&&◌, List, [], ◌∷◌, ◌++◌, Bool, true, false, Some, refl, sym, ap, ◌∙◌, subst, codes, append_assoc}
use Rattle.std.specs.Str.{IsUtf8}
use Rattle.upon_types.specs.declared.types.Span.{Span}
use Rattle.upon_types.specs.declared.types.token.Token.TheVariants.{BeginExpr, EndExpr, BeginBlock, EndBlock}
use Rattle.upon_types.specs.Expression.{Expression}
use Rattle.upon_types.specs.Tree.{inline_expr}
use Rattle.upon_language_spec.specs.Search.{DelimiterText, HasTexts}
use Rattle.upon_language_spec.specs.LiesIn.{HasUtf8}
use Rattle.upon_language_spec.specs.Delimiters.{Sort, expression, block, begin_token, end_token}
use Rattle.upon_language_spec.specs.Cut.{Lexeme, outside, in_tag, IsToken, Cut}
use Rattle.upon_language_spec.specs.Blocks.{OpenBlock, Closer, closer_of, takes, open_blocks, closer_words}
use Rattle.upon_language_spec.specs.Faults.{span_of, lexeme_at, tag_tokens}
use Rattle.upon_language_spec.specs.FirstFault.{IsFirstFault, unexpected_block}
use Rattle.upon_language_spec.specs.Grammar.{IsStatement}
use Rattle.upon_language_spec.specs.Lexing.{LexerState, HasRead}
use Rattle.upon_language_spec.specs.Reading.{opens_tag, open_tag, first_span, before_tag}
use Rattle.upon_language_spec.specs.Shown.{shown_lexemes, is_end}
use Rattle.upon_language_spec.specs.Tokens.{is_raw, begins_comment, without_spaces, significant}
use Rattle.upon_language_spec.specs.Wanted.{in_quotes}
use Rattle.upon_language_spec.proofs.NoTreeWithFault.BeforeTag.{open_tag_more, before_tag_more}
use Rattle.upon_language_spec.proofs.NoTreeWithFault.FineExpression.{passes_expression}
use Rattle.upon_language_spec.specs.InTags.{EachInside}
use Rattle.upon_language_spec.proofs.NoTreeWithFault.InsideTag.{end_is_no_comment, end_is_no_space, end_leaves, kept}
use Rattle.upon_language_spec.proofs.NoTreeWithFault.TagBlocks.{Walks, walks_inline}
use Rattle.upon_language_spec.proofs.Totality.BlockEnd.{taken_end}
use Rattle.upon_language_spec.proofs.Totality.First.{first_at}
use Rattle.upon_language_spec.specs.Stages.{AllClear, Stage, EndsAt}
use Rattle.upon_language_spec.proofs.Totality.FittingClears.{fitting_clears}
use Rattle.upon_language_spec.proofs.Totality.LiteralHere.{least_block}
use Rattle.upon_language_spec.proofs.Totality.Pieces.{Plain, plain_inside, plain_read, shown_read, shown_end}
use Rattle.upon_language_spec.proofs.Totality.Stage.{on}
use Rattle.upon_language_spec.proofs.Totality.WholeTag.{ended_tag}
use Rattle.upon_syntax.specs.OpenBlocks.{kinds_of, closed_by, after_tag, IsTaken}
use Rattle.upon_syntax.specs.PieceReading.{ReadTo, token_lexeme, TokenGiven, ReadsOnPieces}
use Rattle.upon_tag_parser.specs.BlockTags.{BlockTag, IsBlockTag}
use Rattle.upon_syntax.specs.Pieces.{TemplatePiece, inline_piece, block_piece, IsPiece, ArePieces, LeaveOpen}
use Rattle.upon_tag_parser.specs.WholeTags.{IsInlineTag, IsTagInside}
use Rattle.upon_syntax.proofs.BlockTags.{tag_walks, tag_closer}
use Rattle.upon_syntax.proofs.CutParts.{cut_rest}
use Rattle.upon_syntax.proofs.OpenBlocks.{kinds_on}
use Rattle.upon_syntax.proofs.PieceSteps.{trims_of, build}
use Rattle.upon_syntax.proofs.WholeTags.{inside_left}

module _ (delimiters : List DelimiterText) (s : List ℕ) (texts : HasTexts delimiters) (before mid after : LexerState) (stack : List OpenBlock) (ls : List Lexeme) (sort : Sort) (span : Span) (x : TokenGiven delimiters s before mid stack ls (begin_token sort) span) where
  abbrev l : Lexeme
  l = token_lexeme (begin_token sort) x.hyphen x.at

  module _ (inner : List Lexeme) (each : EachInside inner) (path : Bool) (offset : ℕ) (e : EndsAt delimiters s sort ((ls ++ l ∷ []) ++ inner) path offset) (read : HasRead delimiters s after ((ls ++ l ∷ []) ++ (inner ++ lexeme_at (end_token sort) e.hyphen offset e.to ∷ []))) where
    abbrev so_far : List Lexeme
    so_far = (ls ++ l ∷ []) ++ inner

    abbrev end : Lexeme
    end = lexeme_at (end_token sort) e.hyphen offset e.to

    abbrev all : List Lexeme
    all = without_spaces (l ∷ inner) ++ end ∷ []

    read_end : HasRead delimiters s after (so_far ++ end ∷ [])
    read_end = let F : List Lexeme → Type 0 = λ y. HasRead delimiters s after y in subst F (sym (append_assoc (ls ++ l ∷ []) inner (end ∷ []))) read

    end_cut : Cut delimiters s (in_tag sort path) offset (end ∷ []) after.mode after.offset
    end_cut = cut_rest delimiters s outside (in_tag sort path) after.mode 0 offset after.offset so_far (end ∷ []) e.tag.stage.reads read_end.reads

    read_to : AllClear delimiters s e.to → ReadTo delimiters s after outside (ls ++ (l ∷ (inner ++ end ∷ [])))
    read_to clear =
        let F : List Lexeme → Type 0 = λ y. HasRead delimiters s after y in
        let G : ℕ → Type 0 = λ n. AllClear delimiters s n in
        record {
          read = subst F (append_assoc ls (l ∷ []) (inner ++ end ∷ [])) read;
          is = sym end_cut.2.0 ∙ end_leaves (in_tag sort path) sort;
          clear = subst G end_cut.2.1 clear;
        }

    module _ (opens : opens_tag (begin_token sort) ≡ true) (no_raw : is_raw (begin_token sort) ≡ false) (no_comment : begins_comment (begin_token sort) ≡ false) where
      tokens_are : tag_tokens so_far ≡ without_spaces (l ∷ inner)
      tokens_are = ap without_spaces (open_tag_more ls l inner opens each)

      before_is : before_tag so_far ≡ ls
      before_is = before_tag_more ls l inner opens each

      begin_is : e.tag.begin ≡ l.span
      begin_is = let a : first_span (open_tag so_far) ≡ Some l.span = ap first_span (open_tag_more ls l inner opens each) in let b = e.tag.opening in cc

      plain : Plain (l ∷ inner)
      plain = (no_raw, no_comment, plain_inside inner each)

      piece_is : significant (l ∷ (inner ++ end ∷ [])) ≡ all
      piece_is = plain_read (l ∷ inner) (end ∷ []) plain ∙ ap (λ (y : List Lexeme). without_spaces (l ∷ inner) ++ y) (kept end [] (end_is_no_space sort) (end_is_no_comment sort))

      shown_piece : (later : Bool) (rest : List Lexeme) → significant (shown_lexemes s later ((l ∷ (inner ++ end ∷ [])) ++ rest)) ≡ all ++ significant (shown_lexemes s (is_end end.token && end.hyphen) rest)
      shown_piece later rest =
          let y = shown_read s later (l ∷ inner) (end ∷ rest) plain in
          let left = significant (shown_lexemes s (is_end end.token && end.hyphen) rest) in
          ap (λ (z : List Lexeme). significant (shown_lexemes s later (l ∷ z))) (append_assoc inner (end ∷ []) rest) ∙ y.1
          ∙ ap (λ (z : List Lexeme). without_spaces (l ∷ inner) ++ z) (shown_end s y.0 end sort rest refl)
          ∙ sym (append_assoc (without_spaces (l ∷ inner)) (end ∷ []) left)

      -- a tag that is a piece, and leads from the open blocks to others
      tag_on : (next : List OpenBlock) (piece : TemplatePiece) → AllClear delimiters s e.to → Walks s stack all next [] → LeaveOpen (kinds_of stack) (piece ∷ []) (kinds_of next) → ((left : List Lexeme) → IsPiece s piece (all ++ left) left) → ReadsOnPieces delimiters s before after stack next ls (piece ∷ [])
      tag_on next piece clear walks leaves is =
          build delimiters s texts before after stack next ls x.between l (inner ++ end ∷ []) all piece_is walks (read_to clear) (piece ∷ []) leaves (λ rest pieces cut are.
          let left = significant (shown_lexemes s (is_end end.token && end.hyphen) rest) in
          let F : Bool → Type 0 = λ b. ArePieces s pieces (significant (shown_lexemes s b rest)) [] in
          let G : List Lexeme → Type 0 = λ y. ArePieces s (piece ∷ pieces) y [] in
          subst G (sym (shown_piece before.trims rest)) (left, is left, subst F (trims_of delimiters s after so_far end read_end) are))

-- an inline tag
module _ (delimiters : List DelimiterText) (s : List ℕ) (texts : HasTexts delimiters) (before mid after : LexerState) (stack : List OpenBlock) (ls : List Lexeme) (span : Span) (x : TokenGiven delimiters s before mid stack ls BeginExpr span) (inner : List Lexeme) (each : EachInside inner) (path : Bool) (offset : ℕ)
    (e : EndsAt delimiters s expression ((ls ++ token_lexeme BeginExpr x.hyphen x.at ∷ []) ++ inner) path offset) (read : HasRead delimiters s after ((ls ++ token_lexeme BeginExpr x.hyphen x.at ∷ []) ++ (inner ++ lexeme_at EndExpr e.hyphen offset e.to ∷ []))) where
  inline_clear : AllClear delimiters s e.to
  inline_clear =
      let so_far = (ls ++ token_lexeme BeginExpr x.hyphen x.at ∷ []) ++ inner in
      let step : IsToken delimiters s (in_tag expression path) EndExpr e.hyphen offset e.to = inl (refl, e.ends) in
      let fits = fitting_clears delimiters s texts expression path offset e.to so_far EndExpr e.hyphen e.tag.stage.reads step (record {
        ps = e.tag.ps;
        occurs = e.tag.occurs;
        next = e.next;
        fits = λ c. e.leads;
        number = λ n. absurd cc;
        index = λ n. absurd cc;
        string = λ n. absurd cc;
        taken = λ n. absurd cc;
      }) in
      let after_end : Stage delimiters s (so_far ++ lexeme_at EndExpr e.hyphen offset e.to ∷ []) outside e.to = on delimiters s texts so_far (in_tag expression path) offset e.tag.stage EndExpr e.hyphen e.to step e.brackets fits in
      after_end.before

  pub inline_on : (tree : Expression) → IsInlineTag s tree (without_spaces inner) → ReadsOnPieces delimiters s before after stack stack ls (inline_piece tree (span_of x.at.m e.to) ∷ [])
  inline_on tree tag =
      let l = token_lexeme BeginExpr x.hyphen x.at in
      let end = lexeme_at EndExpr e.hyphen offset e.to in
      let ts = without_spaces inner in
      let F : List Lexeme → List Lexeme → Type 0 = λ left y. IsStatement s (inline_expr tree (span_of x.at.m e.to)) (l ∷ y) left in
      tag_on delimiters s texts before mid after stack ls expression span x inner each path offset e read refl refl refl stack (inline_piece tree (span_of x.at.m e.to)) inline_clear
      (walks_inline s (passes_expression s) tree (span_of x.at.m e.to) stack (l ∷ (ts ++ end ∷ [])) [] (tag l end [] refl refl)) (kinds_of stack, refl, refl)
      (λ left. let G : List Lexeme → Type 0 = λ y. F left y in subst G (sym (append_assoc ts (end ∷ []) left)) (tag l end left refl refl))

-- the tag of a block
module _ (delimiters : List DelimiterText) (s : List ℕ) (texts : HasTexts delimiters) (utf8 : HasUtf8 delimiters) (text : IsUtf8 s) (before mid after : LexerState) (stack : List OpenBlock) (ls : List Lexeme) (span : Span) (x : TokenGiven delimiters s before mid stack ls BeginBlock span) (inner : List Lexeme) (each : EachInside inner) (path : Bool) (offset : ℕ)
    (e : EndsAt delimiters s block ((ls ++ token_lexeme BeginBlock x.hyphen x.at ∷ []) ++ inner) path offset) (read : HasRead delimiters s after ((ls ++ token_lexeme BeginBlock x.hyphen x.at ∷ []) ++ (inner ++ lexeme_at EndBlock e.hyphen offset e.to ∷ []))) (tag : BlockTag) (is : IsTagInside s tag (without_spaces inner)) where
  abbrev begin : Lexeme
  begin = token_lexeme BeginBlock x.hyphen x.at

  abbrev ending : Lexeme
  ending = lexeme_at EndBlock e.hyphen offset e.to

  abbrev tag_so_far : List Lexeme
  tag_so_far = (ls ++ begin ∷ []) ++ inner

  abbrev tag_all : List Lexeme
  tag_all = begin ∷ (without_spaces inner ++ ending ∷ [])

  whole : IsBlockTag s tag tag_all []
  whole = is begin ending [] refl refl

  tokens : tag_tokens tag_so_far ≡ begin ∷ without_spaces inner
  tokens = tokens_are delimiters s texts before mid after stack ls block span x inner each path offset e read refl refl refl

  closer_is : closer_of s (tag_tokens tag_so_far ++ ending ∷ []) ≡ closed_by tag
  closer_is = ap (λ (y : List Lexeme). closer_of s (y ++ ending ∷ [])) tokens ∙ tag_closer s begin ending (without_spaces inner) (inside_left inner each) refl tag whole

  blocks_are : (between : open_blocks s (significant ls) ≡ stack) → open_blocks s (significant (before_tag tag_so_far)) ≡ stack
  blocks_are between = ap (λ (y : List Lexeme). open_blocks s (significant y)) (before_is delimiters s texts before mid after stack ls block span x inner each path offset e read refl refl refl) ∙ between

  pub block_on : IsTaken tag stack → ReadsOnPieces delimiters s before after stack (after_tag tag (span_of x.at.m e.to) stack) ls (block_piece tag ∷ [])
  block_on taken =
      let stage = taken_end delimiters s texts utf8 text tag_so_far path offset e (λ closer h. ap (λ (y : List OpenBlock). takes y closer) (blocks_are x.between.blocks) ∙ taken closer (sym closer_is ∙ h)) in
      let walks = tag_walks s begin ending (without_spaces inner) (inside_left inner each) refl tag stack whole taken in
      let next = after_tag tag (span_of x.at.m e.to) stack in
      tag_on delimiters s texts before mid after stack ls block span x inner each path offset e read refl refl refl next (block_piece tag) stage.before walks (kinds_of next, kinds_on tag (span_of x.at.m e.to) stack taken, refl)
      (λ left. let G : List Lexeme → Type 0 = λ y. IsBlockTag s tag (begin ∷ y) left in subst G (sym (append_assoc (without_spaces inner) (ending ∷ []) left)) (is begin ending left refl refl))

  -- a closing tag that is not taken
  pub untaken_is_first : (closer : Closer) → closed_by tag ≡ Some closer → takes stack closer ≡ false → IsFirstFault delimiters s (span_of x.at.m e.to) (codes "unexpected " ++ (in_quotes (closer_words closer) ++ codes " block"))
  untaken_is_first closer closing refused =
      let reason = codes "unexpected " ++ (in_quotes (closer_words closer) ++ codes " block") in
      let step : IsToken delimiters s (in_tag block path) EndBlock e.hyphen offset e.to = inl (refl, e.ends) in
      let begins = begin_is delimiters s texts before mid after stack ls block span x inner each path offset e read refl refl refl in
      let at : span_of x.at.m e.to ≡ span_of e.tag.begin.m e.to = ap (λ (y : Span). span_of y.m e.to) (sym begins) in
      first_at delimiters s offset (span_of x.at.m e.to) reason e.tag.stage.before unexpected_block (record {
        lexemes = tag_so_far;
        in_path = path;
        reads = e.tag.stage.reads;
        hyphen = e.hyphen;
        to = e.to;
        ends = e.ends;
        whole = ended_tag delimiters s texts utf8 text block tag_so_far path offset e refl;
        closer = closer;
        closing = closer_is ∙ closing;
        refused = ap (λ (y : List OpenBlock). takes y closer) (blocks_are x.between.blocks) ∙ refused;
        begin = e.tag.begin;
        begins = e.tag.opening;
        at = at;
        words = refl;
      }) (least_block delimiters s texts block path offset tag_so_far e.tag.stage e.tag.ps e.next e.tag.occurs EndBlock e.hyphen e.to step e.brackets e.leads (λ y. cc) (λ y. cc) (λ y. cc))
