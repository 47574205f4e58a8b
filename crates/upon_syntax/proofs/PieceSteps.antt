-- One piece further: raw parts, comments and tags, and what the pieces so far become.
use Rattle.std.proofs.Common.{◌≡◌, inl, inr, ℕ, ◌≤◌, ◌&&◌, List, [], ◌∷◌, ◌++◌, length, Bool, false, Some, None, Ok, refl, sym, ap, ◌∙◌, subst, arith, append_assoc}
use Rattle.std.proofs.lemmas.List.{append-nil}
use Rattle.upon_types.specs.declared.types.Span.{Span}
use Rattle.upon_types.specs.declared.types.token.Token.{Token}
use Rattle.upon_types.specs.declared.types.token.Token.TheVariants.{Raw, BeginExpr, BeginBlock, BeginComment, EndComment}
use Rattle.upon_language_spec.specs.Search.{DelimiterText, HasTexts}
use Rattle.upon_language_spec.specs.Delimiters.{Sort, expression, block, comment, begin_token}
use Rattle.upon_language_spec.specs.Cut.{Lexeme, Mode, outside, IsToken, Cut}
use Rattle.upon_language_spec.specs.Blocks.{OpenBlock, blocks_from, open_blocks}
use Rattle.upon_language_spec.specs.Lexing.{LexerState, HasRead, Lexes, IsGiven, is_trimming_end}
use Rattle.upon_language_spec.specs.Shown.{shown_span, shown_lexemes, begin_trims, is_end}
use Rattle.upon_language_spec.specs.Tokens.{significant}
use Rattle.upon_language_spec.proofs.GivenTokens.Shown.{next_trims}
use Rattle.upon_language_spec.proofs.NoTreeWithFault.ReadBefore.{Ended, read_before}
use Rattle.upon_language_spec.specs.ClosingTags.{AllTaken, ReadTagsTaken}
use Rattle.upon_language_spec.proofs.NoTreeWithFault.TagBlocks.{Walks, walks_nothing, walks_one}
use Rattle.upon_language_spec.proofs.OneCut.Cut.{cut_ends, cut_joined, takes_some}
use Rattle.upon_language_spec.proofs.Totality.InsideClear.{last_more}
use Rattle.upon_language_spec.proofs.Totality.OpenBlocks.{blocks_append, taken_append}
use Rattle.upon_language_spec.proofs.Totality.Stage.{outside_is_clear}
use Rattle.upon_compiler.specs.declared.types.program.Instr.{Instr as CodeInstr}
use Rattle.upon_syntax.specs.declared.compile.parse.piece.Piece.{Piece as CodePiece}
use Rattle.upon_syntax.specs.OpenBlocks.{kinds_of}
use Rattle.upon_syntax.specs.PieceReading.{ReadTo, BetweenPieces, token_lexeme, TokenGiven, ReadsOnPieces, PassesComment, PieceRead, PiecesSoFar, PieceFound, GoesFurther}
use Rattle.upon_syntax.specs.Pieces.{TemplatePiece, raw_piece, BlockKind, ArePieces, LeaveOpen}
use Rattle.upon_syntax.specs.TagReading.{HasPieces}
use Rattle.upon_syntax.proofs.CutParts.{cut_rest}
use Rattle.upon_syntax.proofs.NextTokens.{same_state, reads_in, stage_of, Step, step_of, read_on, below_end}

leaves_more : (a b c : List BlockKind) (xs ys : List TemplatePiece) → LeaveOpen a xs b → LeaveOpen b ys c → LeaveOpen a (xs ++ ys) c
leaves_more a b c [] ys h k = let F : List BlockKind → Type 0 = λ x. LeaveOpen x ys c in subst F (sym h) k
leaves_more a b c (x ∷ xs) ys h k = (h.0, h.1, leaves_more h.0 b c xs ys h.2 k)

-- whether the last token trims what follows
pub trims_of : (delimiters : List DelimiterText) (s : List ℕ) (after : LexerState) (ls : List Lexeme) (l : Lexeme) → HasRead delimiters s after (ls ++ l ∷ []) → after.trims ≡ (is_end l.token && l.hyphen)
trims_of delimiters s after ls l h = sym h.trims ∙ ap is_trimming_end (last_more ls l)

module _ (delimiters : List DelimiterText) (s : List ℕ) (texts : HasTexts delimiters) where
  pub within : (left : LexerState) (mode : Mode) (ls : List Lexeme) → ReadTo delimiters s left mode ls → left.offset ≤ length s
  within left mode ls r = (cut_ends delimiters s texts outside mode 0 left.offset ls (omega arith) (reads_in delimiters s left mode ls r)).1

  -- ---- from what was read of some tokens to the reader's next place between pieces
  module _ (before after : LexerState) (stack next : List OpenBlock) (ls : List Lexeme) (between : BetweenPieces delimiters s before stack ls) (l : Lexeme) (ks all : List Lexeme) (is : significant (l ∷ ks) ≡ all) (walks : Walks s stack all next []) (read_to : ReadTo delimiters s after outside (ls ++ l ∷ ks)) where
    reads_before : Cut delimiters s outside 0 ls outside before.offset
    reads_before = reads_in delimiters s before outside ls between.read_to

    tokens : significant (ls ++ l ∷ ks) ≡ significant ls ++ all
    tokens = (read_before delimiters s 0 before.offset ls (l ∷ ks) reads_before).0 ∙ ap (λ (x : List Lexeme). significant ls ++ x) is

    ended : Ended (significant ls)
    ended = (read_before delimiters s 0 before.offset ls (l ∷ ks) reads_before).1

    blocks_on : open_blocks s (significant (ls ++ l ∷ ks)) ≡ next
    blocks_on = ap (open_blocks s) tokens ∙ blocks_append s [] (significant ls) all ended between.known ∙ ap (λ (x : List OpenBlock). blocks_from s x all) between.blocks ∙ walks.0

    known_on : ReadTagsTaken s (ls ++ l ∷ ks)
    known_on =
        let F : List Lexeme → Type 0 = λ x. AllTaken s [] x in
        let G : List OpenBlock → Type 0 = λ x. AllTaken s x all in
        subst F (sym tokens) (taken_append s [] (significant ls) all ended between.known (subst G (sym between.blocks) (walks.1 tt)))

    cut_on : Cut delimiters s outside before.offset (l ∷ ks) outside after.offset
    cut_on = cut_rest delimiters s outside outside outside 0 before.offset after.offset ls (l ∷ ks) reads_before (reads_in delimiters s after outside (ls ++ l ∷ ks) read_to)

    pub build : (found : List TemplatePiece) → LeaveOpen (kinds_of stack) found (kinds_of next)
        → ((rest : List Lexeme) (pieces : List TemplatePiece) → Cut delimiters s outside after.offset rest outside (length s) → ArePieces s pieces (significant (shown_lexemes s after.trims rest)) [] → ArePieces s (found ++ pieces) (significant (shown_lexemes s before.trims ((l ∷ ks) ++ rest))) [])
        → ReadsOnPieces delimiters s before after stack next ls found
    build found leaves reads = record {
      more = l ∷ ks;
      further = takes_some delimiters s texts outside outside before.offset after.offset l ks cut_on;
      between = record { read_to = read_to; known = known_on; blocks = blocks_on };
      cut = cut_on;
      leaves = leaves;
      reads = reads;
    }

  -- ---- what a call gives between pieces
  pub token_given : (before after : LexerState) (stack : List OpenBlock) (ls : List Lexeme) (token : Token) (span : Span) → BetweenPieces delimiters s before stack ls → Lexes delimiters s before ls (Ok (Some (token, span))) after → TokenGiven delimiters s before after stack ls token span
  token_given before after stack ls token span between h =
      let l = h.0 in
      let is = h.1 in
      let F : Mode → Type 0 = λ m. IsGiven delimiters s m before.trims l.token l.span span in
      let G : Token → Type 0 = λ t. IsGiven delimiters s outside before.trims t l.span span in
      let H : Token → Type 0 = λ t. HasRead delimiters s after (ls ++ token_lexeme t l.hyphen l.span ∷ []) in
      record { between = between; hyphen = l.hyphen; at = l.span; given = subst G is (subst F between.read_to.is h.2); read = subst H is h.3 }

  pub at_end : (before after : LexerState) (stack : List OpenBlock) (ls : List Lexeme) → BetweenPieces delimiters s before stack ls → Lexes delimiters s before ls (Ok None) after → BetweenPieces delimiters s after stack ls × (after.offset ≡ length s)
  at_end before after stack ls between h =
      let same = same_state delimiters s before after ls between.read_to.read h.2 in
      let F : LexerState → Type 0 = λ x. BetweenPieces delimiters s x stack ls in
      (subst F same between, ap (λ (x : LexerState). x.offset) (sym same) ∙ h.0)

  -- ---- a raw part
  raw_given : (before after : LexerState) (stack : List OpenBlock) (ls : List Lexeme) (span : Span) (x : TokenGiven delimiters s before after stack ls Raw span) → ReadsOnPieces delimiters s before after stack stack ls (raw_piece span ∷ [])
  raw_given before after stack ls span x =
      let l = token_lexeme Raw x.hyphen x.at in
      let r = x.between.read_to in
      let below = below_end delimiters s texts before after outside ls l r x.read in
      let clear = outside_is_clear delimiters s texts ls outside before.offset (stage_of delimiters s before outside ls r) refl below.1 in
      let read_to : ReadTo delimiters s after outside (ls ++ l ∷ []) = read_on delimiters s texts before after outside ls l r x.read clear in
      let step = step_of delimiters s before after outside ls l r x.read in
      let walks = walks_one s Raw x.at stack (l ∷ []) [] refl (record { lexeme = l; is = refl; of_token = refl; at = refl }) in
      build before after stack stack ls x.between l [] (l ∷ []) refl walks read_to (raw_piece span ∷ []) (kinds_of stack, refl, refl) (λ rest pieces cut are.
      let F : ℕ → Type 0 = λ n. Cut delimiters s outside n rest outside (length s) in
      let behind = next_trims delimiters s texts x.at.n x.given.0 rest x.given.1 (subst F (sym step.to) cut) in
      let shown : span ≡ shown_span s before.trims (begin_trims rest) x.at = x.given.2 ∙ ap (λ (b : Bool). shown_span s before.trims b x.at) behind in
      let G : Bool → Type 0 = λ b. ArePieces s pieces (significant (shown_lexemes s b rest)) [] in
      let y = token_lexeme Raw x.hyphen (shown_span s before.trims (begin_trims rest) x.at) in
      (significant (shown_lexemes s false rest), record { lexeme = y; is = refl; of_token = refl; at = sym shown }, subst G (trims_of delimiters s after ls l x.read) are))

  -- a token outside tags that begins nothing is a raw part
  pub raw_on : (before after : LexerState) (stack : List OpenBlock) (ls : List Lexeme) (token : Token) (span : Span) → (token ≡ BeginExpr → ⊥) → (token ≡ BeginBlock → ⊥) → (token ≡ BeginComment → ⊥) → TokenGiven delimiters s before after stack ls token span → ReadsOnPieces delimiters s before after stack stack ls (raw_piece span ∷ [])
  raw_on before after stack ls token span no_expr no_block no_comment x = by_step step.step
    where
      step : Step delimiters s before after outside (token_lexeme token x.hyphen x.at)
      step = step_of delimiters s before after outside ls (token_lexeme token x.hyphen x.at) x.between.read_to x.read

      no_begin : (sort : Sort) → token ≡ begin_token sort → ⊥
      no_begin expression e = no_expr e
      no_begin block e = no_block e
      no_begin comment e = no_comment e

      by_step : IsToken delimiters s outside token x.hyphen before.offset x.at.n → ReadsOnPieces delimiters s before after stack stack ls (raw_piece span ∷ [])
      by_step (inl raw) = let F : Token → Type 0 = λ t. TokenGiven delimiters s before after stack ls t span in raw_given before after stack ls span (subst F raw.0 x)
      by_step (inr begin) = absurd (no_begin begin.0 begin.1)

  -- ---- a comment
  pub comment_on : (before mid after : LexerState) (stack : List OpenBlock) (ls : List Lexeme) (span : Span) (x : TokenGiven delimiters s before mid stack ls BeginComment span) → PassesComment delimiters s after (ls ++ token_lexeme BeginComment x.hyphen x.at ∷ []) → ReadsOnPieces delimiters s before after stack stack ls []
  comment_on before mid after stack ls span x c =
      let b = token_lexeme BeginComment x.hyphen x.at in
      let r = token_lexeme Raw c.raw.hyphen c.raw.span in
      let e = token_lexeme EndComment c.end.end.hyphen c.end.end.span in
      let raw_token = c.is_raw in
      let end_token = c.end.is_end in
      let same : ((ls ++ b ∷ []) ++ c.raw ∷ []) ++ c.end.end ∷ [] ≡ ((ls ++ b ∷ []) ++ r ∷ []) ++ e ∷ [] = λ i. ((ls ++ b ∷ []) ++ token_lexeme (raw_token i) c.raw.hyphen c.raw.span ∷ []) ++ token_lexeme (end_token i) c.end.end.hyphen c.end.end.span ∷ [] in
      let joined : ((ls ++ b ∷ []) ++ r ∷ []) ++ e ∷ [] ≡ ls ++ (b ∷ r ∷ e ∷ []) = append_assoc (ls ++ b ∷ []) (r ∷ []) (e ∷ []) ∙ append_assoc ls (b ∷ []) (r ∷ e ∷ []) in
      let F : List Lexeme → Type 0 = λ y. ReadTo delimiters s after outside y in
      let trims : after.trims ≡ c.end.end.hyphen = trims_of delimiters s after ((ls ++ b ∷ []) ++ c.raw ∷ []) c.end.end c.end.read_to.read ∙ ap (λ (t : Token). is_end t && c.end.end.hyphen) end_token in
      build before after stack stack ls x.between b (r ∷ e ∷ []) [] refl (walks_nothing s stack [] [] refl) (subst F (same ∙ joined) c.end.read_to) [] refl (λ rest pieces cut are.
      let G : Bool → Type 0 = λ h. ArePieces s pieces (significant (shown_lexemes s h rest)) [] in
      subst G trims are)

  -- ---- the pieces so far
  -- after one more
  pub so_far_on : (before after : LexerState) (stack next : List OpenBlock) (found more : List TemplatePiece) (x : PiecesSoFar delimiters s before stack found) → ReadsOnPieces delimiters s before after stack next x.lexemes more → GoesFurther delimiters s before after next (found ++ more)
  so_far_on before after stack next found more x y = record {
    further = y.further;
    within = within after outside (x.lexemes ++ y.more) y.between.read_to;
    so_far = record {
      lexemes = x.lexemes ++ y.more;
      between = y.between;
      leaves = leaves_more [] (kinds_of stack) (kinds_of next) found more x.leaves y.leaves;
      reads = λ rest pieces cut are.
          let whole = cut_joined delimiters s outside outside outside before.offset after.offset (length s) y.more rest y.cut cut in
          let joined = x.reads (y.more ++ rest) (more ++ pieces) whole (y.reads rest pieces cut are) in
          let F : List TemplatePiece → Type 0 = λ z. ArePieces s z (significant (shown_lexemes s false (x.lexemes ++ (y.more ++ rest)))) [] in
          let G : List Lexeme → Type 0 = λ z. ArePieces s ((found ++ more) ++ pieces) (significant (shown_lexemes s false z)) [] in
          subst G (sym (append_assoc x.lexemes y.more rest)) (subst F (sym (append_assoc found more pieces)) joined);
    };
  }

  pub found_on : (before after : LexerState) (stack next : List OpenBlock) (found : List TemplatePiece) (tokens : List Lexeme) (old new : List CodeInstr) (kept : CodePiece) (x : PiecesSoFar delimiters s before stack found) → PieceRead delimiters s before after stack next x.lexemes tokens old new kept → PieceFound delimiters s before after next found tokens old new kept
  found_on before after stack next found tokens old new kept x y = record { piece = y.piece; gone = so_far_on before after stack next found (y.piece ∷ []) x y.reads; keeps = y.keeps; holds = y.holds; code = y.code }

  -- all of them
  pub all_found : (left : LexerState) (stack : List OpenBlock) (found : List TemplatePiece) → PiecesSoFar delimiters s left stack found → left.offset ≡ length s → stack ≡ [] → HasPieces delimiters s found × LeaveOpen [] found []
  all_found left stack found x eof none =
      let reads = x.reads [] [] (refl, eof) refl in
      let F : List TemplatePiece → Type 0 = λ z. ArePieces s z (significant (shown_lexemes s false (x.lexemes ++ []))) [] in
      let G : List Lexeme → Type 0 = λ z. ArePieces s found (significant (shown_lexemes s false z)) [] in
      let H : ℕ → Type 0 = λ n. Cut delimiters s outside 0 x.lexemes outside n in
      let J : List OpenBlock → Type 0 = λ z. LeaveOpen [] found (kinds_of z) in (
        record {
          lexemes = x.lexemes;
          cut = subst H eof (reads_in delimiters s left outside x.lexemes x.between.read_to);
          reads = subst G (append-nil x.lexemes) (subst F (append-nil found) reads);
        },
        subst J none x.leaves,
      )
