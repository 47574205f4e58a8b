-- One piece of a text outside tags: a raw part, a comment or a whole tag, or the first fault.
use Rattle.std.proofs.Common.{◌≡◌, ◌⊎◌, inl, inr, ℕ, ◌<◌, ◌&&◌, List, [], ◌∷◌, ◌++◌, length, Bool, true, false, Option, Some, None, refl, sym, ap, ◌∙◌, subst, arith, codes, append_assoc}
use Rattle.std.proofs.lemmas.Bool.{cases_lt}
use Rattle.std.specs.Str.{IsUtf8}
use Rattle.upon_types.specs.declared.types.Span.{Span}
use Rattle.upon_types.specs.declared.types.token.Token.{Token}
use Rattle.upon_types.specs.declared.types.token.Token.TheVariants.{Raw, BeginExpr, EndExpr, BeginBlock, EndBlock, BeginComment, EndComment}
use Rattle.upon_types.specs.Tree.{raw}
use Rattle.upon_language_spec.specs.Search.{DelimiterText, HasTexts}
use Rattle.upon_language_spec.specs.LiesIn.{HasUtf8}
use Rattle.upon_language_spec.specs.Delimiters.{Sort, expression, block, comment, begin_token, end_token}
use Rattle.upon_language_spec.specs.Raw.{IsRaw}
use Rattle.upon_language_spec.specs.Cut.{Lexeme, Mode, outside, in_tag, in_comment, IsToken, Begins, Ends, Cut, mode_after}
use Rattle.upon_language_spec.specs.InTags.{EachInside, ends_a_tag, StandsFor, EachStands}
use Rattle.upon_language_spec.proofs.NoTreeWithFault.InsideTag.{inside_is_no_comment, inside_is_no_raw, end_leaves, end_is_no_comment, end_is_no_space, shown_same, one_read, kept, no_space_step, spaces_append, raw_then_raw}
use Rattle.upon_language_spec.specs.Shown.{shown_span, shown_lexeme, shown_lexemes, begin_trims, is_end}
use Rattle.upon_language_spec.specs.Tokens.{is_space, is_raw, begins_comment, without_spaces, significant}
use Rattle.upon_language_spec.specs.Reading.{last_of, opens_tag, open_tag, first_span, before_tag}
use Rattle.upon_language_spec.specs.Tags.{IsTag, symbols_of, symbol_of}
use Rattle.upon_language_spec.specs.Faults.{span_of, lexeme_at, tag_tokens}
use Rattle.upon_language_spec.specs.Wanted.{expected_found}
use Rattle.upon_language_spec.specs.LaterFaults.{is_comment_begin, comment_wants}
use Rattle.upon_language_spec.specs.FirstFault.{SyntaxFault, Holds}
use Rattle.upon_language_spec.specs.CutFaults.{ends_cutting}
use Rattle.upon_language_spec.proofs.OneCut.Token.{step_ends, raw_is_no_end}
use Rattle.upon_language_spec.proofs.OneCut.Cut.{cut_ends, cut_joined}
use Rattle.upon_language_spec.specs.LexStep.{BracketsFit}
use Rattle.upon_language_spec.proofs.NoTreeWithFault.BeforeTag.{open_tag_is, open_tag_more, before_tag_more}
use Rattle.upon_language_spec.proofs.NoTreeWithFault.ReadBefore.{Ended, read_before}
use Rattle.upon_language_spec.specs.Blocks.{OpenBlock, Closer, closer_of, takes, open_blocks}
use Rattle.upon_language_spec.specs.ClosingTags.{AllTaken, ReadTagsTaken}
use Rattle.upon_language_spec.proofs.NoTreeWithFault.TagBlocks.{Walks, walks_nothing, walks_one}
use Rattle.upon_language_spec.specs.Parts.{Part, tag_start, a_base, filters, end_expr, block_word, after_symbol, Path}
use Rattle.upon_language_spec.proofs.Totality.FittingClears.{fitting_clears}
use Rattle.upon_language_spec.proofs.Totality.InsideClear.{from_more, last_more}
use Rattle.upon_language_spec.specs.Stages.{Stage, TagAt}
use Rattle.upon_language_spec.proofs.Totality.Stage.{on, outside_is_clear, comment_is_clear, empty_is_first, comment_eof_is_first}
use Rattle.upon_language_spec.proofs.Totality.NextOrFault.{Next, next_or_fault}
use Rattle.upon_language_spec.specs.OpenParts.{is_open}
use Rattle.upon_language_spec.proofs.Totality.LiteralHere.{Fault}
use Rattle.upon_language_spec.proofs.Totality.WholeTag.{first_stays, ThroughTag, through_tag, ended_tag}
use Rattle.upon_language_spec.proofs.Totality.BlockEnd.{block_end}
use Rattle.upon_language_spec.proofs.Totality.BlockTrees.{EndsBlocks, statement_first}
use Rattle.upon_language_spec.proofs.Totality.OpenBlocks.{blocks_append, taken_append, tag_step}
use Rattle.upon_language_spec.proofs.NoTreeWithFault.Tag.{end_is_no_raw}

-- ---- what is read of a tag's tokens
abbrev pub Plain : List Lexeme → Type 0
Plain [] = Unit {0}
Plain (l ∷ ls) = (is_raw l.token ≡ false) × (begins_comment l.token ≡ false) × Plain ls

pub plain_inside : (ls : List Lexeme) → EachInside ls → Plain ls
plain_inside [] each = tt
plain_inside (l ∷ ls) each = (inside_is_no_raw l.token each.0, inside_is_no_comment l.token each.0, plain_inside ls each.1)

joined_spaces : (x : Lexeme) (xs ys : List Lexeme) → without_spaces (x ∷ []) ++ (without_spaces xs ++ ys) ≡ without_spaces (x ∷ xs) ++ ys
joined_spaces x xs ys = sym (append_assoc (without_spaces (x ∷ [])) (without_spaces xs) ys) ∙ ap (λ (z : List Lexeme). z ++ ys) (sym (spaces_append (x ∷ []) xs))

pub plain_read : (xs ys : List Lexeme) → Plain xs → significant (xs ++ ys) ≡ without_spaces xs ++ significant ys
plain_read [] ys h = refl
plain_read (x ∷ xs) ys h = one_read (is_space x.token) x (xs ++ ys) refl h.1 ∙ ap (λ (z : List Lexeme). without_spaces (x ∷ []) ++ z) (plain_read xs ys h.2) ∙ joined_spaces x xs (significant ys)

pub shown_read : (s : List ℕ) (later : Bool) (xs ys : List Lexeme) → Plain xs → (later' : Bool) × (significant (shown_lexemes s later (xs ++ ys)) ≡ without_spaces xs ++ significant (shown_lexemes s later' ys))
shown_read s later [] ys h = (later, refl)
shown_read s later (x ∷ xs) ys h =
    let others = shown_read s (is_end x.token && x.hyphen) xs ys h.2 in
    let left = shown_lexemes s (is_end x.token && x.hyphen) (xs ++ ys) in (
      others.0,
      ap (λ (z : Lexeme). significant (z ∷ left)) (shown_same s later (begin_trims (xs ++ ys)) x.token x h.0) ∙ one_read (is_space x.token) x left refl h.1
          ∙ ap (λ (z : List Lexeme). without_spaces (x ∷ []) ++ z) others.1 ∙ joined_spaces x xs (significant (shown_lexemes s others.0 ys)),
    )

pub shown_end : (s : List ℕ) (later : Bool) (end : Lexeme) (sort : Sort) (rest : List Lexeme) → end.token ≡ end_token sort → significant (shown_lexemes s later (end ∷ rest)) ≡ end ∷ significant (shown_lexemes s (is_end end.token && end.hyphen) rest)
shown_end s later end sort rest t =
    let left = shown_lexemes s (is_end end.token && end.hyphen) rest in
    ap (λ (z : Lexeme). significant (z ∷ left)) (shown_same s later (begin_trims rest) end.token end (ap is_raw t ∙ end_is_no_raw sort))
    ∙ kept end left (ap is_space t ∙ end_is_no_space sort) (ap begins_comment t ∙ end_is_no_comment sort)

-- one piece further
pub record Piece (delimiters : List DelimiterText) (s : List ℕ) (ls : List Lexeme) (p : ℕ) : Type 0 where
  pub piece : List Lexeme
  pub q : ℕ
  pub further : p < q
  pub cut : Cut delimiters s outside p piece outside q
  pub stage : Stage delimiters s (ls ++ piece) outside q
  pub known : ReadTagsTaken s (ls ++ piece)
  pub back : (later : Bool) (rest : List Lexeme) → ((later' : Bool) → EndsBlocks s (open_blocks s (significant (ls ++ piece))) (significant (shown_lexemes s later' rest)))
      → EndsBlocks s (open_blocks s (significant ls)) (significant (shown_lexemes s later (piece ++ rest)))

module _ (delimiters : List DelimiterText) (s : List ℕ) (ls : List Lexeme) (p : ℕ) (stage : Stage delimiters s ls outside p) (known : ReadTagsTaken s ls) where
  module _ (piece all : List Lexeme) (is : significant piece ≡ all) (stack : List OpenBlock) (walks : Walks s (open_blocks s (significant ls)) all stack []) where
    tokens : significant (ls ++ piece) ≡ significant ls ++ all
    tokens = (read_before delimiters s 0 p ls piece stage.reads).0 ∙ ap (λ (x : List Lexeme). significant ls ++ x) is

    ended : Ended (significant ls)
    ended = (read_before delimiters s 0 p ls piece stage.reads).1

    blocks_on : open_blocks s (significant (ls ++ piece)) ≡ stack
    blocks_on = ap (open_blocks s) tokens ∙ blocks_append s [] (significant ls) all ended known ∙ walks.0

    known_on : ReadTagsTaken s (ls ++ piece)
    known_on = let F : List Lexeme → Type 0 = λ x. AllTaken s [] x in subst F (sym tokens) (taken_append s [] (significant ls) all ended known (walks.1 tt))

    build : (q : ℕ) → p < q → Cut delimiters s outside p piece outside q → Stage delimiters s (ls ++ piece) outside q
        → ((later : Bool) (rest : List Lexeme) → ((later' : Bool) → EndsBlocks s stack (significant (shown_lexemes s later' rest))) → EndsBlocks s (open_blocks s (significant ls)) (significant (shown_lexemes s later (piece ++ rest))))
        → Piece delimiters s ls p
    build q further cut after back = record {
      piece = piece;
      q = q;
      further = further;
      cut = cut;
      stage = after;
      known = known_on;
      back = λ later rest h. back later rest (λ later'. let F : List OpenBlock → Type 0 = λ x. EndsBlocks s x (significant (shown_lexemes s later' rest)) in subst F blocks_on (h later'));
    }

begin_fits : (sort : Sort) → BracketsFit [] (begin_token sort)
begin_fits expression = tt
begin_fits block = tt
begin_fits comment = tt

module _ (delimiters : List DelimiterText) (s : List ℕ) (texts : HasTexts delimiters) (utf8 : HasUtf8 delimiters) (text : IsUtf8 s) (ls : List Lexeme) (p : ℕ) (stage : Stage delimiters s ls outside p) (known : ReadTagsTaken s ls) (below : p < length s) where
  abbrev Result : Type 0
  Result = Fault delimiters s ⊎ Piece delimiters s ls p

  clear : (row : SyntaxFault) (place : Span) (reason : List ℕ) → ends_cutting row ≡ false → Holds delimiters s row p place reason → ⊥
  clear = outside_is_clear delimiters s texts ls outside p stage refl below

  -- ---- a raw part
  raw_piece : (to : ℕ) → IsRaw delimiters s p to → Piece delimiters s ls p
  raw_piece to is =
      let l = lexeme_at Raw false p to in
      let a = open_blocks s (significant ls) in
      build delimiters s ls p stage known (l ∷ []) (l ∷ []) refl a (walks_one s Raw (span_of p to) a (l ∷ []) [] refl (record { lexeme = l; is = refl; of_token = refl; at = refl })) to is.some (refl, inl (refl, refl, is), (refl, refl))
      (on delimiters s texts ls outside p stage Raw false to (inl (refl, refl, is)) tt clear)
      (λ later rest h.
      let at = shown_span s later (begin_trims rest) (span_of p to) in
      let x = shown_lexeme s later (begin_trims rest) Raw l in
      let left = significant (shown_lexemes s false rest) in
      statement_first s a (raw at) (x ∷ left) left (record { lexeme = x; is = refl; of_token = refl; at = refl }) (h false))

  -- ---- a begin
  behind_begin : (sort : Sort) (hyphen : Bool) (to : ℕ) → Begins delimiters s sort hyphen p to → Stage delimiters s (ls ++ lexeme_at (begin_token sort) hyphen p to ∷ []) (mode_after outside (begin_token sort)) to
  behind_begin sort hyphen to begins = on delimiters s texts ls outside p stage (begin_token sort) hyphen to (inr (sort, refl, begins)) (begin_fits sort) clear

  begin_further : (sort : Sort) (hyphen : Bool) (to : ℕ) → Begins delimiters s sort hyphen p to → p < to
  begin_further sort hyphen to begins = let ends = step_ends delimiters s outside (begin_token sort) hyphen p to texts (inr (sort, refl, begins)) in ends.0

  tag_at : (sort : Sort) (hyphen : Bool) (to : ℕ) → opens_tag (begin_token sort) ≡ true → is_space (begin_token sort) ≡ false → (ps : List Part) → after_symbol (tag_start ∷ []) (symbol_of s (lexeme_at (begin_token sort) hyphen p to)) ≡ Some ps → is_open ps ≡ true
      → StandsFor s None (begin_token sort) (lexeme_at (begin_token sort) hyphen p to) → Stage delimiters s (ls ++ lexeme_at (begin_token sort) hyphen p to ∷ []) (in_tag sort false) to → TagAt delimiters s sort (ls ++ lexeme_at (begin_token sort) hyphen p to ∷ []) false to
  tag_at sort hyphen to opens no_space ps leads still fine behind_it =
      let l = lexeme_at (begin_token sort) hyphen p to in
      let opened : open_tag (ls ++ l ∷ []) ≡ l ∷ [] = open_tag_is ls l [] opens tt in
      let tokens : tag_tokens (ls ++ l ∷ []) ≡ l ∷ [] = ap without_spaces opened ∙ no_space_step l [] no_space in
      let F : List Lexeme → Type 0 = λ x. Path (tag_start ∷ []) (symbols_of s x) ps in
      let G : List Lexeme → Type 0 = λ x. EachStands s None x in
      record {
        stage = behind_it;
        ps = ps;
        occurs = subst F (sym tokens) (ps, leads, refl);
        still = still;
        each = subst G (sym tokens) (fine, tt);
        begin = span_of p to;
        opening = ap first_span opened;
      }

  -- ---- a whole tag
  module _ (sort : Sort) (hyphen : Bool) (to : ℕ) (begins : Begins delimiters s sort hyphen p to) (mode : mode_after outside (begin_token sort) ≡ in_tag sort false) (opens : opens_tag (begin_token sort) ≡ true) (no_raw : is_raw (begin_token sort) ≡ false) (no_comment : begins_comment (begin_token sort) ≡ false)
      (ends_tag : ends_a_tag (end_token sort) ≡ true) (r : ThroughTag delimiters s texts utf8 text sort (ls ++ lexeme_at (begin_token sort) hyphen p to ∷ []) false to) where
    abbrev l : Lexeme
    l = lexeme_at (begin_token sort) hyphen p to

    abbrev so_far : List Lexeme
    so_far = (ls ++ l ∷ []) ++ r.inner

    abbrev tag : List Lexeme
    tag = l ∷ r.inner

    abbrev end : Lexeme
    end = lexeme_at (end_token sort) r.end.hyphen r.q r.end.to

    abbrev all : List Lexeme
    all = without_spaces tag ++ end ∷ []

    so_far_is : so_far ≡ ls ++ tag
    so_far_is = append_assoc ls (l ∷ []) r.inner

    tokens_are : tag_tokens so_far ≡ without_spaces tag
    tokens_are = ap without_spaces (open_tag_more ls l r.inner opens r.each)

    before_is : before_tag so_far ≡ ls
    before_is = before_tag_more ls l r.inner opens r.each

    is_whole : IsTag s all []
    is_whole = let F : List Lexeme → Type 0 = λ x. IsTag s (x ++ end ∷ []) [] in subst F tokens_are (ended_tag delimiters s texts utf8 text sort so_far r.path' r.q r.end ends_tag)

    plain : Plain tag
    plain = (no_raw, no_comment, plain_inside r.inner r.each)

    piece_is : significant (tag ++ end ∷ []) ≡ all
    piece_is = plain_read tag (end ∷ []) plain ∙ ap (λ (x : List Lexeme). without_spaces tag ++ x) (kept end [] (end_is_no_space sort) (end_is_no_comment sort))

    shown_piece : (later : Bool) (rest : List Lexeme) → (later' : Bool) × (significant (shown_lexemes s later ((tag ++ end ∷ []) ++ rest)) ≡ all ++ significant (shown_lexemes s later' rest))
    shown_piece later rest =
        let x = shown_read s later tag (end ∷ rest) plain in
        let later' = is_end end.token && end.hyphen in (
          later',
          ap (λ (y : List Lexeme). significant (shown_lexemes s later y)) (append_assoc tag (end ∷ []) rest) ∙ x.1 ∙ ap (λ (y : List Lexeme). without_spaces tag ++ y) (shown_end s x.0 end sort rest refl)
              ∙ sym (append_assoc (without_spaces tag) (end ∷ []) (significant (shown_lexemes s later' rest))),
        )

    piece_cut : Cut delimiters s outside p (tag ++ end ∷ []) outside r.end.to
    piece_cut =
        let F : Mode → Type 0 = λ m. Cut delimiters s m to r.inner (in_tag sort r.path') r.q in
        cut_joined delimiters s outside (in_tag sort r.path') outside p r.q r.end.to tag (end ∷ []) (refl, inr (sort, refl, begins), subst F (sym mode) r.cut) (refl, inl (refl, r.end.ends), (end_leaves (in_tag sort r.path') sort, refl))

    piece_further : p < r.end.to
    piece_further =
        let first = begin_further sort hyphen to begins in
        let ends = step_ends delimiters s (in_tag sort r.path') (end_token sort) r.end.hyphen r.q r.end.to texts (inl (refl, r.end.ends)) in
        let within = cut_ends delimiters s texts outside outside p r.end.to (tag ++ end ∷ []) (omega (arith, below)) piece_cut in
        let inside = cut_ends delimiters s texts (in_tag sort false) (in_tag sort r.path') to r.q r.inner (omega (arith, ends.0, ends.1, (step_ends delimiters s outside (begin_token sort) hyphen p to texts (inr (sort, refl, begins))).1)) r.cut in
        omega (arith, first, ends.0, inside.0)

    tag_piece : Stage delimiters s (so_far ++ end ∷ []) outside r.end.to → ((closer : Closer) → closer_of s all ≡ Some closer → takes (open_blocks s (significant ls)) closer ≡ true) → Piece delimiters s ls p
    tag_piece after taken =
        let step = tag_step s all (open_blocks s (significant ls)) is_whole taken in
        let F : List Lexeme → Type 0 = λ x. Stage delimiters s x outside r.end.to in
        build delimiters s ls p stage known (tag ++ end ∷ []) all piece_is step.stack step.walks r.end.to piece_further piece_cut
        (subst F (ap (λ (x : List Lexeme). x ++ end ∷ []) so_far_is ∙ append_assoc ls tag (end ∷ [])) after)
        (λ later rest h.
        let x = shown_piece later rest in
        let G : List Lexeme → Type 0 = λ y. EndsBlocks s (open_blocks s (significant ls)) y in
        subst G (sym x.1) (step.back (significant (shown_lexemes s x.0 rest)) (h x.0)))

  no_close : (l : Lexeme) (x : List Lexeme) → l.token ≡ BeginExpr → closer_of s (l ∷ x) ≡ None
  no_close l [] t = refl
  no_close l (k ∷ x) t = ap (λ (u : Token). elim u as (λ _. Option Closer) [ BeginBlock ↦ closer_of s (lexeme_at BeginBlock false 0 0 ∷ k ∷ x) | _ ↦ None ]) t

  expression_tag : (hyphen : Bool) (to : ℕ) → Begins delimiters s expression hyphen p to → Result
  expression_tag hyphen to begins = by_through (through_tag delimiters s texts utf8 text expression (length s) (ls ++ lexeme_at BeginExpr hyphen p to ∷ []) false to (let below_it = begin_further expression hyphen to begins in omega (arith, below_it))
      (tag_at expression hyphen to refl refl (a_base ∷ filters ∷ end_expr ∷ []) refl refl tt (behind_begin expression hyphen to begins)))
    where
      by_through : Fault delimiters s ⊎ ThroughTag delimiters s texts utf8 text expression (ls ++ lexeme_at BeginExpr hyphen p to ∷ []) false to → Result
      by_through (inl fault) = inl fault
      by_through (inr r) =
          let so_far = (ls ++ lexeme_at BeginExpr hyphen p to ∷ []) ++ r.inner in
          let e = r.end in
          let step : IsToken delimiters s (in_tag expression r.path') EndExpr e.hyphen r.q e.to = inl (refl, e.ends) in
          let after = on delimiters s texts so_far (in_tag expression r.path') r.q e.tag.stage EndExpr e.hyphen e.to step e.brackets (fitting_clears delimiters s texts expression r.path' r.q e.to so_far EndExpr e.hyphen e.tag.stage.reads step (record {
            ps = e.tag.ps;
            occurs = e.tag.occurs;
            next = e.next;
            fits = λ c. e.leads;
            number = λ n. absurd cc;
            index = λ n. absurd cc;
            string = λ n. absurd cc;
            taken = λ n. absurd cc;
          })) in
          inr (tag_piece expression hyphen to begins refl refl refl refl refl r after (λ closer k.
          let none = no_close (lexeme_at BeginExpr hyphen p to) (without_spaces r.inner ++ lexeme_at EndExpr e.hyphen r.q e.to ∷ []) refl in
          cc))

  block_tag : (hyphen : Bool) (to : ℕ) → Begins delimiters s block hyphen p to → Result
  block_tag hyphen to begins = by_through (through_tag delimiters s texts utf8 text block (length s) (ls ++ lexeme_at BeginBlock hyphen p to ∷ []) false to (let below_it = begin_further block hyphen to begins in omega (arith, below_it))
      (tag_at block hyphen to refl refl (block_word ∷ []) refl refl tt (behind_begin block hyphen to begins)))
    where
      by_end : (r : ThroughTag delimiters s texts utf8 text block (ls ++ lexeme_at BeginBlock hyphen p to ∷ []) false to)
          → Fault delimiters s ⊎ (((closer : Closer) → closer_of s (tag_tokens ((ls ++ lexeme_at BeginBlock hyphen p to ∷ []) ++ r.inner) ++ lexeme_at EndBlock r.end.hyphen r.q r.end.to ∷ []) ≡ Some closer → takes (open_blocks s (significant (before_tag ((ls ++ lexeme_at BeginBlock hyphen p to ∷ []) ++ r.inner)))) closer ≡ true)
          × Stage delimiters s (((ls ++ lexeme_at BeginBlock hyphen p to ∷ []) ++ r.inner) ++ lexeme_at EndBlock r.end.hyphen r.q r.end.to ∷ []) outside r.end.to) → Result
      by_end r (inl fault) = inl fault
      by_end r (inr (taken, after)) = inr (tag_piece block hyphen to begins refl refl refl refl refl r after (λ closer k.
          ap (λ (x : List Lexeme). takes (open_blocks s (significant x)) closer) (sym (before_is block hyphen to begins refl refl refl refl refl r))
          ∙ taken closer (ap (λ (x : List Lexeme). closer_of s (x ++ lexeme_at EndBlock r.end.hyphen r.q r.end.to ∷ [])) (tokens_are block hyphen to begins refl refl refl refl refl r) ∙ k)))

      by_through : Fault delimiters s ⊎ ThroughTag delimiters s texts utf8 text block (ls ++ lexeme_at BeginBlock hyphen p to ∷ []) false to → Result
      by_through (inl fault) = inl fault
      by_through (inr r) = by_end r (block_end delimiters s texts utf8 text ((ls ++ lexeme_at BeginBlock hyphen p to ∷ []) ++ r.inner) r.path' r.q r.end)

  -- ---- a comment
  comment_ends : (cs : List Lexeme) (q : ℕ) → Stage delimiters s cs in_comment q → q ≡ length s → Fault delimiters s
  comment_ends cs q at eof =
      let reason = expected_found (comment_wants (is_comment_begin (last_of cs))) (codes "EOF") in
      (span_of q q, reason, comment_eof_is_first delimiters s texts cs in_comment q at refl eof (span_of q q) reason (record { lexemes = cs; reads = at.reads; eof = eof; at = refl; words = refl }))

  module _ (hyphen : Bool) (to : ℕ) (begins : Begins delimiters s comment hyphen p to) where
    abbrev b : Lexeme
    b = lexeme_at BeginComment hyphen p to

    at_begin : Stage delimiters s (ls ++ b ∷ []) in_comment to
    at_begin = behind_begin comment hyphen to begins

    opened : open_tag (ls ++ b ∷ []) ≡ b ∷ []
    opened = open_tag_is ls b [] refl tt

    -- its end after the raw part
    comment_piece : (n : ℕ) → IsRaw delimiters s to n → Stage delimiters s ((ls ++ b ∷ []) ++ lexeme_at Raw false to n ∷ []) in_comment n → (other : Bool) (m : ℕ) → Ends delimiters s comment other n m → Piece delimiters s ls p
    comment_piece n is at other m ends =
        let r = lexeme_at Raw false to n in
        let e = lexeme_at EndComment other n m in
        let cs = (ls ++ b ∷ []) ++ r ∷ [] in
        let a = open_blocks s (significant ls) in
        let extent = step_ends delimiters s in_comment EndComment other n m texts (inr (refl, ends)) in
        let last : is_comment_begin (last_of cs) ≡ false = ap is_comment_begin (last_more (ls ++ b ∷ []) r) in
        let after = on delimiters s texts cs in_comment n at EndComment other m (inr (refl, ends)) refl (comment_is_clear delimiters s texts cs in_comment n at refl (omega (arith, extent.0, extent.1)) (λ h. absurd cc)) in
        let F : List Lexeme → Type 0 = λ x. Stage delimiters s x outside m in
        build delimiters s ls p stage known (b ∷ r ∷ e ∷ []) [] refl a (walks_nothing s a [] [] refl) m (let first = begin_further comment hyphen to begins in omega (arith, first, is.some, extent.0))
        (refl, inr (comment, refl, begins), (refl, inl (refl, refl, is), (refl, inr (refl, ends), (refl, refl))))
        (subst F (append_assoc (ls ++ b ∷ []) (r ∷ []) (e ∷ []) ∙ append_assoc ls (b ∷ []) (r ∷ e ∷ [])) after)
        (λ later rest h. h other)

    behind_raw : (n : ℕ) → IsRaw delimiters s to n → Result
    behind_raw n is = elim (cases_lt n (length s)) [
      | inl inside ↦ by_next (next_or_fault delimiters s texts utf8 text cs in_comment n at (inr (span_of p to, comment, refl, begun)) inside)
      | inr above ↦ inl (comment_ends cs n at (omega (arith, above, is.within)))
    ]
      where
        cs : List Lexeme
        cs = (ls ++ b ∷ []) ++ lexeme_at Raw false to n ∷ []

        at : Stage delimiters s cs in_comment n
        at = on delimiters s texts (ls ++ b ∷ []) in_comment to at_begin Raw false n (inl (refl, refl, is)) tt (comment_is_clear delimiters s texts (ls ++ b ∷ []) in_comment to at_begin refl (omega (arith, is.some, is.within)) (λ h other k ends. raw_is_no_end delimiters s to n k other is ends))

        begun : first_span (open_tag cs) ≡ Some (span_of p to)
        begun = ap first_span (from_more [] (ls ++ b ∷ []) (lexeme_at Raw false to n) refl) ∙ first_stays (open_tag (ls ++ b ∷ [])) (lexeme_at Raw false to n ∷ []) (span_of p to) (ap first_span opened)

        by_step : (t : Token) (other : Bool) (m : ℕ) → IsToken delimiters s in_comment t other n m → Result
        by_step t other m (inl again) = absurd (raw_then_raw delimiters s to n m is again.2)
        by_step t other m (inr end) = inr (comment_piece n is at other m end.1)

        by_next : Fault delimiters s ⊎ Next delimiters s cs in_comment n → Result
        by_next (inl fault) = inl fault
        by_next (inr next) = by_step next.t next.hyphen next.to next.step

    comment_tag : Result
    comment_tag = elim (cases_lt to (length s)) [
      | inl inside ↦ by_next (next_or_fault delimiters s texts utf8 text (ls ++ b ∷ []) in_comment to at_begin (inr (span_of p to, comment, refl, ap first_span opened)) inside)
      | inr above ↦ inl (comment_ends (ls ++ b ∷ []) to at_begin (omega (arith, above, (cut_ends delimiters s texts outside in_comment 0 to (ls ++ b ∷ []) (omega arith) at_begin.reads).1)))
    ]
      where
        by_step : (t : Token) (other : Bool) (m : ℕ) → IsToken delimiters s in_comment t other to m → Result
        by_step t other m (inl is) = behind_raw m is.2
        by_step t other m (inr end) =
            let reason = expected_found (codes "raw template") (codes "end comment") in
            inl (
              span_of to m,
              reason,
              empty_is_first delimiters s texts (ls ++ b ∷ []) in_comment to at_begin refl (span_of to m) reason (record {
                lexemes = ls ++ b ∷ [];
                reads = at_begin.reads;
                opening = ap is_comment_begin (last_more ls b);
                hyphen = other;
                to = m;
                ends = end.1;
                at = refl;
                words = refl;
              }),
            )

        by_next : Fault delimiters s ⊎ Next delimiters s (ls ++ b ∷ []) in_comment to → Result
        by_next (inl fault) = inl fault
        by_next (inr next) = by_step next.t next.hyphen next.to next.step

  -- ---- the piece that is there
  pub one_piece : Result
  one_piece = by_next (next_or_fault delimiters s texts utf8 text ls outside p stage (inl refl) below)
    where
      by_sort : (sort : Sort) (hyphen : Bool) (to : ℕ) → Begins delimiters s sort hyphen p to → Result
      by_sort expression hyphen to begins = expression_tag hyphen to begins
      by_sort block hyphen to begins = block_tag hyphen to begins
      by_sort comment hyphen to begins = comment_tag hyphen to begins

      by_step : (t : Token) (hyphen : Bool) (to : ℕ) → IsToken delimiters s outside t hyphen p to → Result
      by_step t hyphen to (inl is) = inr (raw_piece to is.2)
      by_step t hyphen to (inr b) = by_sort b.0 hyphen to b.2

      by_next : Fault delimiters s ⊎ Next delimiters s ls outside p → Result
      by_next (inl fault) = inl fault
      by_next (inr next) = by_step next.t next.hyphen next.to next.step
