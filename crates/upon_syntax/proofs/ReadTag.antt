-- The tokens inside a tag that was read: which fault is the first where they go no further, and the whole tag.
use Rattle.std.proofs.Common.{◌≡◌, inr, ℕ, ◌+◌, List, [], ◌∷◌, ◌++◌, length, Bool, true, false, Option, Some, None, refl, sym, ap, ◌∙◌, subst, arith, codes, if◌then◌else◌}
use Rattle.upon_types.specs.declared.types.Span.{Span}
use Rattle.upon_types.specs.declared.types.token.Token.{Token}
use Rattle.upon_types.specs.declared.types.token.Token.TheVariants.{Index, Number, String}
use Rattle.upon_types.specs.Span.{slice}
use Rattle.upon_language_spec.specs.Search.{DelimiterText}
use Rattle.upon_language_spec.specs.Delimiters.{Sort, expression, block, comment, begin_token}
use Rattle.upon_language_spec.specs.Cut.{Lexeme, Mode, outside, in_tag, IsToken, mode_after, Cut}
use Rattle.upon_language_spec.specs.Inside.{IsInside, in_path_after}
use Rattle.upon_language_spec.specs.Tokens.{is_space, without_spaces}
use Rattle.upon_language_spec.specs.Tags.{symbol_of, symbols_of, word_of}
use Rattle.upon_language_spec.specs.Reading.{ReadsTo, last_of, opens_tag, from_begin, open_tag}
use Rattle.upon_language_spec.specs.Faults.{span_of, lexeme_at, tag_tokens}
use Rattle.upon_language_spec.specs.LaterFaults.{Report, number_report}
use Rattle.upon_language_spec.specs.CutFaults.{ClearTo, IsFirstCutFault}
use Rattle.upon_language_spec.specs.FirstFault.{wrong_number, wrong_index, wrong_escape, IsFirstFault}
use Rattle.upon_language_spec.specs.Lexing.{LexerState}
use Rattle.upon_language_spec.specs.Parts.{Part, tag_start, after_symbol, Path, wanted_at}
use Rattle.upon_language_spec.specs.Wanted.{Wanted, reason_for, wanted_at_end, expected_found}
use Rattle.upon_language_spec.specs.InTags.{last_or, EachInside}
use Rattle.upon_language_spec.proofs.NoTreeWithFault.InsideTag.{inside_stays, no_space_step, spaces_append}
use Rattle.upon_language_spec.proofs.NoTreeWithFault.NextToken.{begin_is_no_space}
use Rattle.upon_language_spec.proofs.NoTreeWithFault.SplitInTag.{last_is}
use Rattle.upon_language_spec.proofs.NoTreeWithFault.BeforeTag.{inner_from}
use Rattle.upon_language_spec.proofs.OneCut.Cut.{cut_ends}
use Rattle.upon_language_spec.proofs.OneCut.Token.{step_ends}
use Rattle.upon_language_spec.specs.OpenParts.{StandsAt}
use Rattle.upon_language_spec.specs.Stages.{AllClear, Stage}
use Rattle.upon_language_spec.proofs.Totality.FittingClears.{stuck_end}
use Rattle.upon_language_spec.proofs.Totality.First.{first_at, cut_is_first, end_is_first}
use Rattle.upon_language_spec.proofs.Totality.LiteralHere.{begins, least, least_index, least_escape}
use Rattle.upon_language_spec.proofs.Totality.InsideClear.{LiteralsFine, inside_clear, stuck_is_first, split_spaces}
use Rattle.upon_syntax.specs.declared.compile.parse.tag_tokens.Ended.{Ended}
use Rattle.upon_tag_parser.specs.TagTokens.{EachTagToken}
use Rattle.upon_syntax.specs.TagEnds.{DenotesNothing}
use Rattle.upon_syntax.specs.TagFaults.{TagWasRead}
use Rattle.upon_syntax.proofs.CutParts.{TwoCuts, cut_split, cut_rest}

-- ---- literals are fine after the tag's begin too, which is no sign
begin_report : (sort : Sort) (begin : Lexeme) (text : List ℕ) (p n : ℕ) → begin.token ≡ begin_token sort → number_report text None p n ≡ number_report text (Some begin) p n
begin_report sort begin text p n e = by_sort sort e
  where
    plain : (t : Token) → begin.token ≡ t → number_report text None p n ≡ number_report text (Some (record { token = t; hyphen = begin.hyphen; span = begin.span })) p n → number_report text None p n ≡ number_report text (Some begin) p n
    plain t e h = h ∙ ap (λ (u : Token). number_report text (Some (record { token = u; hyphen = begin.hyphen; span = begin.span })) p n) (sym e)

    by_sort : (x : Sort) → begin.token ≡ begin_token x → number_report text None p n ≡ number_report text (Some begin) p n
    by_sort expression e = plain (begin_token expression) e refl
    by_sort block e = plain (begin_token block) e refl
    by_sort comment e = plain (begin_token comment) e refl

all_fine : (s : List ℕ) (before : Option Lexeme) (tokens : List Lexeme) → EachTagToken s before tokens → LiteralsFine s before tokens
all_fine s before [] each = tt
all_fine s before (l ∷ ls) each = (each.0.fine, all_fine s (Some l) ls each.1)

pub fine_after : (s : List ℕ) (sort : Sort) (begin : Lexeme) (tokens : List Lexeme) → begin.token ≡ begin_token sort → EachTagToken s None tokens → LiteralsFine s (Some begin) tokens
fine_after s sort begin [] e each = tt
fine_after s sort begin (l ∷ ls) e each = (
  record {
    number = λ n. sym (begin_report sort begin (slice s l.span) l.span.m l.span.n e) ∙ each.0.fine.number n;
    index = each.0.fine.index;
    string = each.0.fine.string;
  },
  all_fine s (Some l) ls each.1,
)

-- tokens after no token are tokens after the tag's begin
pub each_after : (s : List ℕ) (sort : Sort) (begin : Lexeme) (tokens : List Lexeme) → begin.token ≡ begin_token sort → EachTagToken s None tokens → EachTagToken s (Some begin) tokens
each_after s sort begin [] e each = tt
each_after s sort begin (l ∷ ls) e each = (record { inside = each.0.inside; lies = each.0.lies; quoted = each.0.quoted; digits = each.0.digits; fine = (fine_after s sort begin (l ∷ ls) e each).0 }, each.1)

-- the open tag goes on with the tokens inside it
pub from_all : (acc ks ms : List Lexeme) → EachInside ms → from_begin acc (ks ++ ms) ≡ from_begin acc ks ++ ms
from_all acc [] ms h = inner_from acc ms h
from_all acc (k ∷ ks) ms h = by_begin (opens_tag k.token) (λ x. from_all x ks ms h)
  where
    by_begin : (b : Bool) → ((x : List Lexeme) → from_begin x (ks ++ ms) ≡ from_begin x ks ++ ms) → (if b then from_begin (k ∷ []) (ks ++ ms) else from_begin (acc ++ k ∷ []) (ks ++ ms)) ≡ (if b then from_begin (k ∷ []) ks else from_begin (acc ++ k ∷ []) ks) ++ ms
    by_begin true others = others (k ∷ [])
    by_begin false others = others (acc ++ k ∷ [])

-- inside a tag the mode stays that of the tag
inside_mode : (delimiters : List DelimiterText) (s : List ℕ) (sort : Sort) (path : Bool) (mode : Mode) (m n : ℕ) (ls : List Lexeme) → EachInside ls → Cut delimiters s (in_tag sort path) m ls mode n → (path' : Bool) × (mode ≡ in_tag sort path')
inside_mode delimiters s sort path mode m n [] h cut = (path, sym cut.0)
inside_mode delimiters s sort path mode m n (l ∷ ls) h cut =
    let F : Mode → Type 0 = λ x. Cut delimiters s x l.span.n ls mode n in
    inside_mode delimiters s sort (in_path_after path l.token) mode l.span.n n ls h.1 (subst F (inside_stays sort path l.token h.0) cut.2)

module _ (delimiters : List DelimiterText) (s : List ℕ) (sort : Sort) (ls : List Lexeme) (from : List Part) (tokens : List Lexeme) (after : LexerState) (ended : Ended) (t : TagWasRead delimiters s sort ls from tokens after ended) where
  abbrev pub left : LexerState
  left = t.reads.left

  abbrev pub inner : List Lexeme
  inner = t.reads.reads.inner

  abbrev pub path : Bool
  path = t.reads.reads.path

  pub one_token : tag_tokens ls ≡ t.begin ∷ []
  one_token = ap without_spaces t.opened ∙ no_space_step t.begin [] (ap is_space t.begins ∙ begin_is_no_space sort)

  stands : StandsAt s ls from
  stands =
      let F : List Lexeme → Type 0 = λ x. Path (tag_start ∷ []) (symbols_of s x) from in
      subst F (sym one_token) (from, t.starts, refl)

  pub reads_on : ReadsTo delimiters s (ls ++ inner) (in_tag sort path) left.offset
  reads_on = let F : Mode → Type 0 = λ m. ReadsTo delimiters s (ls ++ inner) m left.offset in subst F t.reads.reads.mode t.reads.reads.read.reads

  pub cut : Cut delimiters s (in_tag sort false) t.start inner (in_tag sort path) left.offset
  cut = cut_rest delimiters s outside (in_tag sort false) (in_tag sort path) 0 t.start left.offset ls inner t.stage.reads reads_on

  fine : LiteralsFine s (last_of (tag_tokens ls)) (without_spaces inner)
  fine =
      let F : Option Lexeme → List Lexeme → Type 0 = λ o x. LiteralsFine s o x in
      subst (λ o. F o (without_spaces inner)) (sym (ap last_of one_token)) (subst (λ x. F (Some t.begin) x) (sym t.reads.reads.same) (fine_after s sort t.begin tokens t.begins t.each))

  clear : ClearTo delimiters s left.offset
  clear = t.reads.reads.read.clear

  -- a token among those read may not be there
  pub stuck_inside : (read others : List Lexeme) (l : Lexeme) (to : List Part) (w : Wanted) → tokens ≡ read ++ l ∷ others → Path from (symbols_of s read) to → is_space l.token ≡ false → after_symbol to (symbol_of s l) ≡ None → wanted_at to ≡ Some w → IsFirstFault delimiters s l.span (reason_for w l.token (word_of s l.token l.span))
  stuck_inside read others l to w e leads counts refused wanted =
      let (pre, post, joins, front) = split_spaces inner read others l (t.reads.reads.same ∙ e) in
      let F : List Lexeme → Type 0 = λ x. Cut delimiters s (in_tag sort false) t.start x (in_tag sort path) left.offset in
      at_split pre post front (cut_split delimiters s (in_tag sort false) (in_tag sort path) t.start left.offset pre (l ∷ post) (subst F joins cut)) (inside_split pre post joins) (fine_split pre post joins)
    where
      inside_front : (xs ys : List Lexeme) → EachInside (xs ++ ys) → EachInside xs
      inside_front [] ys h = tt
      inside_front (x ∷ xs) ys h = (h.0, inside_front xs ys h.1)

      inside_split : (pre post : List Lexeme) → inner ≡ pre ++ l ∷ post → EachInside pre
      inside_split pre post joins = let F : List Lexeme → Type 0 = λ x. EachInside x in inside_front pre (l ∷ post) (subst F joins t.reads.reads.each)

      fine_front : (o : Option Lexeme) (xs ys : List Lexeme) → LiteralsFine s o (xs ++ ys) → LiteralsFine s o xs
      fine_front o [] ys h = tt
      fine_front o (x ∷ xs) ys h = (h.0, fine_front (Some x) xs ys h.1)

      fine_split : (pre post : List Lexeme) → inner ≡ pre ++ l ∷ post → LiteralsFine s (last_of (tag_tokens ls)) read
      fine_split pre post joins = let F : List Lexeme → Type 0 = λ x. LiteralsFine s (last_of (tag_tokens ls)) x in fine_front (last_of (tag_tokens ls)) read (l ∷ others) (subst F (t.reads.reads.same ∙ e) fine)

      at_mode : (pre post : List Lexeme) → without_spaces pre ≡ read → EachInside pre → LiteralsFine s (last_of (tag_tokens ls)) read → (path' : Bool) (q : ℕ) → Cut delimiters s (in_tag sort false) t.start pre (in_tag sort path') q → Cut delimiters s (in_tag sort path') q (l ∷ post) (in_tag sort path) left.offset → IsFirstFault delimiters s l.span (reason_for w l.token (word_of s l.token l.span))
      at_mode pre post front inside fine_read path' q first second =
          let ends = step_ends delimiters s (in_tag sort path') l.token l.hyphen q l.span.n t.texts second.1 in
          let later = cut_ends delimiters s t.texts (mode_after (in_tag sort path') l.token) (in_tag sort path) l.span.n left.offset post ends.1 second.2 in
          let clear_here : ClearTo delimiters s l.span.n = λ x below. clear x (omega (arith, below, later.0)) in
          let at : span_of q l.span.n ≡ l.span = λ i. record { m = sym second.0 i; n = l.span.n } in
          let F : List Lexeme → Type 0 = λ x. Path from (symbols_of s x) to in
          let G : List Lexeme → Type 0 = λ x. LiteralsFine s (last_of (tag_tokens ls)) x in
          let H : Span → Type 0 = λ x. IsFirstFault delimiters s x (reason_for w l.token (word_of s l.token x)) in
          let K : Span → Type 0 = λ x. after_symbol to (symbol_of s (record { token = l.token; hyphen = l.hyphen; span = x })) ≡ None in
          subst H at (stuck_is_first delimiters s t.texts sort false path' t.start q l.span.n ls pre from to l.token l.hyphen w t.stage.reads first inside stands (subst F (sym front) leads) (subst G (sym front) fine_read) t.stage.before second.1 clear_here counts (subst K (sym at) refused) wanted)

      at_split : (pre post : List Lexeme) → without_spaces pre ≡ read → TwoCuts delimiters s (in_tag sort false) t.start pre (l ∷ post) (in_tag sort path) left.offset → EachInside pre → LiteralsFine s (last_of (tag_tokens ls)) read → IsFirstFault delimiters s l.span (reason_for w l.token (word_of s l.token l.span))
      at_split pre post front two inside fine_read =
          let mode = inside_mode delimiters s sort false two.between t.start two.at pre inside two.first in
          let F : Mode → Type 0 = λ m. Cut delimiters s (in_tag sort false) t.start pre m two.at in
          let G : Mode → Type 0 = λ m. Cut delimiters s m two.at (l ∷ post) (in_tag sort path) left.offset in
          at_mode pre post front inside fine_read mode.0 two.at (subst F mode.1 two.first) (subst G mode.1 two.second)

  -- all the tokens lead on
  module _ (to : List Part) (leads : Path from (symbols_of s tokens) to) where
    inner_leads : Path from (symbols_of s (without_spaces inner)) to
    inner_leads = let F : List Lexeme → Type 0 = λ x. Path from (symbols_of s x) to in subst F (sym t.reads.reads.same) leads

    pub reached : AllClear delimiters s left.offset × StandsAt s (ls ++ inner) to
    reached = inside_clear delimiters s t.texts sort false path t.start left.offset ls inner from to t.stage.reads cut t.reads.reads.each clear stands inner_leads fine t.stage.before

    pub stage : Stage delimiters s (ls ++ inner) (in_tag sort path) left.offset
    stage = record { reads = reads_on; before = reached.0 }

    -- the next token may not be there
    pub stuck_next : (k : Token) (hyphen : Bool) (n : ℕ) (w : Wanted) → IsToken delimiters s (in_tag sort path) k hyphen left.offset n → ClearTo delimiters s n → is_space k ≡ false → after_symbol to (symbol_of s (lexeme_at k hyphen left.offset n)) ≡ None → wanted_at to ≡ Some w → IsFirstFault delimiters s (span_of left.offset n) (reason_for w k (word_of s k (span_of left.offset n)))
    stuck_next k hyphen n w step clear_there counts refused wanted = stuck_is_first delimiters s t.texts sort false path t.start left.offset n ls inner from to k hyphen w t.stage.reads cut t.reads.reads.each stands inner_leads fine t.stage.before step clear_there counts refused wanted

    -- the text ends
    pub stuck_eof : (w : Wanted) → left.offset ≡ length s → wanted_at to ≡ Some w → IsFirstFault delimiters s (span_of left.offset left.offset) (expected_found (wanted_at_end w) (codes "EOF"))
    stuck_eof w end wanted = end_is_first delimiters s t.texts left.offset (span_of left.offset left.offset) (expected_found (wanted_at_end w) (codes "EOF")) end reached.0 (stuck_end delimiters s left.offset (ls ++ inner) sort path reads_on to reached.1 w end wanted)

    -- the text can't be cut further
    pub stuck_cut : (span : Span) (reason : List ℕ) → IsFirstCutFault delimiters s left.offset span reason → IsFirstFault delimiters s span reason
    stuck_cut span reason first = cut_is_first delimiters s left.offset span reason reached.0 first

    -- the tokens of the tag so far
    pub all_tokens : tag_tokens (ls ++ inner) ≡ t.begin ∷ tokens
    all_tokens = ap without_spaces (from_all [] ls inner t.reads.reads.each) ∙ spaces_append (open_tag ls) inner ∙ (λ i. one_token i ++ t.reads.reads.same i)

    report_of_number : (text : List ℕ) (p n : ℕ) → number_report text (last_of (tag_tokens (ls ++ inner))) p n ≡ number_report text (last_or None tokens) p n
    report_of_number text p n = ap (λ (o : Option Lexeme). number_report text o p n) (ap last_of all_tokens ∙ last_is t.begin tokens) ∙ sym (by_tokens tokens)
      where
        by_tokens : (ks : List Lexeme) → number_report text (last_or None ks) p n ≡ number_report text (last_or (Some t.begin) ks) p n
        by_tokens [] = begin_report sort t.begin text p n t.begins
        by_tokens (k ∷ ks) = refl

    -- a literal that may be there denotes nothing
    pub stuck_literal : (k : Token) (n : ℕ) (report : Report) (next : List Part) → IsInside delimiters s path k left.offset n → DenotesNothing s (last_or None tokens) k (span_of left.offset n) report → after_symbol to (symbol_of s (lexeme_at k false left.offset n)) ≡ Some next → IsFirstFault delimiters s report.span report.reason
    stuck_literal Number n report next inside wrong fits = first_at delimiters s left.offset report.span report.reason reached.0 wrong_number (record {
      lexemes = ls ++ inner;
      sort = sort;
      in_path = path;
      reads = reads_on;
      to = n;
      occurs = inside;
      fits = begins delimiters s t.texts sort path left.offset (ls ++ inner) stage to next reached.1 Number false n (inr (refl, inside)) tt fits;
      words = report_of_number (slice s (span_of left.offset n)) left.offset n ∙ wrong;
    }) (least delimiters s t.texts sort path left.offset (ls ++ inner) stage to next reached.1 Number false n (inr (refl, inside)) tt fits)
    stuck_literal Index n report next inside (large, same) fits =
        let place = span_of left.offset n in
        let words = codes "base 10 literal out of range for unsigned 64-bit integer" in
        let F : Report → Type 0 = λ r. IsFirstFault delimiters s r.span r.reason in
        subst F (sym same) (first_at delimiters s left.offset place words reached.0 wrong_index (record {
          lexemes = ls ++ inner;
          sort = sort;
          in_path = path;
          reads = reads_on;
          to = n;
          occurs = inside;
          fits = begins delimiters s t.texts sort path left.offset (ls ++ inner) stage to next reached.1 Index false n (inr (refl, inside)) tt fits;
          large = large;
          at = refl;
          words = refl;
        }) (least_index delimiters s t.texts sort path left.offset (ls ++ inner) stage to next reached.1 Index false n (inr (refl, inside)) tt fits (λ e. cc)))
    stuck_literal String n report next inside wrong fits =
        let (start, long, escape, same) = wrong inside.extent in
        let words = codes "unknown escape character" in
        let F : Report → Type 0 = λ r. IsFirstFault delimiters s r.span r.reason in
        subst F (sym same) (first_at delimiters s left.offset (span_of start (start + long)) words reached.0 wrong_escape (record {
          lexemes = ls ++ inner;
          sort = sort;
          in_path = path;
          reads = reads_on;
          to = n;
          occurs = inside;
          string = inside.extent;
          fits = begins delimiters s t.texts sort path left.offset (ls ++ inner) stage to next reached.1 String false n (inr (refl, inside)) tt fits;
          from = start;
          long = long;
          escape = escape;
          at = refl;
          words = refl;
        }) (least_escape delimiters s t.texts sort path left.offset (ls ++ inner) stage to next reached.1 String false n (inr (refl, inside)) tt fits (λ e. cc) (λ e. cc)))
    stuck_literal k n report next inside wrong fits = absurd wrong
