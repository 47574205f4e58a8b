-- A tag whose tokens lead to its end is whole, and what the parser knows of its begin.
use Rattle.std.proofs.Common.{◌≡◌, inl, inr, ℕ, ◌+◌, ◌^◌, nat_lt, List, [], ◌∷◌, ◌++◌, Bool, true, false, Option, Some, None, refl, sym, ap, ◌∙◌, subst, append_assoc, codes, if◌then◌else◌}
use Rattle.std.proofs.lemmas.Bool.{ltb-true}
use Rattle.std.proofs.lemmas.List.{append-nil}
use Rattle.upon_language_spec.specs.Wanted.{Wanted}
use Rattle.upon_types.specs.declared.types.Span.{Span}
use Rattle.upon_types.specs.declared.types.token.Token.{Token}
use Rattle.upon_types.specs.declared.types.token.Token.TheVariants.{Index, Number, String}
use Rattle.upon_types.specs.Span.{LiesIn, slice}
use Rattle.upon_types.specs.Token.{token_word}
use Rattle.upon_language_spec.specs.Search.{DelimiterText}
use Rattle.upon_language_spec.specs.Delimiters.{Sort, expression, block, comment, begin_token, end_token}
use Rattle.upon_language_spec.specs.Cut.{Lexeme, outside, in_tag}
use Rattle.upon_language_spec.specs.Tokens.{is_space, without_spaces}
use Rattle.upon_language_spec.specs.Tags.{symbol_of, symbols_of, word_of}
use Rattle.upon_language_spec.specs.Keys.{Key, keyword_of}
use Rattle.upon_language_spec.specs.Reading.{first_span, open_brackets}
use Rattle.upon_language_spec.specs.Literal.{sum_of_digits}
use Rattle.upon_language_spec.specs.LiteralFaults.{index_value}
use Rattle.upon_language_spec.specs.Faults.{span_of, lexeme_at}
use Rattle.upon_language_spec.specs.CutFaults.{ClearTo}
use Rattle.upon_language_spec.specs.FirstFault.{unclosed_bracket}
use Rattle.upon_language_spec.specs.Lexing.{LexerState, HasRead}
use Rattle.upon_language_spec.specs.Parts.{Part, tag_start, after, after_symbol, Path}
use Rattle.upon_language_spec.specs.InTags.{last_or, EachInside, ends_a_tag, StandsFor, EachStands}
use Rattle.upon_language_spec.proofs.NoTreeWithFault.NextToken.{inside_ends_nothing}
use Rattle.upon_language_spec.proofs.OneCut.Cut.{one_cut_to}
use Rattle.upon_language_spec.proofs.OneCut.Token.{step_ends}
use Rattle.upon_language_spec.proofs.Totality.LiteralValues.{number_stands, text_stands}
use Rattle.upon_language_spec.specs.Stages.{TagAt, EndsAt}
use Rattle.upon_language_spec.proofs.Totality.NextOrFault.{end_fits}
use Rattle.upon_language_spec.specs.OpenParts.{is_open}
use Rattle.upon_language_spec.proofs.Wanted.Opened.{open_on}
use Rattle.upon_lexer.specs.declared.compile.lex.Lexer.{Lexer}
use Rattle.upon_lexer.specs.Lexers.{lexer_text, lexer_delimiters, lexer_state}
use Rattle.upon_lexer.specs.declared.literal.Lexed.{Lexed}
use Rattle.upon_syntax.specs.declared.compile.parse.tag_tokens.Ended.{Ended}
use Rattle.upon_syntax.specs.declared.compile.parse.tag_tokens.Ended.TheVariants.{End, Fault as CutFault, Literal, Eof}
use Rattle.upon_tag_parser.specs.declared.compile.parse.path.Failure.{Failure}
use Rattle.upon_tag_parser.specs.declared.compile.parse.path.Failure.TheVariants.{Memory, Stuck}
use Rattle.upon_tag_parser.specs.declared.compile.parse.want.Want.{Want}
use Rattle.upon_lexer.specs.Literals.{lexeme_of}
use Rattle.upon_tag_parser.specs.TagParsing.{OnStuck, IsStuck}
use Rattle.upon_tag_parser.specs.Wants.{wanted_of}
use Rattle.upon_tag_parser.specs.WholeTags.{LeadsToEnd}
use Rattle.upon_tag_parser.specs.TagTokens.{lexemes_of, IsTagToken, EachTagToken}
use Rattle.upon_syntax.specs.TagEnds.{tag_end, ReadsEnd, EndsBy, ReadsUpTo}
use Rattle.upon_syntax.specs.TagFaults.{FirstLies, TagWasRead, GoesNoFurther}
use Rattle.upon_syntax.specs.TagReading.{AfterBegin, AfterEnd}
use Rattle.upon_syntax.proofs.CutParts.{cut_rest}
use Rattle.upon_syntax.proofs.ReadTag.{each_after, from_all, reads_on, reached, stage, all_tokens}

-- a literal without a fault denotes something
pub stands_for : (s : List ℕ) (before : Option Lexeme) (l : Lexeme) → IsTagToken s before l → StandsFor s before l.token l
stands_for s before l h = by_token l.token refl
  where
    by_token : (t : Token) → l.token ≡ t → StandsFor s before t l
    by_token Number e = number_stands (slice s l.span) before l.span.m l.span.n (h.fine.number e)
    by_token Index e =
        let (digits, are) = h.digits e in
        let F : Option (List ℕ) → Type 0 = λ o. nat_lt (index_value o) (2 ^ 64) ≡ true in
        (sum_of_digits 10 digits, record { digits = digits; are_digits = are; value = refl; in_range = ltb-true _ _ (subst F are (h.fine.index e)) })
    by_token String e = text_stands s l.span.m l.span.n (h.quoted e) (l.span.m + 1) (h.fine.string e (h.quoted e))
    by_token t e = tt

pub each_stands : (s : List ℕ) (before : Option Lexeme) (tokens : List Lexeme) → EachTagToken s before tokens → EachStands s before tokens
each_stands s before [] each = tt
each_stands s before (l ∷ ls) each = (stands_for s before l each.0, each_stands s (Some l) ls each.1)

pub begin_stands : (s : List ℕ) (sort : Sort) (l : Lexeme) → StandsFor s None (begin_token sort) l
begin_stands s expression l = tt
begin_stands s block l = tt
begin_stands s comment l = tt

-- tokens inside a tag, whitespace left out
pub inside_left : (ls : List Lexeme) → EachInside ls → EachInside (without_spaces ls)
inside_left [] h = tt
inside_left (l ∷ ls) h = by_space (is_space l.token) (inside_left ls h.1)
  where
    by_space : (b : Bool) → EachInside (without_spaces ls) → EachInside (if b then without_spaces ls else (l ∷ without_spaces ls))
    by_space true others = others
    by_space false others = (h.0, others)

-- tokens inside a tag leave it open
pub still_open : (s : List ℕ) (ls : List Lexeme) (from to : List Part) → EachInside ls → is_open from ≡ true → Path from (symbols_of s ls) to → is_open to ≡ true
still_open s [] from to h open_now leads = ap is_open (sym leads) ∙ open_now
still_open s (l ∷ ls) from to h open_now (next, taken, leads) = still_open s ls next to h.1 (open_on from next l.token (keyword_of (word_of s l.token l.span)) open_now (inside_ends_nothing l.token h.0) taken) leads

module _ (delimiters : List DelimiterText) (s : List ℕ) (sort : Sort) (ls : List Lexeme) (from : List Part) (tokens : List Lexeme) (after_all : LexerState) (ended : Ended) (t : TagWasRead delimiters s sort ls from tokens after_all ended) (to : List Part) (leads : Path from (symbols_of s tokens) to) where
  abbrev here : ℕ
  here = t.reads.left.offset

  abbrev all : List Lexeme
  all = ls ++ t.reads.reads.inner

  -- all of the tag but its end
  abbrev pub tag_at : TagAt delimiters s sort all t.reads.reads.path here
  tag_at =
      let F : List Lexeme → Type 0 = λ x. EachInside x in
      let G : List Lexeme → Type 0 = λ x. EachStands s None x in
      let H : Token → Type 0 = λ x. StandsFor s None x t.begin in
      record {
        stage = stage delimiters s sort ls from tokens after_all ended t to leads;
        ps = to;
        occurs = (reached delimiters s sort ls from tokens after_all ended t to leads).1;
        still = still_open s tokens from to (subst F t.reads.reads.same (inside_left t.reads.reads.inner t.reads.reads.each)) t.still leads;
        each = subst G (sym (all_tokens delimiters s sort ls from tokens after_all ended t to leads)) (subst H (sym t.begins) (begin_stands s sort t.begin), each_stands s (Some t.begin) tokens (each_after s sort t.begin tokens t.begins t.each));
        begin = t.begin.span;
        opening = ap first_span (from_all [] ls t.reads.reads.inner t.reads.reads.each ∙ ap (λ (x : List Lexeme). x ++ t.reads.reads.inner) t.opened);
      }

  module _ (l : Lexed) (is : ended ≡ End l) where
    abbrev pub end : ReadsEnd delimiters s sort all t.reads.left after_all l
    end = let F : Ended → Type 0 = λ x. EndsBy delimiters s sort all t.reads.reads.path (last_or None tokens) t.reads.left after_all x in subst F is t.reads.ends

    clear : ClearTo delimiters s l.span.n
    clear =
        let cut = cut_rest delimiters s outside (in_tag sort t.reads.reads.path) after_all.mode 0 here after_all.offset all (lexeme_at (end_token sort) end.hyphen here l.span.n ∷ []) (reads_on delimiters s sort ls from tokens after_all ended t) end.read.reads in
        let F : ℕ → Type 0 = λ x. ClearTo delimiters s x in
        subst F (sym cut.2.1) end.read.clear

    pub no_brackets : open_brackets all ≡ []
    no_brackets = by_brackets (open_brackets all) refl
      where
        by_brackets : (brackets : List Lexeme) → open_brackets all ≡ brackets → brackets ≡ []
        by_brackets [] e = refl
        by_brackets (b ∷ others) e =
            let ends = step_ends delimiters s (in_tag sort t.reads.reads.path) (end_token sort) end.hyphen here l.span.n t.texts (inl (refl, end.ends)) in
            absurd (clear here ends.0 unclosed_bracket b.span (codes "unclosed " ++ token_word b.token) refl (record {
              lexemes = all;
              sort = sort;
              in_path = t.reads.reads.path;
              reads = reads_on delimiters s sort ls from tokens after_all ended t;
              hyphen = end.hyphen;
              to = l.span.n;
              ends = end.ends;
              bracket = b;
              others = others;
              brackets = e;
              at = refl;
              words = refl;
            }))

    -- the whole tag
    abbrev pub ends_at : ((k : Key) → after to (end_token sort) k ≡ Some []) → EndsAt delimiters s sort all t.reads.reads.path here
    ends_at ends = record {
      tag = tag_at;
      hyphen = end.hyphen;
      to = l.span.n;
      ends = end.ends;
      brackets = end_fits sort (open_brackets all) no_brackets;
      next = [];
      leads = ends (keyword_of (word_of s (end_token sort) (span_of here l.span.n)));
    }

-- what is known after a tag's begin was read, and the tokens inside it were
module _ (before : Lexer) (sort : Sort) (begin : Span) (ls : List Lexeme) (a : AfterBegin before sort begin ls) where
  pub mode_is : (lexer_state before).mode ≡ in_tag sort false
  mode_is = (one_cut_to (lexer_delimiters before) (lexer_text before) (lexer_state before).mode (in_tag sort false) (lexer_state before).offset ls ls before.searcher.now.syntax.has_texts a.read.reads a.stage.reads).1

  pub tag_read : (from : List Part) (tokens : List Lexeme) (after_all : LexerState) (ended : Ended) → ends_a_tag (end_token sort) ≡ true → ((hyphen : Bool) → after_symbol (tag_start ∷ []) (symbol_of (lexer_text before) (record { token = begin_token sort; hyphen = hyphen; span = begin })) ≡ Some from) → is_open from ≡ true
      → EachTagToken (lexer_text before) None tokens → ReadsUpTo (lexer_delimiters before) (lexer_text before) sort ls tokens (last_or None tokens) after_all ended → TagWasRead (lexer_delimiters before) (lexer_text before) sort ls from tokens after_all ended
  tag_read from tokens after_all ended of_tag starts still each reads = record {
    texts = before.searcher.now.syntax.has_texts;
    of_tag = of_tag;
    start = (lexer_state before).offset;
    stage = a.stage;
    begin = record { token = begin_token sort; hyphen = a.hyphen; span = begin };
    opened = a.opened;
    begins = refl;
    starts = starts a.hyphen;
    still = still;
    each = each;
    reads = reads;
  }

-- the lexer is after the tag's end
pub after_end : (before after_all : Lexer) (sort : Sort) (ls : List Lexeme) (from to : List Part) (tokens : List Lexeme) (ended : Ended) (l : Lexed) (n : ℕ) (P : List Lexeme → Type 0) → lexer_text after_all ≡ lexer_text before → lexer_delimiters after_all ≡ lexer_delimiters before
    → (t : TagWasRead (lexer_delimiters before) (lexer_text before) sort ls from tokens (lexer_state after_all) ended) → Path from (symbols_of (lexer_text before) tokens) to → ((k : Key) → after to (end_token sort) k ≡ Some []) → ended ≡ End l → n ≡ l.span.n → P tokens → AfterEnd before after_all sort ls n P
after_end before after_all sort ls from to tokens ended l n P same_text same_delimiters t leads ends is at p =
    let delimiters = lexer_delimiters before in
    let s = lexer_text before in
    let e = end delimiters s sort ls from tokens (lexer_state after_all) ended t to leads l is in
    let last = lexeme_at (end_token sort) e.hyphen t.reads.left.offset l.span.n in
    let F : List Lexeme → Type 0 = λ x. HasRead delimiters s (lexer_state after_all) x in
    let here = subst F (append_assoc ls t.reads.reads.inner (last ∷ [])) e.read in
    let G : List DelimiterText → List ℕ → Type 0 = λ d x. HasRead d x (lexer_state after_all) (ls ++ (t.reads.reads.inner ++ last ∷ [])) in
    record {
      inner = t.reads.reads.inner;
      each = t.reads.reads.each;
      path = t.reads.reads.path;
      offset = t.reads.left.offset;
      ends = ends_at delimiters s sort ls from tokens (lexer_state after_all) ended t to leads l is ends;
      at = at;
      read = subst (λ d. G d (lexer_text after_all)) (sym same_delimiters) (subst (λ x. G delimiters x) (sym same_text) here);
      tokens = subst P (sym t.reads.reads.same) p;
    }

-- the end that was read
pub end_is : (ended : Ended) (l : Lexed) → tag_end ended ≡ Some l → ended ≡ End l
end_is (End found) l e = let same : found ≡ l = cc in ap End same
end_is (CutFault e) l none = absurd cc
end_is (Literal found refusal) l none = absurd cc
end_is Eof l none = absurd cc

-- the first of the tokens that are left lies in the text
pub first_lies : (s : List ℕ) (before : Option Lexeme) (read : List Lexeme) (tokens_left : List Lexed) (tokens : List Lexeme) → tokens ≡ read ++ lexemes_of tokens_left → EachTagToken s before tokens → FirstLies s tokens_left
first_lies s before read [] tokens e each = tt
first_lies s before read (l ∷ ls) tokens e each = let F : List Lexeme → Type 0 = λ x. EachTagToken s before x in at before read (subst F e each)
  where
    at : (o : Option Lexeme) (xs : List Lexeme) → EachTagToken s o (xs ++ lexeme_of l ∷ lexemes_of ls) → LiesIn s l.span
    at o [] h = h.0.lies
    at o (x ∷ xs) h = at (Some x) xs h.1

pub failure_lies : (s : List ℕ) (from : List Part) (tokens : List Lexed) (failure : Failure) → EachTagToken s None (lexemes_of tokens) → OnStuck failure (IsStuck s from tokens) → OnStuck failure (λ want left. FirstLies s left)
failure_lies s from tokens Memory each h = tt
failure_lies s from tokens (Stuck want left) each h = first_lies s None h.leads.read left.now (lexemes_of tokens) h.leads.splits each

-- a parser that is stuck goes no further
pub failure_stops : (delimiters : List DelimiterText) (s : List ℕ) (sort : Sort) (ls : List Lexeme) (from : List Part) (tokens : List Lexed) (after_all : LexerState) (ended : Ended) (failure : Failure) → TagWasRead delimiters s sort ls from (lexemes_of tokens) after_all ended → OnStuck failure (IsStuck s from tokens) → OnStuck failure (λ want left. GoesNoFurther delimiters s want left ended)
failure_stops delimiters s sort ls from tokens after_all ended Memory t h = tt
failure_stops delimiters s sort ls from tokens after_all ended (Stuck want left) t h = record { sort = sort; ls = ls; from = from; tokens = lexemes_of tokens; after = after_all; tag = t; to = h.to; leads = h.leads; wants = h.wants; refuses = inl h.refuses }

-- so do tokens that lead to where the tag's end is wanted, which is not there
pub end_stops : (delimiters : List DelimiterText) (s : List ℕ) (sort : Sort) (ls : List Lexeme) (from : List Part) (tokens : List Lexeme) (after_all : LexerState) (ended : Ended) (want : Want) (k : Token) → TagWasRead delimiters s sort ls from tokens after_all ended → LeadsToEnd s from tokens k (wanted_of want) → tag_end ended ≡ None → GoesNoFurther delimiters s want [] ended
end_stops delimiters s sort ls from tokens after_all ended want k t h none = record { sort = sort; ls = ls; from = from; tokens = tokens; after = after_all; tag = t; to = h.to; leads = h.leads; wants = h.wants; refuses = inr (refl, none) }

-- the tokens lead all the way
pub leads_all : (s : List ℕ) (from : List Part) (tokens : List Lexeme) (k : Token) (word : Wanted) (h : LeadsToEnd s from tokens k word) → Path from (symbols_of s tokens) h.to
leads_all s from tokens k word h =
    let all : tokens ≡ h.leads.read = h.leads.splits ∙ append-nil h.leads.read in
    let F : List Lexeme → Type 0 = λ x. Path from (symbols_of s x) h.to in
    subst F (sym all) h.leads.path
