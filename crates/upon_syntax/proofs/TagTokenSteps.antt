-- A lexer's steps inside a tag: whitespace, and then a token, the tag's end, or nothing more.
use Rattle.std.proofs.Common.{◌≡◌, inl, inr, ℕ, List, [], ◌∷◌, ◌++◌, Bool, true, false, Option, Some, None, Result, Ok, Err, refl, sym, ap, ◌∙◌, subst, append_assoc}
use Rattle.std.proofs.lemmas.List.{append-nil}
use Rattle.upon_types.specs.declared.types.Span.{Span}
use Rattle.upon_types.specs.declared.types.token.Token.{Token}
use Rattle.upon_types.specs.declared.types.token.Token.TheVariants.{Ident, Keyword, Dot, Pipe, Comma, Colon, Whitespace}
use Rattle.upon_types.specs.Span.{LiesIn}
use Rattle.upon_types.specs.declared.error.Error.{Error}
use Rattle.upon_language_spec.specs.Search.{DelimiterText}
use Rattle.upon_language_spec.specs.Delimiters.{Sort, end_token}
use Rattle.upon_language_spec.specs.Delimiters as sort
use Rattle.upon_language_spec.specs.Cut.{Lexeme, Mode, outside, in_tag, IsToken, Cut, mode_after}
use Rattle.upon_language_spec.specs.Inside.{IsInside, in_path_after}
use Rattle.upon_language_spec.specs.Tokens.{is_space, without_spaces}
use Rattle.upon_language_spec.specs.Faults.{lexeme_at}
use Rattle.upon_language_spec.specs.Lexing.{LexerState, HasRead, IsGiven, IsCutError, LexesAfterSpace, EachIsSpace}
use Rattle.upon_language_spec.specs.CutFaults.{ClearTo}
use Rattle.upon_language_spec.specs.InTags.{is_inside, EachInside, last_or}
use Rattle.upon_language_spec.proofs.NoTreeWithFault.InsideTag.{extent_is_inside, inside_stays, spaces_append, space_step, no_space_step}
use Rattle.upon_lexer.specs.Plain.{is_plain}
use Rattle.upon_lexer.specs.declared.literal.Lexed.{Lexed}
use Rattle.upon_syntax.specs.declared.compile.parse.tag_tokens.Ended.{Ended}
use Rattle.upon_syntax.specs.declared.compile.parse.tag_tokens.Ended.TheVariants.{End, Fault as CutFault, Literal, Eof}
use Rattle.upon_lexer.specs.declared.literal_fault.Refusal.{Refusal}
use Rattle.upon_lexer.specs.Literals.{lexeme_of}
use Rattle.upon_lexer.specs.LiteralReasons.{report_of}
use Rattle.upon_syntax.specs.TagEnds.{DenotesNothing, StopsAt, ReportsCut, ReadsOnTokens, ReadsTokens, ReadsUpTo, EndsBy}
use Rattle.upon_tag_parser.specs.TagTokens.{IsTagToken, EachTagToken}
use Rattle.upon_syntax.proofs.CutParts.{cut_rest}

pub each_joined : (xs ys : List Lexeme) → EachInside xs → EachInside ys → EachInside (xs ++ ys)
each_joined [] ys a b = b
each_joined (x ∷ xs) ys a b = (a.0, each_joined xs ys a.1 b)

space_is_inside : (t : Token) → is_space t ≡ true → is_inside t ≡ true
space_is_inside Whitespace h = refl
space_is_inside t h = absurd cc

spaces_inside : (ls : List Lexeme) → EachIsSpace ls → EachInside ls
spaces_inside [] h = tt
spaces_inside (l ∷ ls) h = (space_is_inside l.token h.0, spaces_inside ls h.1)

no_spaces : (ls : List Lexeme) → EachIsSpace ls → without_spaces ls ≡ []
no_spaces [] h = refl
no_spaces (l ∷ ls) h = space_step l ls h.0 ∙ no_spaces ls h.1

space_stays : (sort : Sort) (path : Bool) (t : Token) → is_space t ≡ true → mode_after (in_tag sort path) t ≡ in_tag sort path
space_stays sort path Whitespace h = refl
space_stays sort path t h = absurd cc

-- ends are not inside
end_is_outside : (sort : Sort) → is_inside (end_token sort) ≡ false
end_is_outside sort.expression = refl
end_is_outside sort.block = refl
end_is_outside sort.comment = refl

both : {b : Bool} → b ≡ false → b ≡ true → ⊥
both a b = cc

-- the error that a lexer gives, memory or not
reports : (delimiters : List DelimiterText) (s : List ℕ) (left : LexerState) (e : Error) → IsCutError delimiters s left e → ReportsCut delimiters s left.offset e
reports delimiters s left e (inl (span, reason, first, inl same)) = inr (span, reason, first, same)
reports delimiters s left e (inl (span, reason, first, inr memory)) = inl memory
reports delimiters s left e (inr opens) = inl opens.1

-- one call of a lexer that has read some tokens of an open tag
module _ (delimiters : List DelimiterText) (s : List ℕ) (sort : Sort) (path : Bool) (ls : List Lexeme) (left : LexerState) (read : HasRead delimiters s left ls) (mode : left.mode ≡ in_tag sort path) (after : LexerState) where
  spaces_stay : (m n : ℕ) (mode' : Mode) (ks : List Lexeme) → EachIsSpace ks → Cut delimiters s (in_tag sort path) m ks mode' n → mode' ≡ in_tag sort path
  spaces_stay m n mode' [] h cut = sym cut.0
  spaces_stay m n mode' (k ∷ ks) h cut = let F : Mode → Type 0 = λ x. Cut delimiters s x k.span.n ks mode' n in spaces_stay k.span.n n mode' ks h.1 (subst F (space_stays sort path k.token h.0) cut.2)

  -- whitespace alone
  pub reads_spaces : (spaces : List Lexeme) → EachIsSpace spaces → HasRead delimiters s after (ls ++ spaces) → ReadsOnTokens delimiters s sort ls after []
  reads_spaces spaces each more =
      let cut = cut_rest delimiters s outside left.mode after.mode 0 left.offset after.offset ls spaces read.reads more.reads in
      let F : Mode → Type 0 = λ x. Cut delimiters s x left.offset spaces after.mode after.offset in
      record { inner = spaces; each = spaces_inside spaces each; path = path; mode = spaces_stay left.offset after.offset after.mode spaces each (subst F mode cut); read = more; same = no_spaces spaces each }

  module _ (result : Result (Option (Token × Span)) Error) (g : LexesAfterSpace delimiters s ls result after) where
    start_mode : g.start.mode ≡ in_tag sort path
    start_mode =
        let cut = cut_rest delimiters s outside left.mode g.start.mode 0 left.offset g.start.offset ls g.spaces read.reads g.has_read.reads in
        let F : Mode → Type 0 = λ x. Cut delimiters s x left.offset g.spaces g.start.mode g.start.offset in
        spaces_stay left.offset g.start.offset g.start.mode g.spaces g.each (subst F mode cut)

    abbrev after_spaces : ReadsOnTokens delimiters s sort ls g.start []
    after_spaces = record { inner = g.spaces; each = spaces_inside g.spaces g.each; path = path; mode = start_mode; read = g.has_read; same = no_spaces g.spaces g.each }

  -- the text can't be cut further
  pub ends_wrong : (before : Option Lexeme) (e : Error) → LexesAfterSpace delimiters s ls (Err e) after → ReadsUpTo delimiters s sort ls [] before after (CutFault e)
  ends_wrong before e g = record { left = g.start; reads = after_spaces (Err e) g; ends = reports delimiters s g.start e g.gives }

  -- the text ends
  pub ends_eof : (before : Option Lexeme) → LexesAfterSpace delimiters s ls (Ok None) after → ReadsUpTo delimiters s sort ls [] before after Eof
  ends_eof before g = record { left = g.start; reads = after_spaces (Ok None) g; ends = g.gives.0 }

  -- a token is given
  module _ (token : Token) (span : Span) (g : LexesAfterSpace delimiters s ls (Ok (Some (token, span))) after) where
    abbrev l : Lexeme
    l = g.gives.0

    cut_on : Cut delimiters s g.start.mode g.start.offset (l ∷ []) after.mode after.offset
    cut_on = cut_rest delimiters s outside g.start.mode after.mode 0 g.start.offset after.offset (ls ++ g.spaces) (l ∷ []) g.has_read.reads g.gives.3.reads

    span_is : span ≡ l.span
    span_is = let F : Mode → Type 0 = λ x. IsGiven delimiters s x g.start.trims l.token l.span span in subst F (start_mode (Ok (Some (token, span))) g) g.gives.2

    same : l ≡ record { token = token; hyphen = l.hyphen; span = span }
    same = λ i. record { token = g.gives.1 i; hyphen = l.hyphen; span = sym span_is i }

    pub from : span.m ≡ g.start.offset
    from = ap (λ (x : Span). x.m) span_is ∙ cut_on.0

    step : IsToken delimiters s (in_tag sort path) token l.hyphen g.start.offset span.n
    step =
        let F : Mode → Type 0 = λ x. IsToken delimiters s x l.token l.hyphen g.start.offset l.span.n in
        let G : Lexeme → Type 0 = λ x. IsToken delimiters s (in_tag sort path) x.token l.hyphen g.start.offset x.span.n in
        subst G same (subst F (start_mode (Ok (Some (token, span))) g) cut_on.1)

    read_all : HasRead delimiters s after ((ls ++ g.spaces) ++ record { token = token; hyphen = l.hyphen; span = span } ∷ [])
    read_all = let F : Lexeme → Type 0 = λ x. HasRead delimiters s after ((ls ++ g.spaces) ++ x ∷ []) in subst F same g.gives.3

    -- the tag's end
    pub ends_tag : (before : Option Lexeme) → is_inside token ≡ false → ReadsUpTo delimiters s sort ls [] before after (End (record { token = token; span = span }))
    ends_tag before h = by_step step
      where
        by_step : IsToken delimiters s (in_tag sort path) token l.hyphen g.start.offset span.n → ReadsUpTo delimiters s sort ls [] before after (End (record { token = token; span = span }))
        by_step (inl end) =
            let at : record { token = token; hyphen = l.hyphen; span = span } ≡ lexeme_at (end_token sort) l.hyphen g.start.offset span.n = λ i. record { token = end.0 i; hyphen = l.hyphen; span = record { m = from i; n = span.n } } in
            let F : Lexeme → Type 0 = λ x. HasRead delimiters s after ((ls ++ g.spaces) ++ x ∷ []) in
            record {
              left = g.start;
              reads = after_spaces (Ok (Some (token, span))) g;
              ends = record { hyphen = l.hyphen; ends = end.1; of_token = end.0; from = from; read = subst F at read_all };
            }
        by_step (inr inner) = absurd (both h (extent_is_inside s token g.start.offset span.n inner.1.extent))

    not_end : is_inside token ≡ true → (hyphen : Bool) → IsToken delimiters s (in_tag sort path) token hyphen g.start.offset span.n → (hyphen ≡ false) × IsInside delimiters s path token g.start.offset span.n
    not_end h hyphen (inl end) = absurd (both (ap is_inside end.0 ∙ end_is_outside sort) h)
    not_end h hyphen (inr inner) = inner

    -- a token inside
    pub goes_on : is_inside token ≡ true → ReadsOnTokens delimiters s sort ls after (lexeme_of (record { token = token; span = span }) ∷ [])
    goes_on h =
        let inner = not_end h l.hyphen step in
        let inside : is_inside token ≡ true = extent_is_inside s token g.start.offset span.n inner.1.extent in
        let found : Lexeme = lexeme_of (record { token = token; span = span }) in
        let here : record { token = token; hyphen = l.hyphen; span = span } ≡ found = λ i. record { token = token; hyphen = inner.0 i; span = span } in
        let F : Lexeme → Type 0 = λ x. HasRead delimiters s after ((ls ++ g.spaces) ++ x ∷ []) in
        let G : List Lexeme → Type 0 = λ x. HasRead delimiters s after x in
        let mode_is : after.mode ≡ in_tag sort (in_path_after path token) = sym cut_on.2.0 ∙ (λ i. mode_after (start_mode (Ok (Some (token, span))) g i) (g.gives.1 i)) ∙ inside_stays sort path token inside in
        record {
          inner = g.spaces ++ found ∷ [];
          each = each_joined g.spaces (found ∷ []) (spaces_inside g.spaces g.each) (inside, tt);
          path = in_path_after path token;
          mode = mode_is;
          read = subst G (append_assoc ls g.spaces (found ∷ [])) (subst F here read_all);
          same = spaces_append g.spaces (found ∷ []) ∙ ap (λ (x : List Lexeme). x ++ without_spaces (found ∷ [])) (no_spaces g.spaces g.each) ∙ no_space_step found [] g.counts;
        }

    -- a literal that denotes nothing
    pub ends_literal : (before : Option Lexeme) (refusal : Refusal) → is_inside token ≡ true → DenotesNothing s before token span (report_of refusal) → ReadsUpTo delimiters s sort ls [] before after (Literal (record { token = token; span = span }) refusal)
    ends_literal before refusal h wrong =
        let inner = not_end h l.hyphen step in
        let F : ℕ → Type 0 = λ x. ClearTo delimiters s x in
        record {
          left = g.start;
          reads = after_spaces (Ok (Some (token, span))) g;
          ends = record { inside = inner.1; from = from; clear = subst F (sym cut_on.2.1 ∙ sym (ap (λ (x : Span). x.n) span_is)) g.gives.3.clear; wrong = wrong };
        }

    -- either of them
    pub stops : (before : Option Lexeme) (ended : Ended) → StopsAt s before (record { token = token; span = span }) ended → ReadsUpTo delimiters s sort ls [] before after ended
    stops before (End end) h =
        let F : Lexed → Type 0 = λ x. ReadsUpTo delimiters s sort ls [] before after (End x) in
        subst F (sym h.0) (ends_tag before (ap (λ (x : Lexed). is_inside x.token) (sym h.0) ∙ h.1))
    stops before (CutFault e) h = absurd h
    stops before (Literal found refusal) h =
        let F : Lexed → Type 0 = λ x. ReadsUpTo delimiters s sort ls [] before after (Literal x refusal) in
        let G : Lexed → Type 0 = λ x. DenotesNothing s before x.token x.span (report_of refusal) in
        subst F (sym h.0) (ends_literal before refusal (ap (λ (x : Lexed). is_inside x.token) (sym h.0) ∙ h.1) (subst G h.0 h.2))
    stops before Eof h = absurd h

-- one part of the tag after another
abbrev pub reads_then : (delimiters : List DelimiterText) (s : List ℕ) (sort : Sort) (ls : List Lexeme) (left after : LexerState) (tokens more : List Lexeme) (a : ReadsOnTokens delimiters s sort ls left tokens) → ReadsOnTokens delimiters s sort (ls ++ a.inner) after more → ReadsOnTokens delimiters s sort ls after (tokens ++ more)
reads_then delimiters s sort ls left after tokens more a b =
    let F : List Lexeme → Type 0 = λ x. HasRead delimiters s after x in
    record {
      inner = a.inner ++ b.inner;
      each = each_joined a.inner b.inner a.each b.each;
      path = b.path;
      mode = b.mode;
      read = subst F (append_assoc ls a.inner b.inner) b.read;
      same = spaces_append a.inner b.inner ∙ (λ i. a.same i ++ b.same i);
    }

-- one part of the tag after another, whichever tokens were before
pub reads_more : (delimiters : List DelimiterText) (s : List ℕ) (before left after : LexerState) (tokens more : List Lexeme) → ReadsTokens delimiters s before left tokens → ReadsTokens delimiters s left after more → ReadsTokens delimiters s before after (tokens ++ more)
reads_more delimiters s before left after tokens more a b = λ sort path ls read mode.
    let on = a sort path ls read mode in
    reads_then delimiters s sort ls left after tokens more on (b sort on.path (ls ++ on.inner) on.read on.mode)

-- and up to where the tokens end
pub reads_up_to : (delimiters : List DelimiterText) (s : List ℕ) (sort : Sort) (ls : List Lexeme) (left after : LexerState) (tokens : List Lexeme) (before : Option Lexeme) (ended : Ended) (a : ReadsOnTokens delimiters s sort ls left tokens) → ReadsUpTo delimiters s sort (ls ++ a.inner) [] before after ended → ReadsUpTo delimiters s sort ls tokens before after ended
reads_up_to delimiters s sort ls left after tokens before ended a b =
    let on = reads_then delimiters s sort ls left b.left tokens [] a b.reads in
    let F : List Lexeme → Type 0 = λ x. EndsBy delimiters s sort x b.reads.path before b.left after ended in
    record {
      left = b.left;
      reads = record { inner = on.inner; each = on.each; path = on.path; mode = on.mode; read = on.read; same = on.same ∙ append-nil tokens };
      ends = subst F (append_assoc ls a.inner b.reads.inner) b.ends;
    }

-- before the first call nothing was read
pub reads_start : (delimiters : List DelimiterText) (s : List ℕ) (sort : Sort) (path : Bool) (ls : List Lexeme) (left : LexerState) → HasRead delimiters s left ls → left.mode ≡ in_tag sort path → ReadsOnTokens delimiters s sort ls left []
reads_start delimiters s sort path ls left read mode =
    let F : List Lexeme → Type 0 = λ x. HasRead delimiters s left x in
    record { inner = []; each = tt; path = path; mode = mode; read = subst F (sym (append-nil ls)) read; same = refl }

-- one token of the tag more
pub each_token_more : (s : List ℕ) (before : Option Lexeme) (tokens : List Lexeme) (l : Lexeme) → EachTagToken s before tokens → IsTagToken s (last_or before tokens) l → EachTagToken s before (tokens ++ l ∷ [])
each_token_more s before [] l each h = (h, tt)
each_token_more s before (k ∷ ks) l each h = (each.0, each_token_more s (Some k) ks l each.1 h)

pub last_token : (before : Option Lexeme) (tokens : List Lexeme) (l : Lexeme) → last_or before (tokens ++ l ∷ []) ≡ Some l
last_token before [] l = refl
last_token before (k ∷ ks) l = last_token (Some k) ks l

pub plain_is_inside : (t : Token) → is_plain t ≡ true → is_inside t ≡ true
plain_is_inside Ident h = refl
plain_is_inside Keyword h = refl
plain_is_inside Dot h = refl
plain_is_inside Pipe h = refl
plain_is_inside Comma h = refl
plain_is_inside Colon h = refl
plain_is_inside t h = absurd cc

-- a frequent token is one of a tag, after whichever token: it is no literal
pub plain_token : (s : List ℕ) (before : Option Lexeme) (t : Token) (span : Span) → is_plain t ≡ true → LiesIn s span → IsTagToken s before (record { token = t; hyphen = false; span = span })
plain_token s before t span plain lies = record {
  inside = plain_is_inside t plain;
  lies = lies;
  quoted = λ e. let none = ap is_plain e in absurd cc;
  digits = λ e. let none = ap is_plain e in absurd cc;
  fine = record {
    number = λ e. let none = ap is_plain e in absurd cc;
    index = λ e. let none = ap is_plain e in absurd cc;
    string = λ e. let none = ap is_plain e in absurd cc;
  };
}
