-- A lexer that has read some tokens has read one more after it: where its open tag begins, and which brackets are open.
use Rattle.std.proofs.Common.{◌≡◌, ℕ, List, [], ◌∷◌, ◌++◌, Bool, true, false, Option, inl, inr, refl, sym, ap, ◌∙◌, subst, if◌then◌else◌}
use Rattle.upon_types.specs.declared.types.Span.{Span}
use Rattle.upon_types.specs.declared.types.token.Token.{Token}
use Rattle.upon_types.specs.declared.types.token.Token.TheVariants.{Raw, BeginExpr, EndExpr, BeginBlock, EndBlock, BeginComment, EndComment}
use Rattle.upon_language_spec.specs.Search.{DelimiterText}
use Rattle.upon_language_spec.specs.Delimiters.{Sort, expression, block, comment, begin_token, end_token}
use Rattle.upon_language_spec.specs.Inside.{Extent, in_path_after}
use Rattle.upon_language_spec.specs.Cut.{Lexeme, Mode, outside, in_tag, in_comment, IsToken, same_mode, mode_after}
use Rattle.upon_language_spec.specs.Reading.{opens_tag, from_begin, open_tag, first_span, brackets_after, brackets_from, open_brackets, ReadsTo}
use Rattle.upon_language_spec.specs.Lexing.{LexerState, HasRead, begin_in, brackets_in, is_trimming_end}
use Rattle.upon_language_spec.specs.LexStep.{IsNext, BracketsFit, begin_after, state_after}
use Rattle.upon_language_spec.specs.CutFaults.{ClearTo}
use Rattle.upon_language_spec.proofs.OneCut.Cut.{cut_more}
use Rattle.upon_language_spec.proofs.Totality.InsideClear.{last_more}

if_more : (b o : Bool) (l : Lexeme) (x y x' y' : List Lexeme) → x ≡ (if o then l ∷ [] else (x' ++ l ∷ [])) → y ≡ (if o then l ∷ [] else (y' ++ l ∷ [])) → (if b then x else y) ≡ (if o then l ∷ [] else ((if b then x' else y') ++ l ∷ []))
if_more true o l x y x' y' p q = p
if_more false o l x y x' y' p q = q

from_more : (tag ls : List Lexeme) (l : Lexeme) → from_begin tag (ls ++ l ∷ []) ≡ (if opens_tag l.token then l ∷ [] else (from_begin tag ls ++ l ∷ []))
from_more tag [] l = refl
from_more tag (k ∷ ks) l =
    if_more (opens_tag k.token) (opens_tag l.token) l (from_begin (k ∷ []) (ks ++ l ∷ [])) (from_begin (tag ++ k ∷ []) (ks ++ l ∷ [])) (from_begin (k ∷ []) ks) (from_begin (tag ++ k ∷ []) ks)
    (from_more (k ∷ []) ks l) (from_more (tag ++ k ∷ []) ks l)

brackets_more : (stack tag : List Lexeme) (l : Lexeme) → brackets_from stack (tag ++ l ∷ []) ≡ brackets_after (brackets_from stack tag) l.token l
brackets_more stack [] l = refl
brackets_more stack (k ∷ tag) l = brackets_more (brackets_after stack k.token k) tag l

-- once a token was read, there are tokens from the last begin on
abbrev HasTag : List Lexeme → Type 0
HasTag tag = (k : Lexeme) × (ks : List Lexeme) × (tag ≡ k ∷ ks)

some_if : (b : Bool) (x y : List Lexeme) → HasTag x → HasTag y → HasTag (if b then x else y)
some_if true x y p q = p
some_if false x y p q = q

from_some : (k : Lexeme) (tag ls : List Lexeme) → HasTag (from_begin (k ∷ tag) ls)
from_some k tag [] = (k, tag, refl)
from_some k tag (l ∷ ls) = some_if (opens_tag l.token) (from_begin (l ∷ []) ls) (from_begin (k ∷ (tag ++ l ∷ [])) ls) (from_some l [] ls) (from_some k (tag ++ l ∷ []) ls)

has_tag : (l : Lexeme) (ls : List Lexeme) → HasTag (open_tag (l ∷ ls))
has_tag l ls = some_if (opens_tag l.token) (from_begin (l ∷ []) ls) (from_begin (l ∷ []) ls) (from_some l [] ls) (from_some l [] ls)

first_kept : (tag : List Lexeme) (l : Lexeme) → HasTag tag → first_span (tag ++ l ∷ []) ≡ first_span tag
first_kept tag l h = ap (λ x. first_span (x ++ l ∷ [])) h.2 ∙ ap first_span (sym h.2)

-- where the text reads to a span in a tag or a comment, there is a token before
inside_has_tag : (delimiters : List DelimiterText) (s : List ℕ) (mode : Mode) (p : ℕ) (ls : List Lexeme) → (outside ≡ mode → ⊥) → ReadsTo delimiters s ls mode p → HasTag (open_tag ls)
inside_has_tag delimiters s mode p [] inside h = absurd (inside h.0)
inside_has_tag delimiters s mode p (l ∷ ls) inside h = has_tag l ls

abbrev awaits_raw : Mode → Type 0
awaits_raw (in_tag sort path) = ⊥
awaits_raw mode = Unit {0}

-- a token inside a tag neither begins nor ends one
abbrev PlainInside : Token → Type 0
PlainInside t = (opens_tag t ≡ false) × ((mode : Mode) → mode_after mode t ≡ same_mode mode t) × ((span : Span) (begin : Option Span) → begin_after t span begin ≡ begin)

plain_inside : (s : List ℕ) (t : Token) (m n : ℕ) → Extent s t m n → PlainInside t
plain_inside s Raw m n h = absurd h
plain_inside s BeginExpr m n h = absurd h
plain_inside s EndExpr m n h = absurd h
plain_inside s BeginBlock m n h = absurd h
plain_inside s EndBlock m n h = absurd h
plain_inside s BeginComment m n h = absurd h
plain_inside s EndComment m n h = absurd h
plain_inside s t m n h = (refl, λ mode. refl, λ span begin. refl)

module _ (delimiters : List DelimiterText) (s : List ℕ) (left : LexerState) (ls : List Lexeme) (r : HasRead delimiters s left ls) (l : Lexeme) where
  -- a token that opens no tag
  tag_goes_on : opens_tag l.token ≡ false → open_tag (ls ++ l ∷ []) ≡ open_tag ls ++ l ∷ []
  tag_goes_on h = from_more [] ls l ∙ ap (λ (b : Bool). if b then l ∷ [] else (open_tag ls ++ l ∷ [])) h

  tag_begins : opens_tag l.token ≡ true → open_tag (ls ++ l ∷ []) ≡ l ∷ []
  tag_begins h = from_more [] ls l ∙ ap (λ (b : Bool). if b then l ∷ [] else (open_tag ls ++ l ∷ [])) h

  -- what the open tag becomes after a token of this kind
  abbrev Behind : Token → Type 0
  Behind t = (begin_in (mode_after left.mode t) (ls ++ l ∷ []) ≡ begin_after t l.span left.begin) × (brackets_in (mode_after left.mode t) (ls ++ l ∷ []) ≡ brackets_after left.brackets t l)

  no_brackets : left.mode ≡ outside → [] ≡ left.brackets
  no_brackets e = rw e at r.brackets

  opening : (t : Token) → l.token ≡ t → opens_tag t ≡ true → open_tag (ls ++ l ∷ []) ≡ l ∷ []
  opening t e h = tag_begins (ap opens_tag e ∙ h)

  begun_brackets : (t : Token) → l.token ≡ t → opens_tag t ≡ true → brackets_after [] t l ≡ [] → open_brackets (ls ++ l ∷ []) ≡ []
  begun_brackets t e h none = ap (brackets_from []) (opening t e h) ∙ ap (λ x. brackets_after [] x l) e ∙ none

  behind_begin : (sort : Sort) → left.mode ≡ outside → l.token ≡ begin_token sort → Behind (begin_token sort)
  behind_begin expression e t = (ap first_span (opening BeginExpr t refl), begun_brackets BeginExpr t refl refl ∙ no_brackets e)
  behind_begin block e t = (ap first_span (opening BeginBlock t refl), begun_brackets BeginBlock t refl refl ∙ no_brackets e)
  behind_begin comment e t = (ap first_span (opening BeginComment t refl), no_brackets e)

  behind_end : (sort : Sort) → BracketsFit left.brackets (end_token sort) → Behind (end_token sort)
  behind_end expression fits = (refl, sym fits)
  behind_end block fits = (refl, sym fits)
  behind_end comment fits = (refl, sym fits)

  behind_raw : (mode : Mode) → left.mode ≡ mode → l.token ≡ Raw → awaits_raw mode → Behind Raw
  behind_raw outside e t a = (ap (λ m. begin_in (mode_after m Raw) (ls ++ l ∷ [])) e ∙ (rw e at r.begin), ap (λ m. brackets_in (mode_after m Raw) (ls ++ l ∷ [])) e ∙ no_brackets e)
  behind_raw in_comment e t a = (
    ap (λ m. begin_in (mode_after m Raw) (ls ++ l ∷ [])) e ∙ ap first_span (tag_goes_on (ap opens_tag t)) ∙ first_kept (open_tag ls) l (inside_has_tag delimiters s left.mode left.offset ls (λ o. let is = o ∙ e in cc) r.reads) ∙ (rw e at r.begin),
    ap (λ m. brackets_in (mode_after m Raw) (ls ++ l ∷ [])) e ∙ (rw e at r.brackets),
  )
  behind_raw (in_tag sort path) e t a = absurd a

  behind_inner : (sort : Sort) (path : Bool) (t : Token) → left.mode ≡ in_tag sort path → l.token ≡ t → PlainInside t → Behind t
  behind_inner sort path t e is plain =
      let goes = tag_goes_on (ap opens_tag is ∙ plain.0) in
      let mode : mode_after left.mode t ≡ in_tag sort (in_path_after path t) = ap (λ m. mode_after m t) e ∙ plain.1 (in_tag sort path) in (
        ap (λ m. begin_in m (ls ++ l ∷ [])) mode ∙ ap first_span goes ∙ first_kept (open_tag ls) l (inside_has_tag delimiters s left.mode left.offset ls (λ o. let is = o ∙ e in cc) r.reads) ∙ (rw e at r.begin) ∙ sym (plain.2 l.span left.begin),
        ap (λ m. brackets_in m (ls ++ l ∷ [])) mode ∙ ap (brackets_from []) goes ∙ brackets_more [] (open_tag ls) l ∙ ap (λ x. brackets_after (open_brackets ls) x l) is ∙ ap (λ x. brackets_after x t l) (rw e at r.brackets),
      )

  -- a token more
  behind : (mode : Mode) → left.mode ≡ mode → IsToken delimiters s mode l.token l.hyphen left.offset l.span.n → BracketsFit left.brackets l.token → Behind l.token
  behind outside e (inl raw) fits = subst Behind (sym raw.0) (behind_raw outside e raw.0 tt)
  behind outside e (inr begin) fits = subst Behind (sym begin.1) (behind_begin begin.0 e begin.1)
  behind (in_tag sort path) e (inl end) fits = subst Behind (sym end.0) (behind_end sort (subst (BracketsFit left.brackets) end.0 fits))
  behind (in_tag sort path) e (inr inner) fits = behind_inner sort path l.token e refl (plain_inside s l.token left.offset l.span.n inner.1.extent)
  behind in_comment e (inl raw) fits = subst Behind (sym raw.0) (behind_raw in_comment e raw.0 tt)
  behind in_comment e (inr end) fits = subst Behind (sym end.0) (behind_end comment (subst (BracketsFit left.brackets) end.0 fits))

  pub read_more : IsNext delimiters s left l → ClearTo delimiters s l.span.n → HasRead delimiters s (state_after left l) (ls ++ l ∷ [])
  read_more next clear =
      let step = behind left.mode refl next.step next.fits in record {
        reads = cut_more delimiters s outside left.mode 0 left.offset ls l r.reads next.from next.step;
        clear = clear;
        begin = step.0;
        brackets = step.1;
        trims = ap is_trimming_end (last_more ls l);
        not_over = refl;
      }
