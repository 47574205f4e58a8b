-- Where a cut lies in a tag: the tokens before the tag are a cut to its begin, and they are read for themselves.
use Rattle.std.proofs.Common.{◌≡◌, ◌⊎◌, inl, inr, ℕ, List, [], ◌∷◌, ◌++◌, Bool, true, false, refl, sym, ap, ◌∙◌, subst, append_assoc, if◌then◌else◌}
use Rattle.std.proofs.lemmas.List.{append-nil}
use Rattle.upon_language_spec.specs.Search.{DelimiterText}
use Rattle.upon_language_spec.specs.Delimiters.{Sort, expression, block, comment, begin_token}
use Rattle.upon_language_spec.specs.Inside.{in_path_after}
use Rattle.upon_language_spec.specs.Cut.{Lexeme, Mode, outside, in_tag, in_comment, IsToken, mode_after, Cut}
use Rattle.upon_language_spec.specs.Tokens.{begins_comment}
use Rattle.upon_language_spec.specs.Reading.{opens_tag, from_begin, open_tag, closed_part, before_tag}
use Rattle.upon_language_spec.specs.InTags.{is_inside, EachInside}
use Rattle.upon_language_spec.proofs.NoTreeWithFault.InsideTag.{extent_is_inside, inside_is_no_begin, inside_stays, end_leaves, begin_step, other_step}

abbrev is_outside : Mode → Bool
is_outside outside = true
is_outside mode = false

no_outside : (P : Type 0) → false ≡ true → P
no_outside P e = absurd cc

no_tag_in_comment : (sort : Sort) (path : Bool) → in_comment ≡ in_tag sort path → ⊥
no_tag_in_comment sort path e = cc

-- the tokens are a cut to outside, and then a begin and what is inside a tag
pub record Splits (delimiters : List DelimiterText) (s : List ℕ) (mode : Mode) (m : ℕ) (ls : List Lexeme) : Type 0 where
  pub front : List Lexeme
  pub offset : ℕ
  pub begin : Lexeme
  pub inner : List Lexeme
  pub is : ls ≡ front ++ (begin ∷ inner)
  pub cut : Cut delimiters s mode m front outside offset
  pub opens : opens_tag begin.token ≡ true
  pub no_comment : begins_comment begin.token ≡ false
  pub inside : EachInside inner

module _ (delimiters : List DelimiterText) (s : List ℕ) (sort : Sort) (path : Bool) (p : ℕ) where
  abbrev Left : Mode → ℕ → List Lexeme → Type 0
  Left mode m ls = Cut delimiters s mode m ls (in_tag sort path) p

  in_mode : (mode mode' : Mode) (m : ℕ) (ls : List Lexeme) → mode ≡ mode' → Left mode m ls → Left mode' m ls
  in_mode mode mode' m ls e h = let F : Mode → Type 0 = λ x. Left x m ls in subst F e h

  prefixed : (mode mode' : Mode) (m : ℕ) (l : Lexeme) (ls : List Lexeme) → mode_after mode l.token ≡ mode' → l.span.m ≡ m → IsToken delimiters s mode l.token l.hyphen m l.span.n → Splits delimiters s mode' l.span.n ls → Splits delimiters s mode m (l ∷ ls)
  prefixed mode mode' m l ls e at step h =
      let F : Mode → Type 0 = λ x. Cut delimiters s x l.span.n h.front outside h.offset in
      record {
        front = l ∷ h.front;
        offset = h.offset;
        begin = h.begin;
        inner = h.inner;
        is = ap (λ (x : List Lexeme). l ∷ x) h.is;
        cut = (at, step, subst F (sym e) h.cut);
        opens = h.opens;
        no_comment = h.no_comment;
        inside = h.inside;
      }

  -- the begin of the open tag, or of a tag that is closed
  at_tag : (so : Sort) (m : ℕ) (l : Lexeme) (ls : List Lexeme) → mode_after outside l.token ≡ in_tag so false → opens_tag l.token ≡ true → begins_comment l.token ≡ false → l.span.m ≡ m → IsToken delimiters s outside l.token l.hyphen m l.span.n
      → EachInside ls ⊎ Splits delimiters s (in_tag so false) l.span.n ls → Splits delimiters s outside m (l ∷ ls)
  at_tag so m l ls e t c at step (inl each) = record { front = []; offset = m; begin = l; inner = ls; is = refl; cut = (refl, refl); opens = t; no_comment = c; inside = each }
  at_tag so m l ls e t c at step (inr h) = prefixed outside (in_tag so false) m l ls e at step h

  at_begin : (so : Sort) (m : ℕ) (l : Lexeme) (ls : List Lexeme) → l.token ≡ begin_token so → l.span.m ≡ m → IsToken delimiters s outside l.token l.hyphen m l.span.n → Left (mode_after outside l.token) l.span.n ls
      → ((kind : Sort) → Left (in_tag kind false) l.span.n ls → EachInside ls ⊎ Splits delimiters s (in_tag kind false) l.span.n ls) → (Left in_comment l.span.n ls → Splits delimiters s in_comment l.span.n ls) → Splits delimiters s outside m (l ∷ ls)
  at_begin expression m l ls t at step h k c = let e : mode_after outside l.token ≡ in_tag expression false = ap (mode_after outside) t in
      at_tag expression m l ls e (ap opens_tag t) (ap begins_comment t) at step (k expression (in_mode (mode_after outside l.token) (in_tag expression false) l.span.n ls e h))
  at_begin block m l ls t at step h k c = let e : mode_after outside l.token ≡ in_tag block false = ap (mode_after outside) t in
      at_tag block m l ls e (ap opens_tag t) (ap begins_comment t) at step (k block (in_mode (mode_after outside l.token) (in_tag block false) l.span.n ls e h))
  at_begin comment m l ls t at step h k c = let e : mode_after outside l.token ≡ in_comment = ap (mode_after outside) t in
      prefixed outside in_comment m l ls e at step (c (in_mode (mode_after outside l.token) in_comment l.span.n ls e h))

  one_inside : (so : Sort) (pa : Bool) (m : ℕ) (l : Lexeme) (ls : List Lexeme) → is_inside l.token ≡ true → mode_after (in_tag so pa) l.token ≡ in_tag so (in_path_after pa l.token) → l.span.m ≡ m → IsToken delimiters s (in_tag so pa) l.token l.hyphen m l.span.n
      → EachInside ls ⊎ Splits delimiters s (in_tag so (in_path_after pa l.token)) l.span.n ls → EachInside (l ∷ ls) ⊎ Splits delimiters s (in_tag so pa) m (l ∷ ls)
  one_inside so pa m l ls i e at step (inl each) = inl (i, each)
  one_inside so pa m l ls i e at step (inr h) = inr (prefixed (in_tag so pa) (in_tag so (in_path_after pa l.token)) m l ls e at step h)

  mutual
    split_outside : (m : ℕ) (ls : List Lexeme) → Left outside m ls → Splits delimiters s outside m ls
    split_outside m [] h = no_outside (Splits delimiters s outside m []) (sym (ap is_outside h.0))
    split_outside m (l ∷ ls) h = elim h.1 [
      | inl r ↦ let e : mode_after outside l.token ≡ outside = ap (mode_after outside) r.0 in
          prefixed outside outside m l ls e h.0 h.1 (split_outside l.span.n ls (in_mode (mode_after outside l.token) outside l.span.n ls e h.2))
      | inr b ↦ at_begin b.0 m l ls b.1 h.0 h.1 h.2 (λ kind k. split_tag kind false l.span.n ls k) (λ k. split_comment l.span.n ls k)
    ]

    split_tag : (so : Sort) (pa : Bool) (m : ℕ) (ls : List Lexeme) → Left (in_tag so pa) m ls → EachInside ls ⊎ Splits delimiters s (in_tag so pa) m ls
    split_tag so pa m [] h = inl tt
    split_tag so pa m (l ∷ ls) h = elim h.1 [
      | inl x ↦ let e : mode_after (in_tag so pa) l.token ≡ outside = ap (mode_after (in_tag so pa)) x.0 ∙ end_leaves (in_tag so pa) so in
          inr (prefixed (in_tag so pa) outside m l ls e h.0 h.1 (split_outside l.span.n ls (in_mode (mode_after (in_tag so pa) l.token) outside l.span.n ls e h.2)))
      | inr x ↦ let i = extent_is_inside s l.token m l.span.n x.1.extent in let e = inside_stays so pa l.token i in
          one_inside so pa m l ls i e h.0 h.1 (split_tag so (in_path_after pa l.token) l.span.n ls (in_mode (mode_after (in_tag so pa) l.token) (in_tag so (in_path_after pa l.token)) l.span.n ls e h.2))
    ]

    split_comment : (m : ℕ) (ls : List Lexeme) → Left in_comment m ls → Splits delimiters s in_comment m ls
    split_comment m [] h = absurd (no_tag_in_comment sort path h.0)
    split_comment m (l ∷ ls) h = elim h.1 [
      | inl r ↦ let e : mode_after in_comment l.token ≡ in_comment = ap (mode_after in_comment) r.0 in
          prefixed in_comment in_comment m l ls e h.0 h.1 (split_comment l.span.n ls (in_mode (mode_after in_comment l.token) in_comment l.span.n ls e h.2))
      | inr x ↦ let e : mode_after in_comment l.token ≡ outside = ap (mode_after in_comment) x.0 in
          prefixed in_comment outside m l ls e h.0 h.1 (split_outside l.span.n ls (in_mode (mode_after in_comment l.token) outside l.span.n ls e h.2))
    ]

-- the tokens before the open tag are a cut to its begin
pub split_before : (delimiters : List DelimiterText) (s : List ℕ) (sort : Sort) (path : Bool) (p : ℕ) (ls : List Lexeme) → Cut delimiters s outside 0 ls (in_tag sort path) p → Splits delimiters s outside 0 ls
split_before delimiters s sort path p ls h = split_outside delimiters s sort path p 0 ls h

-- which tokens the open tag is, and which are before it
both_ways : (b : Bool) (x y z : List Lexeme) → x ≡ z → y ≡ z → (if b then x else y) ≡ z
both_ways true x y z e f = e
both_ways false x y z e f = f

pub inner_from : (acc inner : List Lexeme) → EachInside inner → from_begin acc inner ≡ acc ++ inner
inner_from acc [] each = sym (append-nil acc)
inner_from acc (l ∷ ls) each = other_step acc l ls (inside_is_no_begin l.token each.0) ∙ inner_from (acc ++ l ∷ []) ls each.1 ∙ append_assoc acc (l ∷ []) ls

split_from : (acc front : List Lexeme) (begin : Lexeme) (inner : List Lexeme) → opens_tag begin.token ≡ true → EachInside inner → from_begin acc (front ++ (begin ∷ inner)) ≡ begin ∷ inner
split_from acc [] begin inner t each = begin_step acc begin inner t ∙ inner_from (begin ∷ []) inner each
split_from acc (l ∷ ls) begin inner t each =
    both_ways (opens_tag l.token) (from_begin (l ∷ []) (ls ++ (begin ∷ inner))) (from_begin (acc ++ l ∷ []) (ls ++ (begin ∷ inner))) (begin ∷ inner) (split_from (l ∷ []) ls begin inner t each) (split_from (acc ++ l ∷ []) ls begin inner t each)

closed_inner : (done tag inner : List Lexeme) → EachInside inner → closed_part done tag inner ≡ done
closed_inner done tag [] each = refl
closed_inner done tag (l ∷ ls) each = ap (λ (b : Bool). if b then closed_part (done ++ tag) (l ∷ []) ls else closed_part done (tag ++ l ∷ []) ls) (inside_is_no_begin l.token each.0) ∙ closed_inner done (tag ++ l ∷ []) ls each.1

split_closed : (done tag front : List Lexeme) (begin : Lexeme) (inner : List Lexeme) → opens_tag begin.token ≡ true → EachInside inner → closed_part done tag (front ++ (begin ∷ inner)) ≡ (done ++ tag) ++ front
split_closed done tag [] begin inner t each =
    ap (λ (b : Bool). if b then closed_part (done ++ tag) (begin ∷ []) inner else closed_part done (tag ++ begin ∷ []) inner) t ∙ closed_inner (done ++ tag) (begin ∷ []) inner each ∙ sym (append-nil (done ++ tag))
split_closed done tag (l ∷ ls) begin inner t each =
    both_ways (opens_tag l.token) (closed_part (done ++ tag) (l ∷ []) (ls ++ (begin ∷ inner))) (closed_part done (tag ++ l ∷ []) (ls ++ (begin ∷ inner))) ((done ++ tag) ++ (l ∷ ls))
    (split_closed (done ++ tag) (l ∷ []) ls begin inner t each ∙ append_assoc (done ++ tag) (l ∷ []) ls)
    (split_closed done (tag ++ l ∷ []) ls begin inner t each ∙ ap (λ (x : List Lexeme). x ++ ls) (sym (append_assoc done tag (l ∷ []))) ∙ append_assoc (done ++ tag) (l ∷ []) ls)

pub open_tag_is : (front : List Lexeme) (begin : Lexeme) (inner : List Lexeme) → opens_tag begin.token ≡ true → EachInside inner → open_tag (front ++ (begin ∷ inner)) ≡ begin ∷ inner
open_tag_is front begin inner t each = split_from [] front begin inner t each

pub before_tag_is : (front : List Lexeme) (begin : Lexeme) (inner : List Lexeme) → opens_tag begin.token ≡ true → EachInside inner → before_tag (front ++ (begin ∷ inner)) ≡ front
before_tag_is front begin inner t each = split_closed [] [] front begin inner t each

-- the open tag, where its begin is the last of the tokens that come first
pub open_tag_more : (front : List Lexeme) (begin : Lexeme) (inner : List Lexeme) → opens_tag begin.token ≡ true → EachInside inner → open_tag ((front ++ begin ∷ []) ++ inner) ≡ begin ∷ inner
open_tag_more front begin inner t each = ap open_tag (append_assoc front (begin ∷ []) inner) ∙ open_tag_is front begin inner t each

pub before_tag_more : (front : List Lexeme) (begin : Lexeme) (inner : List Lexeme) → opens_tag begin.token ≡ true → EachInside inner → before_tag ((front ++ begin ∷ []) ++ inner) ≡ front
before_tag_more front begin inner t each = ap before_tag (append_assoc front (begin ∷ []) inner) ∙ before_tag_is front begin inner t each
