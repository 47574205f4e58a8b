-- A walk along the tokens of a cut, from the start on: what is read of them, and where the walk ends.
use Rattle.std.proofs.Common.{◌≡◌, inl, inr, ℕ, List, [], ◌∷◌, ◌++◌, Bool, false, ◌&&◌, Option, Some, None, refl, sym, ap, ◌∙◌, subst}
use Rattle.upon_types.specs.declared.types.token.Token.TheVariants.{Raw, BeginComment, EndComment}
use Rattle.upon_language_spec.specs.Search.{DelimiterText}
use Rattle.upon_language_spec.specs.Raw.{IsRaw}
use Rattle.upon_language_spec.specs.Delimiters.{Sort, expression, block, comment, begin_token, end_token}
use Rattle.upon_language_spec.specs.Inside.{in_path_after}
use Rattle.upon_language_spec.specs.Cut.{Lexeme, Mode, outside, in_tag, in_comment, mode_after, Cut}
use Rattle.upon_language_spec.specs.Shown.{shown_lexeme, shown_lexemes, begin_trims, is_end}
use Rattle.upon_language_spec.specs.Tokens.{is_space, begins_comment, is_raw, without_spaces, without_comments, comment_from, after_comment_end, significant}
use Rattle.upon_language_spec.specs.Reading.{opens_tag, from_begin}
use Rattle.upon_language_spec.specs.InTags.{last_or, EachInside}
use Rattle.upon_language_spec.proofs.NoTreeWithFault.InsideTag.{each_more, extent_is_inside, inside_is_no_begin, inside_is_no_comment, inside_is_no_raw, inside_stays, end_leaves, end_is_no_begin, end_is_no_comment, end_is_no_space, shown_token, shown_same, begin_step, other_step, no_space_step, comment_step, raw_step, no_raw_step, kept, one_read, one_pushed, raw_then_raw}

-- What is shown where the walk ends in the mode `final`, of the last token, the open tag and the tokens that are read.
pub record Arrives (s : List ℕ) (rest : List Lexeme) (final : Mode) (Goal : Option Lexeme → List Lexeme → List Lexeme → Type 0) : Type 0 where
  pub fronted : (o : Option Lexeme) (tag front read : List Lexeme) → Goal o tag read → Goal o tag (front ++ read)
  pub at_outside : (o : Option Lexeme) (acc : List Lexeme) (later : Bool) → outside ≡ final → Goal o acc (significant (shown_lexemes s later rest))
  pub at_tag : (o : Option Lexeme) (sort : Sort) (path : Bool) (begin : Lexeme) (inner : List Lexeme) (later : Bool) → in_tag sort path ≡ final → begin.token ≡ begin_token sort → begins_comment (begin_token sort) ≡ false → EachInside inner → Goal o (begin ∷ inner) (without_spaces (begin ∷ inner) ++ significant (shown_lexemes s later rest))
  pub at_comment : (begin : Lexeme) (later : Bool) → in_comment ≡ final → begin.token ≡ BeginComment → Goal (Some begin) (begin ∷ []) (comment_from begin (without_spaces (shown_lexemes s later rest)))
  pub at_raw : (begin raw : Lexeme) (later : Bool) → in_comment ≡ final → begin.token ≡ BeginComment → raw.token ≡ Raw → Goal (Some raw) (begin ∷ raw ∷ []) (after_comment_end (without_spaces (shown_lexemes s later rest)))

module _ (delimiters : List DelimiterText) (s : List ℕ) (rest : List Lexeme) (final : Mode) (p : ℕ) (Goal : Option Lexeme → List Lexeme → List Lexeme → Type 0) (arrives : Arrives s rest final Goal) where
  abbrev Left : Mode → ℕ → List Lexeme → Type 0
  Left mode m ls = Cut delimiters s mode m ls final p

  abbrev Still : List Lexeme → Bool → List Lexeme
  Still ls e = shown_lexemes s e (ls ++ rest)

  moved : (o : Option Lexeme) (tag tag' read read' : List Lexeme) → tag ≡ tag' → read ≡ read' → Goal o tag' read' → Goal o tag read
  moved o tag tag' read read' e f h =
      let F : List Lexeme → Type 0 = λ x. Goal o x read in
      let G : List Lexeme → Type 0 = λ x. Goal o tag' x in
      subst F (sym e) (subst G (sym f) h)

  in_mode : (mode mode' : Mode) (m : ℕ) (ls : List Lexeme) → mode ≡ mode' → Left mode m ls → Left mode' m ls
  in_mode mode mode' m ls e h = let F : Mode → Type 0 = λ x. Left x m ls in subst F e h

  -- a begin is outside
  at_begin : (sort : Sort) (l : Lexeme) (acc ls : List Lexeme) (e b e' : Bool) → l.token ≡ begin_token sort → Left (mode_after outside l.token) l.span.n ls
      → ((so : Sort) → l.token ≡ begin_token so → begins_comment (begin_token so) ≡ false → Left (in_tag so false) l.span.n ls → Goal (last_or (Some l) ls) (from_begin (l ∷ []) ls) (without_spaces (l ∷ []) ++ significant (Still ls e')))
      → (l.token ≡ BeginComment → Left in_comment l.span.n ls → Goal (last_or (Some l) ls) (from_begin (l ∷ []) ls) (comment_from l (without_spaces (Still ls e'))))
      → Goal (last_or (Some l) ls) (from_begin acc (l ∷ ls)) (significant (shown_lexeme s e b l.token l ∷ Still ls e'))
  at_begin expression l acc ls e b e' t h k c =
      moved (last_or (Some l) ls) (from_begin acc (l ∷ ls)) (from_begin (l ∷ []) ls) (significant (shown_lexeme s e b l.token l ∷ Still ls e')) (without_spaces (l ∷ []) ++ significant (Still ls e'))
      (begin_step acc l ls (ap opens_tag t))
      (ap (λ (x : Lexeme). significant (x ∷ Still ls e')) (shown_same s e b l.token l (ap is_raw t)) ∙ one_read (is_space l.token) l (Still ls e') refl (ap begins_comment t))
      (k expression t refl (in_mode (mode_after outside l.token) (in_tag expression false) l.span.n ls (ap (mode_after outside) t) h))
  at_begin block l acc ls e b e' t h k c =
      moved (last_or (Some l) ls) (from_begin acc (l ∷ ls)) (from_begin (l ∷ []) ls) (significant (shown_lexeme s e b l.token l ∷ Still ls e')) (without_spaces (l ∷ []) ++ significant (Still ls e'))
      (begin_step acc l ls (ap opens_tag t))
      (ap (λ (x : Lexeme). significant (x ∷ Still ls e')) (shown_same s e b l.token l (ap is_raw t)) ∙ one_read (is_space l.token) l (Still ls e') refl (ap begins_comment t))
      (k block t refl (in_mode (mode_after outside l.token) (in_tag block false) l.span.n ls (ap (mode_after outside) t) h))
  at_begin comment l acc ls e b e' t h k c =
      moved (last_or (Some l) ls) (from_begin acc (l ∷ ls)) (from_begin (l ∷ []) ls) (significant (shown_lexeme s e b l.token l ∷ Still ls e')) (comment_from l (without_spaces (Still ls e')))
      (begin_step acc l ls (ap opens_tag t))
      (ap (λ (x : Lexeme). significant (x ∷ Still ls e')) (shown_same s e b l.token l (ap is_raw t)) ∙ ap without_comments (no_space_step l (Still ls e') (ap is_space t)) ∙ comment_step l (without_spaces (Still ls e')) (ap begins_comment t))
      (c t (in_mode (mode_after outside l.token) in_comment l.span.n ls (ap (mode_after outside) t) h))

  -- a token that is kept, and the walk goes on after it
  behind_kept : (l x : Lexeme) (acc ls read : List Lexeme) → opens_tag l.token ≡ false → read ≡ x ∷ significant (Still ls (is_end l.token && l.hyphen))
      → Goal (last_or (Some l) ls) (from_begin (acc ++ l ∷ []) ls) (significant (Still ls (is_end l.token && l.hyphen))) → Goal (last_or (Some l) ls) (from_begin acc (l ∷ ls)) read
  behind_kept l x acc ls read h f g =
      let e' = is_end l.token && l.hyphen in
      moved (last_or (Some l) ls) (from_begin acc (l ∷ ls)) (from_begin (acc ++ l ∷ []) ls) read (x ∷ significant (Still ls e')) (other_step acc l ls h) f
      (arrives.fronted (last_or (Some l) ls) (from_begin (acc ++ l ∷ []) ls) (x ∷ []) (significant (Still ls e')) g)

  behind_front : (l x : Lexeme) (acc ls front read : List Lexeme) → opens_tag l.token ≡ false → read ≡ x ∷ significant (Still ls (is_end l.token && l.hyphen))
      → Goal (last_or (Some l) ls) (from_begin (acc ++ l ∷ []) ls) (significant (Still ls (is_end l.token && l.hyphen))) → Goal (last_or (Some l) ls) (from_begin acc (l ∷ ls)) (front ++ read)
  behind_front l x acc ls front read h f g = arrives.fronted (last_or (Some l) ls) (from_begin acc (l ∷ ls)) front read (behind_kept l x acc ls read h f g)

  behind_comment : (l : Lexeme) (front acc ls read : List Lexeme) → opens_tag l.token ≡ false → read ≡ front ++ significant (Still ls (is_end l.token && l.hyphen))
      → Goal (last_or (Some l) ls) (from_begin (acc ++ l ∷ []) ls) (significant (Still ls (is_end l.token && l.hyphen))) → Goal (last_or (Some l) ls) (from_begin acc (l ∷ ls)) read
  behind_comment l front acc ls read h f g =
      let e' = is_end l.token && l.hyphen in
      moved (last_or (Some l) ls) (from_begin acc (l ∷ ls)) (from_begin (acc ++ l ∷ []) ls) read (front ++ significant (Still ls e')) (other_step acc l ls h) f
      (arrives.fronted (last_or (Some l) ls) (from_begin (acc ++ l ∷ []) ls) front (significant (Still ls e')) g)

  mutual
    walk_outside : (m : ℕ) (ls : List Lexeme) (e : Bool) (o : Option Lexeme) (acc : List Lexeme) → Left outside m ls → Goal (last_or o ls) (from_begin acc ls) (significant (Still ls e))
    walk_outside m [] e o acc h = arrives.at_outside o acc e h.0
    walk_outside m (l ∷ ls) e o acc h = elim h.1 [
      | inl raw ↦
          let b = begin_trims (ls ++ rest) in
          let x = shown_lexeme s e b l.token l in
          let t : x.token ≡ Raw = shown_token s e b l.token l ∙ raw.0 in
          behind_kept l x acc ls (significant (x ∷ Still ls (is_end l.token && l.hyphen))) (ap opens_tag raw.0) (kept x (Still ls (is_end l.token && l.hyphen)) (ap is_space t) (ap begins_comment t))
          (walk_outside l.span.n ls (is_end l.token && l.hyphen) (Some l) (acc ++ l ∷ []) (in_mode (mode_after outside l.token) outside l.span.n ls (ap (mode_after outside) raw.0) h.2))
      | inr begin ↦
          at_begin begin.0 l acc ls e (begin_trims (ls ++ rest)) (is_end l.token && l.hyphen) begin.1 h.2
          (λ so t c k. walk_tag so false l.span.n ls (is_end l.token && l.hyphen) (Some l) l [] t c tt k)
          (λ t k. walk_comment l.span.n ls (is_end l.token && l.hyphen) l t k)
    ]

    walk_tag : (sort : Sort) (path : Bool) (m : ℕ) (ls : List Lexeme) (e : Bool) (o : Option Lexeme) (begin : Lexeme) (inner : List Lexeme) → begin.token ≡ begin_token sort → begins_comment (begin_token sort) ≡ false → EachInside inner → Left (in_tag sort path) m ls
        → Goal (last_or o ls) (from_begin (begin ∷ inner) ls) (without_spaces (begin ∷ inner) ++ significant (Still ls e))
    walk_tag sort path m [] e o begin inner t c each h = arrives.at_tag o sort path begin inner e h.0 t c each
    walk_tag sort path m (l ∷ ls) e o begin inner t c each h = elim h.1 [
      | inl end ↦
          let b = begin_trims (ls ++ rest) in
          let e' = is_end l.token && l.hyphen in
          let x = shown_lexeme s e b l.token l in
          let u : x.token ≡ end_token sort = shown_token s e b l.token l ∙ end.0 in
          let tag = begin ∷ inner in
          behind_front l x tag ls (without_spaces tag) (significant (x ∷ Still ls e')) (ap opens_tag end.0 ∙ end_is_no_begin sort)
          (kept x (Still ls e') (ap is_space u ∙ end_is_no_space sort) (ap begins_comment u ∙ end_is_no_comment sort))
          (walk_outside l.span.n ls e' (Some l) (tag ++ l ∷ []) (in_mode (mode_after (in_tag sort path) l.token) outside l.span.n ls (ap (mode_after (in_tag sort path)) end.0 ∙ end_leaves (in_tag sort path) sort) h.2))
      | inr i ↦
          let b = begin_trims (ls ++ rest) in
          let e' = is_end l.token && l.hyphen in
          let inside = extent_is_inside s l.token m l.span.n i.1.extent in
          let tag = begin ∷ inner in
          moved (last_or (Some l) ls) (from_begin tag (l ∷ ls)) (from_begin (tag ++ l ∷ []) ls) (without_spaces tag ++ significant (shown_lexeme s e b l.token l ∷ Still ls e')) (without_spaces (tag ++ l ∷ []) ++ significant (Still ls e'))
          (other_step tag l ls (inside_is_no_begin l.token inside))
          (ap (λ (y : Lexeme). without_spaces tag ++ significant (y ∷ Still ls e')) (shown_same s e b l.token l (inside_is_no_raw l.token inside)) ∙ one_pushed tag l (Still ls e') (inside_is_no_comment l.token inside))
          (walk_tag sort (in_path_after path l.token) l.span.n ls e' (Some l) begin (inner ++ l ∷ []) t c (each_more inner l each inside) (in_mode (mode_after (in_tag sort path) l.token) (in_tag sort (in_path_after path l.token)) l.span.n ls (inside_stays sort path l.token inside) h.2))
    ]

    walk_comment : (m : ℕ) (ls : List Lexeme) (e : Bool) (begin : Lexeme) → begin.token ≡ BeginComment → Left in_comment m ls → Goal (last_or (Some begin) ls) (from_begin (begin ∷ []) ls) (comment_from begin (without_spaces (Still ls e)))
    walk_comment m [] e begin t h = arrives.at_comment begin e h.0 t
    walk_comment m (l ∷ ls) e begin t h = elim h.1 [
      | inl raw ↦
          let b = begin_trims (ls ++ rest) in
          let e' = is_end l.token && l.hyphen in
          let x = shown_lexeme s e b l.token l in
          let u : x.token ≡ Raw = shown_token s e b l.token l ∙ raw.0 in
          moved (last_or (Some l) ls) (from_begin (begin ∷ []) (l ∷ ls)) (from_begin (begin ∷ l ∷ []) ls) (comment_from begin (without_spaces (x ∷ Still ls e'))) (after_comment_end (without_spaces (Still ls e')))
          (other_step (begin ∷ []) l ls (ap opens_tag raw.0))
          (ap (comment_from begin) (no_space_step x (Still ls e') (ap is_space u)) ∙ raw_step begin x (without_spaces (Still ls e')) (ap is_raw u))
          (walk_raw m l.span.n ls e' begin l t raw.0 raw.2 (in_mode (mode_after in_comment l.token) in_comment l.span.n ls (ap (mode_after in_comment) raw.0) h.2))
      | inr end ↦
          let b = begin_trims (ls ++ rest) in
          let e' = is_end l.token && l.hyphen in
          let x = shown_lexeme s e b l.token l in
          let u : x.token ≡ EndComment = shown_token s e b l.token l ∙ end.0 in
          behind_comment l (begin ∷ x ∷ []) (begin ∷ []) ls (comment_from begin (without_spaces (x ∷ Still ls e'))) (ap opens_tag end.0)
          (ap (comment_from begin) (no_space_step x (Still ls e') (ap is_space u)) ∙ no_raw_step begin x (without_spaces (Still ls e')) (ap is_raw u))
          (walk_outside l.span.n ls e' (Some l) (begin ∷ l ∷ []) (in_mode (mode_after in_comment l.token) outside l.span.n ls (ap (mode_after in_comment) end.0) h.2))
    ]

    walk_raw : (n m : ℕ) (ls : List Lexeme) (e : Bool) (begin raw : Lexeme) → begin.token ≡ BeginComment → raw.token ≡ Raw → IsRaw delimiters s n m → Left in_comment m ls → Goal (last_or (Some raw) ls) (from_begin (begin ∷ raw ∷ []) ls) (after_comment_end (without_spaces (Still ls e)))
    walk_raw n m [] e begin raw t r z h = arrives.at_raw begin raw e h.0 t r
    walk_raw n m (l ∷ ls) e begin raw t r z h = elim h.1 [
      | inl again ↦ absurd (raw_then_raw delimiters s n m l.span.n z again.2)
      | inr end ↦
          let b = begin_trims (ls ++ rest) in
          let e' = is_end l.token && l.hyphen in
          let x = shown_lexeme s e b l.token l in
          let u : x.token ≡ EndComment = shown_token s e b l.token l ∙ end.0 in
          moved (last_or (Some l) ls) (from_begin (begin ∷ raw ∷ []) (l ∷ ls)) (from_begin (begin ∷ raw ∷ l ∷ []) ls) (after_comment_end (without_spaces (x ∷ Still ls e'))) (significant (Still ls e'))
          (other_step (begin ∷ raw ∷ []) l ls (ap opens_tag end.0))
          (ap after_comment_end (no_space_step x (Still ls e') (ap is_space u)))
          (walk_outside l.span.n ls e' (Some l) (begin ∷ raw ∷ l ∷ []) (in_mode (mode_after in_comment l.token) outside l.span.n ls (ap (mode_after in_comment) end.0) h.2))
    ]

  -- along a whole cut from the start of the text
  pub walk : (ls : List Lexeme) → Cut delimiters s outside 0 ls final p → Goal (last_or None ls) (from_begin [] ls) (significant (shown_lexemes s false (ls ++ rest)))
  walk ls h = walk_outside 0 ls false None [] h
