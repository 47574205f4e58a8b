-- What is read of a cut to outside is read for itself, and each tag of a block ends there.
use Rattle.std.proofs.Common.{◌≡◌, inl, inr, ℕ, List, [], ◌∷◌, ◌++◌, Bool, true, false, refl, sym, ap, ◌∙◌, subst, if◌then◌else◌}
use Rattle.upon_types.specs.declared.types.token.Token.{Token}
use Rattle.upon_types.specs.declared.types.token.Token.TheVariants.{BeginBlock, EndBlock, BeginComment}
use Rattle.upon_language_spec.specs.Search.{DelimiterText}
use Rattle.upon_language_spec.specs.Raw.{IsRaw}
use Rattle.upon_language_spec.specs.Delimiters.{Sort, expression, block, comment, begin_token, end_token}
use Rattle.upon_language_spec.specs.Inside.{in_path_after}
use Rattle.upon_language_spec.specs.Cut.{Lexeme, Mode, outside, in_tag, in_comment, mode_after, Cut}
use Rattle.upon_language_spec.specs.Tokens.{is_space, begins_comment, is_raw, without_spaces, without_comments, comment_from, after_comment_end, significant}
use Rattle.upon_language_spec.specs.InTags.{is_inside}
use Rattle.upon_language_spec.proofs.NoTreeWithFault.InsideTag.{extent_is_inside, inside_is_no_comment, inside_stays, end_leaves, end_is_no_comment, end_is_no_space, no_space_step, space_step, comment_step, raw_step, no_raw_step, kept, raw_then_raw}
use Rattle.upon_language_spec.proofs.NoTreeWithFault.TagBlocks.{begins_block}

abbrev pub ends_block : Token → Bool
ends_block EndBlock = true
ends_block t = false

abbrev pub has_end : List Lexeme → Bool
has_end [] = false
has_end (l ∷ ls) = if ends_block l.token then true else has_end ls

-- after each begin of block an end of block is
abbrev pub Ended : List Lexeme → Type 0
Ended [] = Unit {0}
Ended (l ∷ ls) = (begins_block l.token ≡ true → has_end ls ≡ true) × Ended ls

abbrev is_block : Sort → Bool
is_block block = true
is_block so = false

ending : (so : Sort) → is_block so ≡ true → ends_block (end_token so) ≡ true
ending block h = refl
ending expression h = absurd cc
ending comment h = absurd cc

end_begins_nothing : (so : Sort) → begins_block (end_token so) ≡ false
end_begins_nothing expression = refl
end_begins_nothing block = refl
end_begins_nothing comment = refl

pub inside_begins_nothing : (t : Token) → is_inside t ≡ true → begins_block t ≡ false
inside_begins_nothing BeginBlock h = absurd cc
inside_begins_nothing t h = refl

inside_ends_nothing : (t : Token) → is_inside t ≡ true → ends_block t ≡ false
inside_ends_nothing EndBlock h = absurd cc
inside_ends_nothing t h = refl

true_or_false : (P : Type 0) (b : Bool) → b ≡ false → b ≡ true → P
true_or_false P b e h = absurd cc

tag_is_inside : (so : Sort) (pa : Bool) → in_tag so pa ≡ outside → ⊥
tag_is_inside so pa e = cc

comment_is_inside : in_comment ≡ outside → ⊥
comment_is_inside e = cc

module _ (delimiters : List DelimiterText) (s : List ℕ) (q : ℕ) (ys : List Lexeme) where
  -- the whole is the part and then the others, and the part's tags end
  abbrev Both : List Lexeme → List Lexeme → Type 0
  Both whole first = (whole ≡ first ++ significant ys) × Ended first

  abbrev BothTag : Sort → List Lexeme → List Lexeme → Type 0
  BothTag so whole first = Both whole first × (is_block so ≡ true → has_end first ≡ true)

  both_moved : (x x' y y' : List Lexeme) → x ≡ x' → y ≡ y' → Both x' y' → Both x y
  both_moved x x' y y' e f h = let F : List Lexeme → Type 0 = λ z. Both x z in let G : List Lexeme → Type 0 = λ z. Both z y' in subst F (sym f) (subst G (sym e) h)

  tag_moved : (so : Sort) (x x' y y' : List Lexeme) → x ≡ x' → y ≡ y' → BothTag so x' y' → BothTag so x y
  tag_moved so x x' y y' e f h = let F : List Lexeme → Type 0 = λ z. BothTag so x z in let G : List Lexeme → Type 0 = λ z. BothTag so z y' in subst F (sym f) (subst G (sym e) h)

  both_then : (l : Lexeme) (x y : List Lexeme) → (begins_block l.token ≡ true → has_end y ≡ true) → Both x y → Both (l ∷ x) (l ∷ y)
  both_then l x y e h = (ap (λ (z : List Lexeme). l ∷ z) h.0, (e, h.1))

  -- a token that is kept
  both_kept : (l : Lexeme) (ls : List Lexeme) → is_space l.token ≡ false → begins_comment l.token ≡ false → (begins_block l.token ≡ true → has_end (significant ls) ≡ true) → Both (significant (ls ++ ys)) (significant ls) → Both (significant (l ∷ (ls ++ ys))) (significant (l ∷ ls))
  both_kept l ls a b e h = both_moved (significant (l ∷ (ls ++ ys))) (l ∷ significant (ls ++ ys)) (significant (l ∷ ls)) (l ∷ significant ls) (kept l (ls ++ ys) a b) (kept l ls a b) (both_then l (significant (ls ++ ys)) (significant ls) e h)

  tag_end : (so : Sort) (l : Lexeme) (ls : List Lexeme) → l.token ≡ end_token so → Both (significant (ls ++ ys)) (significant ls) → BothTag so (significant (l ∷ (ls ++ ys))) (significant (l ∷ ls))
  tag_end so l ls t h =
      let a = ap is_space t ∙ end_is_no_space so in
      let b = ap begins_comment t ∙ end_is_no_comment so in
      let none = ap begins_block t ∙ end_begins_nothing so in
      tag_moved so (significant (l ∷ (ls ++ ys))) (l ∷ significant (ls ++ ys)) (significant (l ∷ ls)) (l ∷ significant ls) (kept l (ls ++ ys) a b) (kept l ls a b) (
        both_then l (significant (ls ++ ys)) (significant ls) (true_or_false (has_end (significant ls) ≡ true) (begins_block l.token) none) h,
        λ k. ap (λ (x : Bool). if x then true else has_end (significant ls)) (ap ends_block t ∙ ending so k),
      )

  tag_inner : (so : Sort) (c : Bool) (l : Lexeme) (ls : List Lexeme) → is_space l.token ≡ c → is_inside l.token ≡ true → BothTag so (significant (ls ++ ys)) (significant ls) → BothTag so (significant (l ∷ (ls ++ ys))) (significant (l ∷ ls))
  tag_inner so true l ls a i h = tag_moved so (significant (l ∷ (ls ++ ys))) (significant (ls ++ ys)) (significant (l ∷ ls)) (significant ls) (ap without_comments (space_step l (ls ++ ys) a)) (ap without_comments (space_step l ls a)) h
  tag_inner so false l ls a i h =
      let b = inside_is_no_comment l.token i in
      tag_moved so (significant (l ∷ (ls ++ ys))) (l ∷ significant (ls ++ ys)) (significant (l ∷ ls)) (l ∷ significant ls) (kept l (ls ++ ys) a b) (kept l ls a b) (
        both_then l (significant (ls ++ ys)) (significant ls) (true_or_false (has_end (significant ls) ≡ true) (begins_block l.token) (inside_begins_nothing l.token i)) h.0,
        λ k. ap (λ (x : Bool). if x then true else has_end (significant ls)) (inside_ends_nothing l.token i) ∙ h.1 k,
      )

  abbrev Left : Mode → ℕ → List Lexeme → Type 0
  Left mode m ls = Cut delimiters s mode m ls outside q

  in_mode : (mode mode' : Mode) (m : ℕ) (ls : List Lexeme) → mode ≡ mode' → Left mode m ls → Left mode' m ls
  in_mode mode mode' m ls e h = let F : Mode → Type 0 = λ x. Left x m ls in subst F e h

  at_begin : (so : Sort) (l : Lexeme) (ls : List Lexeme) → l.token ≡ begin_token so → Left (mode_after outside l.token) l.span.n ls
      → ((kind : Sort) → Left (in_tag kind false) l.span.n ls → BothTag kind (significant (ls ++ ys)) (significant ls))
      → (l.token ≡ BeginComment → Left in_comment l.span.n ls → Both (comment_from l (without_spaces (ls ++ ys))) (comment_from l (without_spaces ls)))
      → Both (significant (l ∷ (ls ++ ys))) (significant (l ∷ ls))
  at_begin expression l ls t h k c =
      both_kept l ls (ap is_space t) (ap begins_comment t) (true_or_false (has_end (significant ls) ≡ true) (begins_block l.token) (ap begins_block t)) (k expression (in_mode (mode_after outside l.token) (in_tag expression false) l.span.n ls (ap (mode_after outside) t) h)).0
  at_begin block l ls t h k c =
      let b = k block (in_mode (mode_after outside l.token) (in_tag block false) l.span.n ls (ap (mode_after outside) t) h) in
      both_kept l ls (ap is_space t) (ap begins_comment t) (λ e. b.1 refl) b.0
  at_begin comment l ls t h k c =
      both_moved (significant (l ∷ (ls ++ ys))) (comment_from l (without_spaces (ls ++ ys))) (significant (l ∷ ls)) (comment_from l (without_spaces ls))
      (ap without_comments (no_space_step l (ls ++ ys) (ap is_space t)) ∙ comment_step l (without_spaces (ls ++ ys)) (ap begins_comment t))
      (ap without_comments (no_space_step l ls (ap is_space t)) ∙ comment_step l (without_spaces ls) (ap begins_comment t))
      (c t (in_mode (mode_after outside l.token) in_comment l.span.n ls (ap (mode_after outside) t) h))

  mutual
    read_outside : (m : ℕ) (ls : List Lexeme) → Left outside m ls → Both (significant (ls ++ ys)) (significant ls)
    read_outside m [] h = (refl, tt)
    read_outside m (l ∷ ls) h = elim h.1 [
      | inl r ↦ both_kept l ls (ap is_space r.0) (ap begins_comment r.0) (true_or_false (has_end (significant ls) ≡ true) (begins_block l.token) (ap begins_block r.0))
          (read_outside l.span.n ls (in_mode (mode_after outside l.token) outside l.span.n ls (ap (mode_after outside) r.0) h.2))
      | inr b ↦ at_begin b.0 l ls b.1 h.2 (λ kind k. read_tag kind false l.span.n ls k) (λ t k. read_comment l.span.n ls l t k)
    ]

    read_tag : (so : Sort) (pa : Bool) (m : ℕ) (ls : List Lexeme) → Left (in_tag so pa) m ls → BothTag so (significant (ls ++ ys)) (significant ls)
    read_tag so pa m [] h = absurd (tag_is_inside so pa h.0)
    read_tag so pa m (l ∷ ls) h = elim h.1 [
      | inl x ↦ tag_end so l ls x.0 (read_outside l.span.n ls (in_mode (mode_after (in_tag so pa) l.token) outside l.span.n ls (ap (mode_after (in_tag so pa)) x.0 ∙ end_leaves (in_tag so pa) so) h.2))
      | inr x ↦ let i = extent_is_inside s l.token m l.span.n x.1.extent in
          tag_inner so (is_space l.token) l ls refl i (read_tag so (in_path_after pa l.token) l.span.n ls (in_mode (mode_after (in_tag so pa) l.token) (in_tag so (in_path_after pa l.token)) l.span.n ls (inside_stays so pa l.token i) h.2))
    ]

    read_comment : (m : ℕ) (ls : List Lexeme) (begin : Lexeme) → begin.token ≡ BeginComment → Left in_comment m ls → Both (comment_from begin (without_spaces (ls ++ ys))) (comment_from begin (without_spaces ls))
    read_comment m [] begin t h = absurd (comment_is_inside h.0)
    read_comment m (l ∷ ls) begin t h = elim h.1 [
      | inl r ↦ both_moved (comment_from begin (without_spaces (l ∷ (ls ++ ys)))) (after_comment_end (without_spaces (ls ++ ys))) (comment_from begin (without_spaces (l ∷ ls))) (after_comment_end (without_spaces ls))
          (ap (comment_from begin) (no_space_step l (ls ++ ys) (ap is_space r.0)) ∙ raw_step begin l (without_spaces (ls ++ ys)) (ap is_raw r.0))
          (ap (comment_from begin) (no_space_step l ls (ap is_space r.0)) ∙ raw_step begin l (without_spaces ls) (ap is_raw r.0))
          (read_raw m l.span.n ls r.2 (in_mode (mode_after in_comment l.token) in_comment l.span.n ls (ap (mode_after in_comment) r.0) h.2))
      | inr x ↦ both_moved (comment_from begin (without_spaces (l ∷ (ls ++ ys)))) (begin ∷ l ∷ significant (ls ++ ys)) (comment_from begin (without_spaces (l ∷ ls))) (begin ∷ l ∷ significant ls)
          (ap (comment_from begin) (no_space_step l (ls ++ ys) (ap is_space x.0)) ∙ no_raw_step begin l (without_spaces (ls ++ ys)) (ap is_raw x.0))
          (ap (comment_from begin) (no_space_step l ls (ap is_space x.0)) ∙ no_raw_step begin l (without_spaces ls) (ap is_raw x.0))
          (both_then begin (l ∷ significant (ls ++ ys)) (l ∷ significant ls) (true_or_false (has_end (l ∷ significant ls) ≡ true) (begins_block begin.token) (ap begins_block t))
          (both_then l (significant (ls ++ ys)) (significant ls) (true_or_false (has_end (significant ls) ≡ true) (begins_block l.token) (ap begins_block x.0))
          (read_outside l.span.n ls (in_mode (mode_after in_comment l.token) outside l.span.n ls (ap (mode_after in_comment) x.0) h.2))))
    ]

    read_raw : (n m : ℕ) (ls : List Lexeme) → IsRaw delimiters s n m → Left in_comment m ls → Both (after_comment_end (without_spaces (ls ++ ys))) (after_comment_end (without_spaces ls))
    read_raw n m [] z h = absurd (comment_is_inside h.0)
    read_raw n m (l ∷ ls) z h = elim h.1 [
      | inl again ↦ absurd (raw_then_raw delimiters s n m l.span.n z again.2)
      | inr x ↦ both_moved (after_comment_end (without_spaces (l ∷ (ls ++ ys)))) (significant (ls ++ ys)) (after_comment_end (without_spaces (l ∷ ls))) (significant ls)
          (ap after_comment_end (no_space_step l (ls ++ ys) (ap is_space x.0))) (ap after_comment_end (no_space_step l ls (ap is_space x.0)))
          (read_outside l.span.n ls (in_mode (mode_after in_comment l.token) outside l.span.n ls (ap (mode_after in_comment) x.0) h.2))
    ]

-- what is read of a cut to outside is in front of what is read after it, and each tag of a block ends there
pub read_before : (delimiters : List DelimiterText) (s : List ℕ) (m q : ℕ) (ls ys : List Lexeme) → Cut delimiters s outside m ls outside q → (significant (ls ++ ys) ≡ significant ls ++ significant ys) × Ended (significant ls)
read_before delimiters s m q ls ys h = read_outside delimiters s q ys m ls h
