-- What is left of a string at an offset inside it: the pieces from there on, what is wrong with them, and what they say.
use Rattle.std.proofs.Common.{◌≡◌, ℕ, ◌+◌, ◌<◌, List, [], ◌∷◌, ◌++◌, length, drop, Option, Some, None, encode_utf8, refl, sym, ap, ◌∙◌, subst, arith, append_assoc, length-append, length-drop}
use Rattle.std.proofs.lemmas.List.{append-nil, drop-drop}
use Rattle.std.proofs.lemmas.Str.{encode_same, encode_ascii}
use Rattle.upon_language_spec.specs.Search.{Occurs}
use Rattle.upon_language_spec.specs.Inside.{Piece, plain, escape, pieces_text, EachIsPiece, string_text, IsQuoted}
use Rattle.upon_language_spec.specs.Literal.{escape_value, join, text_of_pieces}
use Rattle.upon_language_spec.specs.LiteralFaults.{escape_fault}
use Rattle.upon_language_spec.proofs.SpansLieIn.Offsets.{drop-Occurs}
use Rattle.upon_language_spec.proofs.Spans.Literals.{rest_after}
use Rattle.upon_language_spec.proofs.OneCut.Run.{char_has_bytes}
use Rattle.upon_language_spec.proofs.OneCut.Quoted.{is_byte, quote_is_no_piece, backslash_is_no_piece, quote_is_no_backslash, reads}

-- from this span on these pieces are left, and this holds of them
pub record LeftAt (s : List ℕ) (P : ℕ → List Piece → Type 0) (at : ℕ) : Type 0 where
  pub left : List Piece
  pub each : EachIsPiece left
  pub rest : List ℕ
  pub reads : drop at s ≡ pieces_text left ++ (34 ∷ rest)
  pub holds : P at left

-- the whole string's fault is theirs
abbrev pub HaveFault : Option (ℕ × ℕ) → ℕ → List Piece → Type 0
HaveFault whole at left = escape_fault at left ≡ whole

-- what was read and what they say make the whole text, and no escape of them is strange
abbrev pub HaveText : Option (List ℕ) → List ℕ → ℕ → List Piece → Type 0
HaveText whole out at left = (join (Some out) (text_of_pieces left) ≡ whole) × (escape_fault at left ≡ None)

pub left_at_start : (s : List ℕ) (P : ℕ → List Piece → Type 0) (m n : ℕ) (q : IsQuoted s m n) → P (m + 1) q.pieces → LeftAt s P (m + 1)
left_at_start s P m n q h = record {
  left = q.pieces;
  each = q.each;
  rest = drop (m + length (string_text q.pieces)) s;
  reads = sym (drop-drop 1 m s) ∙ ap (λ (x : List ℕ). drop 1 x) (reads s m n q);
  holds = h;
}

low_first : (c b : ℕ) (xs ys : List ℕ) → b < 128 → b ∷ xs ≡ encode_utf8 c ++ ys → c ≡ b
low_first c b xs ys low e = sym (is_byte b c xs ys low e)

module _ (s : List ℕ) (P : ℕ → List Piece → Type 0) (at c : ℕ) (stands : Occurs s at (encode_utf8 c)) where
  here : drop at s ≡ encode_utf8 c ++ drop (at + length (encode_utf8 c)) s
  here = drop-Occurs s at (encode_utf8 c) stands

  -- at the closing quote nothing is left
  pub at_quote : LeftAt s P at → c ≡ 34 → P at []
  at_quote x e = by_left x.left x.each x.reads x.holds
    where
      quote : drop at s ≡ 34 ∷ drop (at + length (encode_utf8 c)) s
      quote = here ∙ ap (λ (d : List ℕ). d ++ drop (at + length (encode_utf8 c)) s) (ap encode_utf8 e ∙ encode_ascii 34 (omega arith))

      by_left : (left : List Piece) → EachIsPiece left → drop at s ≡ pieces_text left ++ (34 ∷ x.rest) → P at left → P at []
      by_left [] each h f = f
      by_left (plain d ∷ left) each h f = absurd (quote_is_no_piece d (drop (at + length (encode_utf8 c)) s) (pieces_text left ++ (34 ∷ x.rest)) each.0 (sym quote ∙ h ∙ append_assoc (encode_utf8 d) (pieces_text left) (34 ∷ x.rest)))
      by_left (escape d ∷ left) each h f = absurd (quote_is_no_backslash (drop (at + length (encode_utf8 c)) s) ((encode_utf8 d ++ pieces_text left) ++ (34 ∷ x.rest)) (sym quote ∙ h))

  -- past a character as it is
  pub past_plain : (Q : ℕ → List Piece → Type 0) → ((left : List Piece) → P at (plain c ∷ left) → Q (at + length (encode_utf8 c)) left) → LeftAt s P at → (c ≡ 34 → ⊥) → (c ≡ 92 → ⊥) → LeftAt s Q (at + length (encode_utf8 c))
  past_plain Q step x no_quote no_slash = by_left x.left x.each x.reads x.holds
    where
      by_left : (left : List Piece) → EachIsPiece left → drop at s ≡ pieces_text left ++ (34 ∷ x.rest) → P at left → LeftAt s Q (at + length (encode_utf8 c))
      by_left [] each h f = absurd (no_quote (low_first c 34 x.rest (drop (at + length (encode_utf8 c)) s) (omega arith) (sym h ∙ here)))
      by_left (escape d ∷ left) each h f = absurd (no_slash (low_first c 92 ((encode_utf8 d ++ pieces_text left) ++ (34 ∷ x.rest)) (drop (at + length (encode_utf8 c)) s) (omega arith) (sym h ∙ here)))
      by_left (plain d ∷ left) each h f =
          let behind = pieces_text left ++ (34 ∷ x.rest) in
          let both = encode_same c d (drop (at + length (encode_utf8 c)) s) behind (sym here ∙ h ∙ append_assoc (encode_utf8 d) (pieces_text left) (34 ∷ x.rest)) in
          let F : ℕ → Type 0 = λ y. P at (plain y ∷ left) in
          record { left = left; each = each.1; rest = x.rest; reads = both.1; holds = step left (subst F (sym both.0) f) }

  -- at a backslash: the character that it takes comes next
  pub record TakenAt : Type 0 where
    pub taken : ℕ
    pub left : List Piece
    pub each : EachIsPiece left
    pub rest : List ℕ
    pub reads : drop (at + 1) s ≡ encode_utf8 taken ++ (pieces_text left ++ (34 ∷ rest))
    pub holds : P at (escape taken ∷ left)

  pub at_backslash : LeftAt s P at → c ≡ 92 → TakenAt
  at_backslash x e = by_left x.left x.each x.reads x.holds
    where
      slash : drop at s ≡ 92 ∷ drop (at + length (encode_utf8 c)) s
      slash = here ∙ ap (λ (d : List ℕ). d ++ drop (at + length (encode_utf8 c)) s) (ap encode_utf8 e ∙ encode_ascii 92 (omega arith))

      by_left : (left : List Piece) → EachIsPiece left → drop at s ≡ pieces_text left ++ (34 ∷ x.rest) → P at left → TakenAt
      by_left [] each h f = absurd (quote_is_no_backslash x.rest (drop (at + length (encode_utf8 c)) s) (sym h ∙ slash))
      by_left (plain d ∷ left) each h f = absurd (backslash_is_no_piece d (drop (at + length (encode_utf8 c)) s) (pieces_text left ++ (34 ∷ x.rest)) each.0 (sym slash ∙ h ∙ append_assoc (encode_utf8 d) (pieces_text left) (34 ∷ x.rest)))
      by_left (escape d ∷ left) each h f = record {
        taken = d;
        left = left;
        each = each.1;
        rest = x.rest;
        reads = rest_after s at (92 ∷ []) (encode_utf8 d ++ (pieces_text left ++ (34 ∷ x.rest))) (h ∙ ap (λ (y : List ℕ). 92 ∷ y) (append_assoc (encode_utf8 d) (pieces_text left) (34 ∷ x.rest)));
        holds = f;
      }

  -- the text does not end there
  pub not_at_end : TakenAt → at + 1 ≡ length s → ⊥
  not_at_end x e =
      let size = ap length x.reads in
      omega (arith, size, e, length-drop (at + 1) s, length-append (encode_utf8 x.taken) (pieces_text x.left ++ (34 ∷ x.rest)), char_has_bytes x.taken)

  module _ (d : ℕ) (next : Occurs s (at + 1) (encode_utf8 d)) (x : TakenAt) where
    both : (d ≡ x.taken) × (drop (at + 1 + length (encode_utf8 d)) s ≡ pieces_text x.left ++ (34 ∷ x.rest))
    both = encode_same d x.taken (drop (at + 1 + length (encode_utf8 d)) s) (pieces_text x.left ++ (34 ∷ x.rest)) (sym (drop-Occurs s (at + 1) (encode_utf8 d) next) ∙ x.reads)

    -- that is the character that was found
    pub taken_holds : P at (escape d ∷ x.left)
    taken_holds = let F : ℕ → Type 0 = λ y. P at (escape y ∷ x.left) in subst F (sym both.0) x.holds

    -- past the escape
    pub past_escape : (Q : ℕ → List Piece → Type 0) → ((left : List Piece) → P at (escape d ∷ left) → Q (at + 1 + length (encode_utf8 d)) left) → LeftAt s Q (at + 1 + length (encode_utf8 d))
    past_escape Q step = record { left = x.left; each = x.each; rest = x.rest; reads = both.1; holds = step x.left taken_holds }

-- a span inside a string is none at the text's end
pub inside_text : (s : List ℕ) (P : ℕ → List Piece → Type 0) (at : ℕ) → LeftAt s P at → at ≡ length s → ⊥
inside_text s P at x e =
    let size = ap length x.reads in
    omega (arith, size, e, length-drop at s, length-append (pieces_text x.left) (34 ∷ x.rest))

-- ---- faults
escape_by : (at d : ℕ) (left : List Piece) → Option (List ℕ) → Option (ℕ × ℕ)
escape_by at d left o = elim o as (λ _. Option (ℕ × ℕ)) [ None ↦ Some (at + 1, length (encode_utf8 d)) | Some t ↦ escape_fault (at + 1 + length (encode_utf8 d)) left ]

-- an escape that is none of the five is the fault
pub strange : (whole : Option (ℕ × ℕ)) (at d : ℕ) (left : List Piece) → escape_value d ≡ None → HaveFault whole at (escape d ∷ left) → whole ≡ Some (at + 1, length (encode_utf8 d))
unfolding escape_by
strange whole at d left e h = sym h ∙ ap (escape_by at d left) e

-- one of the five is none
pub fault_after : (whole : Option (ℕ × ℕ)) (at d : ℕ) (t : List ℕ) (left : List Piece) → escape_value d ≡ Some t → HaveFault whole at (escape d ∷ left) → HaveFault whole (at + 1 + length (encode_utf8 d)) left
unfolding escape_by
fault_after whole at d t left e h = sym (ap (escape_by at d left) e) ∙ h

-- ---- texts
joined_on : (out t : List ℕ) (o : Option (List ℕ)) → join (Some out) (join (Some t) o) ≡ join (Some (out ++ t)) o
joined_on out t None = refl
joined_on out t (Some u) = ap (λ (x : List ℕ). Some x) (sym (append_assoc out t u))

pub text_start : (whole : List Piece) (at : ℕ) → escape_fault at whole ≡ None → HaveText (text_of_pieces whole) [] at whole
text_start whole at fine = (nothing_before (text_of_pieces whole), fine)
  where
    nothing_before : (o : Option (List ℕ)) → join (Some []) o ≡ o
    nothing_before None = refl
    nothing_before (Some t) = refl

pub text_plain : (whole : Option (List ℕ)) (out : List ℕ) (at c : ℕ) (left : List Piece) → HaveText whole out at (plain c ∷ left) → HaveText whole (out ++ encode_utf8 c) (at + length (encode_utf8 c)) left
text_plain whole out at c left h = (sym (joined_on out (encode_utf8 c) (text_of_pieces left)) ∙ h.0, h.1)

pub text_escape : (whole : Option (List ℕ)) (out : List ℕ) (at d : ℕ) (t : List ℕ) (left : List Piece) → escape_value d ≡ Some t → HaveText whole out at (escape d ∷ left) → HaveText whole (out ++ t) (at + 1 + length (encode_utf8 d)) left
text_escape whole out at d t left e h = (
  sym (joined_on out t (text_of_pieces left)) ∙ ap (λ (o : Option (List ℕ)). join (Some out) (join o (text_of_pieces left))) (sym e) ∙ h.0,
  fault_after None at d t left e h.1,
)

-- at the end the text is whole
pub text_end : (whole : Option (List ℕ)) (out : List ℕ) (at : ℕ) → HaveText whole out at [] → whole ≡ Some out
text_end whole out at h = sym h.0 ∙ ap (λ (x : List ℕ). Some x) (append-nil out)

-- no escape is strange
pub none_strange : (whole : Option (List ℕ)) (out : List ℕ) (at d : ℕ) (left : List Piece) → escape_value d ≡ None → HaveText whole out at (escape d ∷ left) → ⊥
none_strange whole out at d left e h = let x : None ≡ Some (at + 1, length (encode_utf8 d)) = strange None at d left e h.1 in absurd cc
