-- A string at an offset has one end: its pieces up to the closing quote are determined.
use Rattle.std.proofs.Common.{◌≡◌, ℕ, ◌+◌, ◌<◌, ◌≤◌, true, List, [], ◌∷◌, ◌++◌, length, drop, encode_utf8, arith, refl, sym, ap, ◌∙◌, subst, append_assoc}
use Rattle.std.proofs.lemmas.Str.{encode_same, encode_ascii}
use Rattle.upon_language_spec.specs.Inside.{Piece, plain, escape, is_piece, pieces_text, EachIsPiece, string_text, IsQuoted}
use Rattle.upon_language_spec.proofs.SpansLieIn.Offsets.{drop-Occurs, occurs_within}

-- a character that begins as the byte c does is c, where c is ASCII
pub is_byte : (c d : ℕ) (bs ds : List ℕ) → c < 128 → c ∷ bs ≡ encode_utf8 d ++ ds → c ≡ d
is_byte c d bs ds low e = (encode_same c d bs ds (ap (λ x. x ++ bs) (encode_ascii c low) ∙ e)).0

pub quote_is_no_piece : (c : ℕ) (bs cs : List ℕ) → is_piece (plain c) ≡ true → 34 ∷ bs ≡ encode_utf8 c ++ cs → ⊥
quote_is_no_piece c bs cs p e =
    let F : ℕ → Type 0 = λ x. is_piece (plain x) ≡ true in
    let h : is_piece (plain 34) ≡ true = subst F (sym (is_byte 34 c bs cs (omega arith) e)) p in
    cc

pub backslash_is_no_piece : (c : ℕ) (bs cs : List ℕ) → is_piece (plain c) ≡ true → 92 ∷ bs ≡ encode_utf8 c ++ cs → ⊥
backslash_is_no_piece c bs cs p e =
    let F : ℕ → Type 0 = λ x. is_piece (plain x) ≡ true in
    let h : is_piece (plain 92) ≡ true = subst F (sym (is_byte 92 c bs cs (omega arith) e)) p in
    cc

pub same_rest : (b c : ℕ) (bs cs : List ℕ) → b ∷ bs ≡ c ∷ cs → bs ≡ cs
same_rest b c bs cs e = cc

pub quote_is_no_backslash : (bs cs : List ℕ) → 34 ∷ bs ≡ 92 ∷ cs → ⊥
quote_is_no_backslash bs cs e = cc

same_pieces : (ps qs : List Piece) (rest left : List ℕ) → EachIsPiece ps → EachIsPiece qs → pieces_text ps ++ (34 ∷ rest) ≡ pieces_text qs ++ (34 ∷ left) → ps ≡ qs
same_pieces [] [] rest left p q e = refl
same_pieces [] (plain d ∷ qs) rest left p q e = absurd (quote_is_no_piece d rest (pieces_text qs ++ (34 ∷ left)) q.0 (e ∙ append_assoc (encode_utf8 d) (pieces_text qs) (34 ∷ left)))
same_pieces [] (escape d ∷ qs) rest left p q e = absurd (quote_is_no_backslash rest ((encode_utf8 d ++ pieces_text qs) ++ (34 ∷ left)) e)
same_pieces (plain c ∷ ps) [] rest left p q e = absurd (quote_is_no_piece c left (pieces_text ps ++ (34 ∷ rest)) p.0 (sym e ∙ append_assoc (encode_utf8 c) (pieces_text ps) (34 ∷ rest)))
same_pieces (plain c ∷ ps) (plain d ∷ qs) rest left p q e =
    let both = encode_same c d (pieces_text ps ++ (34 ∷ rest)) (pieces_text qs ++ (34 ∷ left)) (sym (append_assoc (encode_utf8 c) (pieces_text ps) (34 ∷ rest)) ∙ e ∙ append_assoc (encode_utf8 d) (pieces_text qs) (34 ∷ left)) in
    let first : c ≡ d = both.0 in
    let others : ps ≡ qs = same_pieces ps qs rest left p.1 q.1 both.1 in
    λ i. plain (first i) ∷ others i
same_pieces (plain c ∷ ps) (escape d ∷ qs) rest left p q e = absurd (backslash_is_no_piece c ((encode_utf8 d ++ pieces_text qs) ++ (34 ∷ left)) (pieces_text ps ++ (34 ∷ rest)) p.0 (sym e ∙ append_assoc (encode_utf8 c) (pieces_text ps) (34 ∷ rest)))
same_pieces (escape c ∷ ps) [] rest left p q e = absurd (quote_is_no_backslash left ((encode_utf8 c ++ pieces_text ps) ++ (34 ∷ rest)) (sym e))
same_pieces (escape c ∷ ps) (plain d ∷ qs) rest left p q e = absurd (backslash_is_no_piece d ((encode_utf8 c ++ pieces_text ps) ++ (34 ∷ rest)) (pieces_text qs ++ (34 ∷ left)) q.0 (e ∙ append_assoc (encode_utf8 d) (pieces_text qs) (34 ∷ left)))
same_pieces (escape c ∷ ps) (escape d ∷ qs) rest left p q e =
    let behind = same_rest 92 92 ((encode_utf8 c ++ pieces_text ps) ++ (34 ∷ rest)) ((encode_utf8 d ++ pieces_text qs) ++ (34 ∷ left)) e in
    let both = encode_same c d (pieces_text ps ++ (34 ∷ rest)) (pieces_text qs ++ (34 ∷ left)) (sym (append_assoc (encode_utf8 c) (pieces_text ps) (34 ∷ rest)) ∙ behind ∙ append_assoc (encode_utf8 d) (pieces_text qs) (34 ∷ left)) in
    let first : c ≡ d = both.0 in
    let others : ps ≡ qs = same_pieces ps qs rest left p.1 q.1 both.1 in
    λ i. escape (first i) ∷ others i

module _ (s : List ℕ) where
  -- after the opening quote are the pieces, the closing quote and the rest
  pub reads : (m n : ℕ) (a : IsQuoted s m n) → drop m s ≡ 34 ∷ (pieces_text a.pieces ++ (34 ∷ drop (m + length (string_text a.pieces)) s))
  reads m n a = drop-Occurs s m (string_text a.pieces) a.occurs ∙ ap (λ x. 34 ∷ x) (append_assoc (pieces_text a.pieces) (34 ∷ []) (drop (m + length (string_text a.pieces)) s))

  pub one_quoted : (m n k : ℕ) (a : IsQuoted s m n) (b : IsQuoted s m k) → (a.pieces ≡ b.pieces) × (n ≡ k)
  one_quoted m n k a b =
      let rest = drop (m + length (string_text a.pieces)) s in
      let left = drop (m + length (string_text b.pieces)) s in
      let behind = same_rest 34 34 (pieces_text a.pieces ++ (34 ∷ rest)) (pieces_text b.pieces ++ (34 ∷ left)) (sym (reads m n a) ∙ reads m k b) in
      let same = same_pieces a.pieces b.pieces rest left a.each b.each behind in
      (same, a.to ∙ ap (λ ps. m + length (string_text ps)) same ∙ sym b.to)

  pub quoted_ends : (m n : ℕ) → IsQuoted s m n → (m < n) × (n ≤ length s)
  quoted_ends m n a =
      let some : 0 < length (string_text a.pieces) = omega arith in
      let within = occurs_within s m (string_text a.pieces) some a.occurs in
      (omega (arith, a.to, some), omega (arith, a.to, within))
