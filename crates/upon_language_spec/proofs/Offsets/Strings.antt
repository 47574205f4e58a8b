-- Reading a string piece by piece: what was read so far, where it is closed, and where it can't go on.
use Rattle.std.proofs.Common.{◌≡◌, ℕ, ◌+◌, ◌==◌, ◌||◌, not, Bool, true, false, List, [], ◌∷◌, ◌++◌, length, drop, encode_utf8, add-zero, arith, refl, sym, ap, ◌∙◌, subst, append_assoc, length-append}
use Rattle.std.proofs.lemmas.List.{append-nil}
use Rattle.std.proofs.lemmas.Str.{encode_same}
use Rattle.upon_language_spec.specs.Search.{Occurs}
use Rattle.upon_language_spec.specs.Inside.{Piece, plain, escape, ends_line, is_piece, pieces_text, EachIsPiece, string_text, IsQuoted}
use Rattle.upon_language_spec.proofs.SpansLieIn.Offsets.{drop-Occurs, Occurs-from_drop, occurs_within}
use Rattle.upon_language_spec.proofs.OneCut.Run.{one_char, char_has_bytes}
use Rattle.upon_language_spec.proofs.OneCut.Quoted.{quote_is_no_piece, backslash_is_no_piece, quote_is_no_backslash, same_rest, reads}
use Rattle.upon_language_spec.proofs.Offsets.Bytes.{byte_as_char, first_of, others_of}

abbrev pub piece_text : Piece → List ℕ
piece_text (plain c) = encode_utf8 c
piece_text (escape c) = 92 ∷ encode_utf8 c

-- a quote and pieces are from `at` to `end`
pub record PiecesRead (s : List ℕ) (at end : ℕ) : Type 0 where
  pub pieces : List Piece
  pub each : EachIsPiece pieces
  pub occurs : drop at s ≡ 34 ∷ (pieces_text pieces ++ drop end s)
  pub to : end ≡ at + 1 + length (pieces_text pieces)

-- neither a piece nor a quote is at the span
pub record Stuck (s : List ℕ) (end : ℕ) : Type 0 where
  pub quote : Occurs s end (34 ∷ []) → ⊥
  pub piece : (p : Piece) → is_piece p ≡ true → Occurs s end (piece_text p) → ⊥

head_text : (p : Piece) (ps : List Piece) → pieces_text (p ∷ ps) ≡ piece_text p ++ pieces_text ps
head_text (plain c) ps = refl
head_text (escape c) ps = refl

-- what begins with a piece, with the piece before the rest
before_rest : (p : Piece) (ps : List Piece) (rest : List ℕ) → pieces_text (p ∷ ps) ++ rest ≡ piece_text p ++ (pieces_text ps ++ rest)
before_rest p ps rest = ap (λ t. t ++ rest) (head_text p ps) ∙ append_assoc (piece_text p) (pieces_text ps) rest

pushed : (ps : List Piece) (p : Piece) → pieces_text (ps ++ p ∷ []) ≡ pieces_text ps ++ piece_text p
pushed [] p = head_text p [] ∙ append-nil (piece_text p)
pushed (q ∷ qs) p =
    head_text q (qs ++ p ∷ [])
    ∙ ap (λ t. piece_text q ++ t) (pushed qs p)
    ∙ sym (append_assoc (piece_text q) (pieces_text qs) (piece_text p))
    ∙ ap (λ t. t ++ piece_text p) (sym (head_text q qs))

each_more : (ps : List Piece) (p : Piece) → EachIsPiece ps → is_piece p ≡ true → EachIsPiece (ps ++ p ∷ [])
each_more [] p h k = (k, tt)
each_more (q ∷ qs) p h k = (h.0, each_more qs p h.1 k)

quote_begins_no_piece : (p : Piece) (bs cs : List ℕ) → is_piece p ≡ true → 34 ∷ bs ≡ piece_text p ++ cs → ⊥
quote_begins_no_piece (plain c) bs cs h e = quote_is_no_piece c bs cs h e
quote_begins_no_piece (escape c) bs cs h e = quote_is_no_backslash bs (encode_utf8 c ++ cs) e

-- two pieces that begin one text end at one offset
same_behind : (p q : Piece) (bs cs : List ℕ) → is_piece p ≡ true → is_piece q ≡ true → piece_text p ++ bs ≡ piece_text q ++ cs → bs ≡ cs
same_behind (plain c) (plain d) bs cs h k e = (encode_same c d bs cs e).1
same_behind (plain c) (escape d) bs cs h k e = absurd (backslash_is_no_piece c (encode_utf8 d ++ cs) bs h (sym e))
same_behind (escape c) (plain d) bs cs h k e = absurd (backslash_is_no_piece d (encode_utf8 c ++ bs) cs k e)
same_behind (escape c) (escape d) bs cs h k e = (encode_same c d bs cs (same_rest 92 92 (encode_utf8 c ++ bs) (encode_utf8 d ++ cs) e)).1

module _ (s : List ℕ) (end : ℕ) (stuck : Stuck s end) where
  -- pieces that end where it can't go on are no beginning of pieces and a quote
  never_closed : (ps qs : List Piece) (left : List ℕ) → EachIsPiece ps → EachIsPiece qs → pieces_text ps ++ drop end s ≡ pieces_text qs ++ (34 ∷ left) → ⊥
  never_closed [] [] left h k e = stuck.quote (Occurs-from_drop s end (34 ∷ []) left e)
  never_closed [] (q ∷ qs) left h k e = stuck.piece q k.0 (Occurs-from_drop s end (piece_text q) (pieces_text qs ++ (34 ∷ left)) (e ∙ before_rest q qs (34 ∷ left)))
  never_closed (p ∷ ps) [] left h k e = quote_begins_no_piece p left (pieces_text ps ++ drop end s) h.0 (sym e ∙ before_rest p ps (drop end s))
  never_closed (p ∷ ps) (q ∷ qs) left h k e =
      never_closed ps qs left h.1 k.1
      (same_behind p q (pieces_text ps ++ drop end s) (pieces_text qs ++ (34 ∷ left)) h.0 k.0 (sym (before_rest p ps (drop end s)) ∙ e ∙ before_rest q qs (34 ∷ left)))

  pub no_string : (at : ℕ) → PiecesRead s at end → (n : ℕ) → IsQuoted s at n → ⊥
  no_string at read n a =
      let rest = drop (at + length (string_text a.pieces)) s in
      never_closed read.pieces a.pieces rest read.each a.each
      (same_rest 34 34 (pieces_text read.pieces ++ drop end s) (pieces_text a.pieces ++ (34 ∷ rest)) (sym read.occurs ∙ reads s at n a))

module _ (s : List ℕ) (at : ℕ) where
  pub none_read : Occurs s at (34 ∷ []) → PiecesRead s at (at + 1)
  none_read o = record { pieces = []; each = tt; occurs = drop-Occurs s at (34 ∷ []) o; to = sym (add-zero (at + 1)) }

  pub read_more : (end k : ℕ) (p : Piece) → PiecesRead s at end → is_piece p ≡ true → Occurs s end (piece_text p) → k ≡ end + length (piece_text p) → PiecesRead s at k
  read_more end k p h is o ends =
      let text = piece_text p in
      record {
        pieces = h.pieces ++ p ∷ [];
        each = each_more h.pieces p h.each is;
        occurs = h.occurs
            ∙ ap (λ t. 34 ∷ (pieces_text h.pieces ++ t)) (drop-Occurs s end text o ∙ ap (λ j. text ++ drop j s) (sym ends))
            ∙ ap (λ t. 34 ∷ t) (sym (append_assoc (pieces_text h.pieces) text (drop k s)) ∙ ap (λ t. t ++ drop k s) (sym (pushed h.pieces p)));
        to = omega (arith, ap length (pushed h.pieces p), length-append (pieces_text h.pieces) text, h.to, ends);
      }

  pub closed : (end : ℕ) → PiecesRead s at end → Occurs s end (34 ∷ []) → IsQuoted s at (end + 1)
  closed end h o = record {
    pieces = h.pieces;
    each = h.each;
    occurs = Occurs-from_drop s at (string_text h.pieces) (drop (end + 1) s)
        (h.occurs ∙ ap (λ t. 34 ∷ t) (ap (λ t. pieces_text h.pieces ++ t) (drop-Occurs s end (34 ∷ []) o) ∙ sym (append_assoc (pieces_text h.pieces) (34 ∷ []) (drop (end + 1) s))));
    to = omega (arith, length-append (pieces_text h.pieces) (34 ∷ []), h.to);
  }

no_such_piece : (a b c : Bool) → a ≡ true → not (a || b || c) ≡ true → ⊥
no_such_piece true b c h k = cc
no_such_piece false b c h k = cc

module _ (s : List ℕ) (end : ℕ) where
  pub stuck_at_end : end ≡ length s → Stuck s end
  stuck_at_end e = record { quote = at_quote; piece = at_piece }
    where
      at_quote : Occurs s end (34 ∷ []) → ⊥
      at_quote o = let within = occurs_within s end (34 ∷ []) (omega arith) o in omega arith

      at_piece : (p : Piece) → is_piece p ≡ true → Occurs s end (piece_text p) → ⊥
      at_piece (plain c) h o = let some = char_has_bytes c in let within = occurs_within s end (encode_utf8 c) some o in omega arith
      at_piece (escape c) h o = let within = occurs_within s end (92 ∷ encode_utf8 c) (omega arith) o in omega arith

  pub stuck_at_line_end : (c : ℕ) → Occurs s end (encode_utf8 c) → ends_line c ≡ true → Stuck s end
  stuck_at_line_end c o h = record { quote = at_quote; piece = at_piece }
    where
      at_quote : Occurs s end (34 ∷ []) → ⊥
      at_quote q =
          let F : ℕ → Type 0 = λ x. ends_line x ≡ true in
          let wrong : ends_line 34 ≡ true = subst F (one_char s end c 34 o (byte_as_char s end 34 (omega arith) q)) h in
          cc

      at_piece : (p : Piece) → is_piece p ≡ true → Occurs s end (piece_text p) → ⊥
      at_piece (plain d) k q =
          let F : ℕ → Type 0 = λ x. is_piece (plain x) ≡ true in
          no_such_piece (ends_line c) (c == 34) (c == 92) h (subst F (one_char s end d c q o) k)
      at_piece (escape d) k q =
          let F : ℕ → Type 0 = λ x. ends_line x ≡ true in
          let wrong : ends_line 92 ≡ true = subst F (one_char s end c 92 o (byte_as_char s end 92 (omega arith) (first_of s end 92 (encode_utf8 d) q))) h in
          cc

  pub stuck_at_backslash : Occurs s end (92 ∷ []) → ((d : ℕ) → Occurs s (end + 1) (encode_utf8 d) → is_piece (escape d) ≡ false) → Stuck s end
  stuck_at_backslash o takes_none = record { quote = at_quote; piece = at_piece }
    where
      at_quote : Occurs s end (34 ∷ []) → ⊥
      at_quote q =
          let same : 34 ≡ 92 = one_char s end 34 92 (byte_as_char s end 34 (omega arith) q) (byte_as_char s end 92 (omega arith) o) in
          omega (arith, same)

      at_piece : (p : Piece) → is_piece p ≡ true → Occurs s end (piece_text p) → ⊥
      at_piece (plain d) k q =
          let F : ℕ → Type 0 = λ x. is_piece (plain x) ≡ true in
          let wrong : is_piece (plain 92) ≡ true = subst F (one_char s end d 92 q (byte_as_char s end 92 (omega arith) o)) k in
          cc
      at_piece (escape d) k q = let fails = takes_none d (others_of s end 92 (encode_utf8 d) q) in cc
