-- A text has one character at an offset, and a run of characters has one end.
use Rattle.std.proofs.Common.{◌≡◌, ℕ, ◌+◌, ◌<◌, ◌≤◌, Bool, false, List, [], ◌∷◌, ◌++◌, length, drop, encode_utf8, encode_utf8_all, arith, refl, sym, ap, ◌∙◌, append_assoc, length-append}
use Rattle.std.proofs.lemmas.Str.{encode_same, length-encode, len_utf8_bounds}
use Rattle.upon_language_spec.specs.Search.{Occurs}
use Rattle.upon_language_spec.specs.Words.{EachPasses, IsRun}
use Rattle.upon_language_spec.proofs.SpansLieIn.Offsets.{drop-Occurs, Occurs-from_drop, occurs_within}

pub one_char : (s : List ℕ) (p c d : ℕ) → Occurs s p (encode_utf8 c) → Occurs s p (encode_utf8 d) → c ≡ d
one_char s p c d o q = (encode_same c d _ _ (sym (drop-Occurs s p (encode_utf8 c) o) ∙ drop-Occurs s p (encode_utf8 d) q)).0

pub char_has_bytes : (c : ℕ) → 0 < length (encode_utf8 c)
char_has_bytes c = omega (arith, length-encode c, (len_utf8_bounds c).0)

-- the first character of a run
pub run_first : (test : ℕ → Bool) (s : List ℕ) (m n : ℕ) (run : IsRun test s m n) → Occurs s m (encode_utf8 run.first)
run_first test s m n run = Occurs-from_drop s m (encode_utf8 run.first) (encode_utf8_all run.others ++ drop (m + length (encode_utf8_all (run.first ∷ run.others))) s)
    (drop-Occurs s m (encode_utf8_all (run.first ∷ run.others)) run.occurs
    ∙ append_assoc (encode_utf8 run.first) (encode_utf8_all run.others) (drop (m + length (encode_utf8_all (run.first ∷ run.others))) s))

pub run_ends : (test : ℕ → Bool) (s : List ℕ) (m n : ℕ) → IsRun test s m n → (m < n) × (n ≤ length s)
run_ends test s m n run =
    let first = char_has_bytes run.first in
    let all : 0 < length (encode_utf8_all (run.first ∷ run.others)) = omega (arith, first, length-append (encode_utf8 run.first) (encode_utf8_all run.others)) in
    let within = occurs_within s m (encode_utf8_all (run.first ∷ run.others)) all run.occurs in
    (omega (arith, run.to, all), omega (arith, run.to, within))

module _ (test : ℕ → Bool) where
  -- no character that passes is at the start of the text
  abbrev Stops : List ℕ → Type 0
  Stops rest = (c : ℕ) (t : List ℕ) → rest ≡ encode_utf8 c ++ t → test c ≡ false

  same_chars : (cs ds rest left : List ℕ) → EachPasses test cs → EachPasses test ds → Stops rest → Stops left → encode_utf8_all cs ++ rest ≡ encode_utf8_all ds ++ left → cs ≡ ds
  same_chars [] [] rest left p q h k e = refl
  same_chars [] (d ∷ ds) rest left p q h k e = let a = h d (encode_utf8_all ds ++ left) (e ∙ append_assoc (encode_utf8 d) (encode_utf8_all ds) left) in let b = q.0 in absurd (cc)
  same_chars (c ∷ cs) [] rest left p q h k e = let a = k c (encode_utf8_all cs ++ rest) (sym e ∙ append_assoc (encode_utf8 c) (encode_utf8_all cs) rest) in let b = p.0 in absurd (cc)
  same_chars (c ∷ cs) (d ∷ ds) rest left p q h k e =
      let both = encode_same c d (encode_utf8_all cs ++ rest) (encode_utf8_all ds ++ left) (sym (append_assoc (encode_utf8 c) (encode_utf8_all cs) rest) ∙ e ∙ append_assoc (encode_utf8 d) (encode_utf8_all ds) left) in
      let first = both.0 in
      let more = same_chars cs ds rest left p.1 q.1 h k both.1 in
      cc

  stops : (s : List ℕ) (m n : ℕ) → IsRun test s m n → Stops (drop n s)
  stops s m n run = λ c t e. run.longest c (Occurs-from_drop s n (encode_utf8 c) t e)

  reads : (s : List ℕ) (m n : ℕ) (run : IsRun test s m n) → drop m s ≡ encode_utf8_all (run.first ∷ run.others) ++ drop n s
  reads s m n run = drop-Occurs s m (encode_utf8_all (run.first ∷ run.others)) run.occurs ∙ ap (λ k. encode_utf8_all (run.first ∷ run.others) ++ drop k s) (sym run.to)

  pub one_run : (s : List ℕ) (m n k : ℕ) → IsRun test s m n → IsRun test s m k → n ≡ k
  one_run s m n k a b =
      let same = same_chars (a.first ∷ a.others) (b.first ∷ b.others) (drop n s) (drop k s) a.each b.each (stops s m n a) (stops s m k b) (sym (reads s m n a) ∙ reads s m k b) in
      a.to ∙ ap (λ cs. m + length (encode_utf8_all cs)) same ∙ sym b.to
