-- A run of characters that grows at its end.
use Rattle.std.proofs.Common.{◌≡◌, ℕ, ◌+◌, Bool, true, false, List, [], ◌∷◌, ◌++◌, ◌⊎◌, inl, inr, length, drop, encode_utf8, encode_utf8_all, add-zero, arith, refl, sym, ap, ◌∙◌, subst, append_assoc, length-append}
use Rattle.std.proofs.lemmas.List.{append-nil}
use Rattle.std.proofs.lemmas.Str.{encodes-append}
use Rattle.upon_language_spec.specs.Search.{Occurs}
use Rattle.upon_language_spec.specs.Words.{EachPasses, IsRun}
use Rattle.upon_language_spec.proofs.SpansLieIn.Offsets.{drop-Occurs, Occurs-from_drop, occurs_within}
use Rattle.upon_language_spec.proofs.OneCut.Run.{one_char, one_run, run_first, char_has_bytes}

-- characters that pass are from m to n, perhaps none
pub record Passes (test : ℕ → Bool) (s : List ℕ) (m n : ℕ) : Type 0 where
  pub characters : List ℕ
  pub each : EachPasses test characters
  pub occurs : drop m s ≡ encode_utf8_all characters ++ drop n s
  pub to : n ≡ m + length (encode_utf8_all characters)

module _ (test : ℕ → Bool) (s : List ℕ) (m : ℕ) where
  pub passes_none : Passes test s m m
  passes_none = record { characters = []; each = tt; occurs = refl; to = sym (add-zero m) }

  each_more : (cs : List ℕ) (c : ℕ) → EachPasses test cs → test c ≡ true → EachPasses test (cs ++ c ∷ [])
  each_more [] c h k = (k, tt)
  each_more (d ∷ ds) c h k = (h.0, each_more ds c h.1 k)

  pushed : (cs : List ℕ) (c : ℕ) → encode_utf8_all (cs ++ c ∷ []) ≡ encode_utf8_all cs ++ encode_utf8 c
  pushed cs c = encodes-append cs (c ∷ []) ∙ ap (λ t. encode_utf8_all cs ++ t) (append-nil (encode_utf8 c))

  stand_more : (cs : List ℕ) (n c k : ℕ) → drop m s ≡ encode_utf8_all cs ++ drop n s → Occurs s n (encode_utf8 c) → k ≡ n + length (encode_utf8 c) → drop m s ≡ encode_utf8_all (cs ++ c ∷ []) ++ drop k s
  stand_more cs n c k stand o ends =
      stand
      ∙ ap (λ t. encode_utf8_all cs ++ t) (drop-Occurs s n (encode_utf8 c) o)
      ∙ sym (append_assoc (encode_utf8_all cs) (encode_utf8 c) (drop (n + length (encode_utf8 c)) s))
      ∙ ap (λ t. t ++ drop (n + length (encode_utf8 c)) s) (sym (pushed cs c))
      ∙ ap (λ j. encode_utf8_all (cs ++ c ∷ []) ++ drop j s) (sym ends)

  pub passes_more : (n c k : ℕ) → Passes test s m n → Occurs s n (encode_utf8 c) → test c ≡ true → k ≡ n + length (encode_utf8 c) → Passes test s m k
  passes_more n c k h o passes ends = record {
    characters = h.characters ++ c ∷ [];
    each = each_more h.characters c h.each passes;
    occurs = stand_more h.characters n c k h.occurs o ends;
    to = omega (arith, ap length (pushed h.characters c), length-append (encode_utf8_all h.characters) (encode_utf8 c), h.to, ends);
  }

  pub stops_at_char : (n c : ℕ) → Occurs s n (encode_utf8 c) → test c ≡ false → (d : ℕ) → Occurs s n (encode_utf8 d) → test d ≡ false
  stops_at_char n c o fails d q = ap test (one_char s n d c q o) ∙ fails

  pub stops_at_end : (n : ℕ) → n ≡ length s → (d : ℕ) → Occurs s n (encode_utf8 d) → test d ≡ false
  stops_at_end n e d q = absurd (omega (arith, e, char_has_bytes d, occurs_within s n (encode_utf8 d) (char_has_bytes d) q))

  -- where no more pass, a run ends
  pub run_or_none : (n : ℕ) → Passes test s m n → ((c : ℕ) → Occurs s n (encode_utf8 c) → test c ≡ false) → (n ≡ m) ⊎ IsRun test s m n
  run_or_none n h longest = go n h.characters h.each h.occurs h.to longest
    where
      go : (n : ℕ) (cs : List ℕ) → EachPasses test cs → drop m s ≡ encode_utf8_all cs ++ drop n s → n ≡ m + length (encode_utf8_all cs) → ((c : ℕ) → Occurs s n (encode_utf8 c) → test c ≡ false) → (n ≡ m) ⊎ IsRun test s m n
      go n [] each stand to longest = inl (to ∙ add-zero m)
      go n (c ∷ cs) each stand to longest = inr (record {
        first = c;
        others = cs;
        each = each;
        occurs = Occurs-from_drop s m (encode_utf8_all (c ∷ cs)) (drop n s) stand;
        to = to;
        longest = longest;
      })

  -- what was read is the whole run
  pub whole_run : (n : ℕ) → (n ≡ m) ⊎ IsRun test s m n → ((c : ℕ) → Occurs s n (encode_utf8 c) → test c ≡ false) → (k : ℕ) → IsRun test s m k → k ≡ n
  whole_run n (inl e) longest k run =
      let F : ℕ → Type 0 = λ x. Occurs s x (encode_utf8 run.first) in
      let fails = longest run.first (subst F (sym e) (run_first test s m k run)) in
      let passes = run.each.0 in
      absurd (cc)
  whole_run n (inr read) longest k run = one_run test s m k n run read

  -- a character that passes is there, so there is a run
  pub some_run : (n : ℕ) → (n ≡ m) ⊎ IsRun test s m n → ((c : ℕ) → Occurs s n (encode_utf8 c) → test c ≡ false) → (c : ℕ) → Occurs s m (encode_utf8 c) → test c ≡ true → IsRun test s m n
  some_run n (inl e) longest c o passes =
      let F : ℕ → Type 0 = λ x. Occurs s x (encode_utf8 c) in
      let fails = longest c (subst F (sym e) o) in
      absurd (cc)
  some_run n (inr read) longest c o passes = read
