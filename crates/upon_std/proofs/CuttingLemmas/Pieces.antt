-- Where a separator stands in a text, and the parts round it.
use Rattle.std.proofs.Common.{◌≡◌, ℕ, zero, suc, ◌-◌, ◌≤◌, ◌<◌, Bool, true, false, cond, List, [], ◌∷◌, ◌++◌, length, take, drop, Bor, refl, ap, sym, subst, ◌∙◌, arith, rules}
use Rattle.std.specs.Prelude.{nat_eq, Option, Some, None, MatchOption}
use Rattle.std.specs.List.{starts_with, onto_first}
use Rattle.std.specs.Str.Iter.{split_steps, split_text, split_has_more, split_pattern}
use Rattle.std.specs.Str.Pattern.{FindsText, LacksTextAt, IsSplitAtFirstMatch}
use Rattle.std.proofs.lemmas.Iterator.{YieldsList}
use Rattle.std.proofs.lemmas.Iterator.Splits.{YieldsList-from_shown_while}
use Rattle.std.proofs.lemmas.List.{take-append-drop}
use Rattle.std.specs.Cmp.Lexicographic.{same_text}
use Rattle.upon_std.specs.Cutting.Pieces.{pieces_after, pieces}

-- a text begins with what it is made of
begins : (n b : List ℕ) → starts_with nat_eq (n ++ b) n ≡ true
begins [] b = search rules
begins (x ∷ n) b = grind (arith, begins n b)

-- what a text begins with is its front
pub front : (s n : List ℕ) → starts_with nat_eq s n ≡ true → s ≡ n ++ drop (length n) s
front s n h = sym (ap (λ x. x ++ drop (length n) s) (same_text n (take (length n) s) (sym h)) ∙ take-append-drop (length n) s)

no_front : (s n : List ℕ) → LacksTextAt n s 0 → (b : Bool) → starts_with nat_eq s n ≡ b → b ≡ false
no_front s n lacks true h = absurd (lacks (drop (length n) s) (front s n h))
no_front s n lacks false h = refl

-- the rest of a separator is passed
passed : (m rest separator : List ℕ) → pieces_after (length m) separator (m ++ rest) ≡ pieces separator rest
passed [] rest separator = refl
passed (c ∷ m) rest separator = passed m rest separator

-- a separator at the front ends an empty part
at_front : (c : ℕ) (m rest : List ℕ) → pieces (c ∷ m) ((c ∷ m) ++ rest) ≡ [] ∷ pieces (c ∷ m) rest
at_front c m rest =
    ap (λ b. cond b ([] ∷ pieces_after (length (c ∷ m) - 1) (c ∷ m) (m ++ rest)) (onto_first c (pieces_after zero (c ∷ m) (m ++ rest)))) (begins (c ∷ m) rest)
    ∙ (let less : length (c ∷ m) - 1 ≡ length m = omega arith in ap (λ k. [] ∷ pieces_after k (c ∷ m) (m ++ rest)) less)
    ∙ ap (λ parts. [] ∷ parts) (passed m rest (c ∷ m))

-- a byte at which no separator begins belongs to the first part
not_at_front : (c : ℕ) (cs n : List ℕ) → LacksTextAt n (c ∷ cs) 0 → pieces n (c ∷ cs) ≡ onto_first c (pieces n cs)
not_at_front c cs n lacks =
    ap (λ b. cond b ([] ∷ pieces_after (length n - 1) n cs) (onto_first c (pieces_after zero n cs))) (no_front (c ∷ cs) n lacks _ refl)

-- a text without a separator is one part
pub one_piece : (s n : List ℕ) → ((i : ℕ) → i ≤ length s → LacksTextAt n s i) → pieces n s ≡ s ∷ []
one_piece [] n lacks = refl
one_piece (c ∷ cs) n lacks =
    not_at_front c cs n (lacks 0 (omega arith)) ∙ ap (onto_first c) (one_piece cs n (λ i h. lacks (suc i) (omega arith)))

-- the first part ends where the first separator stands
pub first_piece : (i : ℕ) (s n rest : List ℕ) → 0 < length n → ((k : ℕ) → k < i → LacksTextAt n s k) → drop i s ≡ n ++ rest
    → pieces n s ≡ take i s ∷ pieces n rest
first_piece zero s [] rest some lacks at = absurd (omega arith)
first_piece zero s (c ∷ m) rest some lacks at = ap (pieces (c ∷ m)) at ∙ at_front c m rest
first_piece (suc i) [] [] rest some lacks at = absurd (omega arith)
first_piece (suc i) [] (c ∷ m) rest some lacks at = cc
first_piece (suc i) (c ∷ cs) n rest some lacks at =
    not_at_front c cs n (lacks 0 (omega arith)) ∙ ap (onto_first c) (first_piece i cs n rest some (λ k h. lacks (suc k) (omega arith)) at)

-- the parts that an iterator has still to give
abbrev pub shown : List ℕ → Bool → List ℕ → List (List ℕ)
shown separator more text = cond more (pieces separator text) []

-- one part comes, and the others are left
pub one_cut : (n w x rest : List ℕ) (live : Bool) → 0 < length n → IsSplitAtFirstMatch (FindsText n) w x live rest → pieces n w ≡ x ∷ shown n live rest
one_cut n w x rest live some cut = by_found cut.1.0 cut.1.1 cut.1.2
  where
    by_found : (o : Option (ℕ × ℕ)) → FindsText n w o → MatchOption o ((x ≡ w) × (live ≡ false)) (λ q. 0 < q.1 → (x ≡ take q.0 w) × (live ≡ true) × (rest ≡ drop q.1 w)) → pieces n w ≡ x ∷ shown n live rest
    by_found None finds is = one_piece w n finds ∙ (λ i. sym is.0 i ∷ shown n (sym is.1 i) rest)
    by_found (Some p) finds is =
        let at = is (omega (arith, finds.1.ends)) in
        first_piece p.0 w n (drop p.1 w) some finds.0 finds.1.split
        ∙ (λ i. sym at.0 i ∷ shown n (sym at.1 i) (sym at.2 i))

-- a part comes from an iterator, and the others are left in it
pub part_comes : (s t : _) (n : List ℕ) (x : Bor (List ℕ)) → 0 < length n → (split_pattern {P = Bor (List ℕ)} s).now ≡ n
    → split_steps (λ (p : Bor (List ℕ)). FindsText p.now) (λ (p q : Bor (List ℕ)). q.now ≡ p.now) s (Some x) t
    → ((split_pattern t).now ≡ n) × (shown n (split_has_more s) (split_text s) ≡ x.now ∷ shown n (split_has_more t) (split_text t))
part_comes s t n x some pattern step = (
  step.1.0 ∙ pattern,
  ap (λ b. shown n b (split_text s)) (sym step.0)
      ∙ one_cut n (split_text s) x.now (split_text t) (split_has_more t) some (subst (λ d. IsSplitAtFirstMatch (FindsText d) (split_text s) x.now (split_has_more t) (split_text t)) pattern step.1.1),
)

-- `split` gives the parts
pub YieldsList-from_text_split : {s : _} (n bs : List ℕ) → 0 < length n → split_text s ≡ bs → split_has_more s ≡ true → (split_pattern {P = Bor (List ℕ)} s).now ≡ n
    → YieldsList (split_steps (λ (p : Bor (List ℕ)). FindsText p.now) (λ p q. q.now ≡ p.now)) (λ x. x.now) s (pieces n bs)
YieldsList-from_text_split {s} n bs some text more pattern =
    subst (YieldsList (split_steps (λ (p : Bor (List ℕ)). FindsText p.now) (λ p q. q.now ≡ p.now)) (λ x. x.now) s) (λ i. shown n (more i) (text i))
    (YieldsList-from_shown_while (split_steps (λ (p : Bor (List ℕ)). FindsText p.now) (λ p q. q.now ≡ p.now)) (λ x. x.now) (λ t. shown n (split_has_more t) (split_text t)) (λ t. (split_pattern t).now ≡ n)
    (λ t u h k. ap (λ b. length (shown n b (split_text t))) (sym k.0))
    (λ t x u h k. part_comes t u n x some h k)
    s pattern)
