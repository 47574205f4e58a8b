-- Walks along parts of a program, which count the blocks from the outermost on that binds a name.
use Rattle.std.proofs.Common.{◌≡◌, ◌⊎◌, ◌↔◌, ℕ, zero, suc, ◌+◌, ◌-◌, ◌≤◌, List, [], ◌∷◌, ◌++◌, length, Bool, true, false, ◌||◌, if◌then◌else◌, inl, inr, refl, sym, ap, ◌∙◌, arith}
use Rattle.std.specs.List.{list_any}
use Rattle.std.proofs.lemmas.List.Folds.{list_any-append}
use Rattle.std.proofs.lemmas.Bool.{le-leb, lt-leb}
use Rattle.upon_machine_spec.specs.Instr.{Instr, jump, with_start, with_end, loop_start}
use Rattle.upon_machine_spec.specs.ProgramNames.{block_begins, count_after, unbound}

-- an instruction that begins and ends no block
abbrev pub IsPlain : Instr → Type 0
IsPlain (with_start word) = ⊥
IsPlain with_end = ⊥
IsPlain (loop_start names span) = ⊥
IsPlain (jump to) = ⊥
IsPlain i = Unit {0}

abbrev pub ArePlain : List Instr → Type 0
ArePlain [] = Unit {0}
ArePlain (i ∷ is) = IsPlain i × ArePlain is

pub plain_append : (a b : List Instr) → ArePlain a → ArePlain b → ArePlain (a ++ b)
plain_append [] b h k = k
plain_append (i ∷ a) b h k = (h.0, plain_append a b h.1 k)

-- one or the other holds, as a test says
pub either : (a b : Bool) {P Q : Type 0} → ((a ≡ true) ↔ P) → ((b ≡ true) ↔ Q) → ((a || b) ≡ true) ↔ (P ⊎ Q)
either true b p q = (λ e. inl (p.0 refl), λ h. refl)
either false b {P} {Q} p q = (λ e. inr (q.0 e), other)
  where
    other : P ⊎ Q → b ≡ true
    other (inl h) = let never : false ≡ true = p.1 h in absurd (cc)
    other (inr h) = q.1 h

module _ (name : List ℕ) where
  -- the count after all of some instructions
  abbrev pub count_all : ℕ → List Instr → ℕ → ℕ
  count_all at [] n = n
  count_all at (i ∷ is) n = count_all (at + 1) is (count_after name at i n)

  pub count_append : (at : ℕ) (a b : List Instr) (n : ℕ) → count_all at (a ++ b) n ≡ count_all (at + length a) b (count_all at a n)
  count_append at [] b n = let e : at ≡ at + 0 = omega arith in ap (λ p. count_all p b n) e
  count_append at (i ∷ a) b n =
      let e : at + 1 + length a ≡ at + length (i ∷ a) = omega arith in
      count_append (at + 1) a b (count_after name at i n) ∙ ap (λ p. count_all p b (count_all at (i ∷ a) n)) e

  pub unbound_append : (at : ℕ) (a b : List Instr) (n : ℕ) → unbound name at n (a ++ b) ≡ unbound name at n a ++ unbound name (at + length a) (count_all at a n) b
  unbound_append at [] b n = let e : at ≡ at + 0 = omega arith in ap (λ p. unbound name p n b) e
  unbound_append at (i ∷ a) b zero =
      let e : at + 1 + length a ≡ at + length (i ∷ a) = omega arith in
      ap (λ l. i ∷ l) (unbound_append (at + 1) a b (count_after name at i zero) ∙ ap (λ p. unbound name (at + 1) (count_after name at i zero) a ++ unbound name p (count_all at (i ∷ a) zero) b) e)
  unbound_append at (i ∷ a) b (suc n) =
      let e : at + 1 + length a ≡ at + length (i ∷ a) = omega arith in
      unbound_append (at + 1) a b (count_after name at i (suc n)) ∙ ap (λ p. unbound name (at + 1) (count_after name at i (suc n)) a ++ unbound name p (count_all at (i ∷ a) (suc n)) b) e

  plain_keeps : (i : Instr) (at n : ℕ) → IsPlain i → count_after name at i n ≡ n
  plain_keeps (with_start word) at n h = absurd h
  plain_keeps with_end at n h = absurd h
  plain_keeps (loop_start names span) at n h = absurd h
  plain_keeps (jump to) at n h = absurd h
  plain_keeps _ at n h = refl

  pub forward_keeps : (to at n : ℕ) → at + 1 ≤ to → count_after name at (jump to) n ≡ n
  forward_keeps to at n h = ap (λ x. if x then n - 1 else n) (lt-leb to at (omega (arith, h)))

  pub back_ends : (to at n : ℕ) → to ≤ at → count_after name at (jump to) n ≡ n - 1
  back_ends to at n h = ap (λ x. if x then n - 1 else n) (le-leb to at h)

  plain_count : (at : ℕ) (c : List Instr) (n : ℕ) → ArePlain c → count_all at c n ≡ n
  plain_count at [] n h = refl
  plain_count at (i ∷ c) n h = ap (count_all (at + 1) c) (plain_keeps i at n h.0) ∙ plain_count (at + 1) c n h.1

  plain_unbound : (at : ℕ) (c : List Instr) → ArePlain c → unbound name at 0 c ≡ c
  plain_unbound at [] h = refl
  plain_unbound at (i ∷ c) h = ap (λ l. i ∷ l) (ap (λ n. unbound name (at + 1) n c) (plain_keeps i at 0 h.0) ∙ plain_unbound (at + 1) c h.1)

  plain_bound : (at n : ℕ) (c : List Instr) → ArePlain c → unbound name at (suc n) c ≡ []
  plain_bound at n [] h = refl
  plain_bound at n (i ∷ c) h = ap (λ m. unbound name (at + 1) m c) (plain_keeps i at (suc n) h.0) ∙ plain_bound (at + 1) n c h.1

  -- what a walk along instructions at an offset finds by a test of each: they end the blocks that they begin, inside a
  -- block that binds the name nothing is found, and outside it is as P says
  pub record Walks (f : Instr → Bool) (at : ℕ) (c : List Instr) (P : Type 0) : Type 0 where
    pub ends : (n : ℕ) → count_all at c n ≡ n
    pub bound : (n : ℕ) → unbound name at (suc n) c ≡ []
    pub finds : (list_any f (unbound name at 0 c) ≡ true) ↔ P

  -- a walk that finds the same in other words
  pub reworded : (f : Instr → Bool) (at : ℕ) (c : List Instr) (P Q : Type 0) → (P → Q) → (Q → P) → Walks f at c P → Walks f at c Q
  reworded f at c P Q there back w = record { ends = w.ends; bound = w.bound; finds = (λ e. there (w.finds.0 e), λ q. w.finds.1 (back q)) }

  module _ (f : Instr → Bool) where
    pub walk_nothing : (at : ℕ) → Walks f at [] ⊥
    walk_nothing at = record { ends = λ n. refl; bound = λ n. refl; finds = (λ e. absurd (cc), λ h. absurd h) }

    pub walk_plain : (at : ℕ) (c : List Instr) (P : Type 0) → ArePlain c → ((list_any f c ≡ true) ↔ P) → Walks f at c P
    walk_plain at c P h says = record {
      ends = λ n. plain_count at c n h;
      bound = λ n. plain_bound at n c h;
      finds = (λ e. says.0 (ap (list_any f) (sym (plain_unbound at c h)) ∙ e), λ p. ap (list_any f) (plain_unbound at c h) ∙ says.1 p);
    }

    pub walk_then : (at : ℕ) (a b : List Instr) (P Q : Type 0) → Walks f at a P → Walks f (at + length a) b Q → Walks f at (a ++ b) (P ⊎ Q)
    walk_then at a b P Q h k =
        let seen : list_any f (unbound name at 0 (a ++ b)) ≡ (list_any f (unbound name at 0 a) || list_any f (unbound name (at + length a) 0 b)) =
        ap (list_any f) (unbound_append at a b 0 ∙ ap (λ n. unbound name at 0 a ++ unbound name (at + length a) n b) (h.ends 0)) ∙ list_any-append f (unbound name at 0 a) (unbound name (at + length a) 0 b) in
        let both = either (list_any f (unbound name at 0 a)) (list_any f (unbound name (at + length a) 0 b)) h.finds k.finds in
        record {
          ends = λ n. count_append at a b n ∙ ap (count_all (at + length a) b) (h.ends n) ∙ k.ends n;
          bound = λ n. unbound_append at a b (suc n) ∙ (λ i. h.bound n i ++ unbound name (at + length a) (h.ends (suc n) i) b) ∙ k.bound n;
          finds = (λ e. both.0 (sym seen ∙ e), λ p. seen ∙ both.1 p);
        }

    -- an instruction that keeps the count, and is not looked for
    pub walk_after : (at : ℕ) (i : Instr) (c : List Instr) (P : Type 0) → ((n : ℕ) → count_after name at i n ≡ n) → f i ≡ false → Walks f (at + 1) c P → Walks f at (i ∷ c) P
    walk_after at i c P keeps other k =
        let seen : list_any f (unbound name at 0 (i ∷ c)) ≡ list_any f (unbound name (at + 1) 0 c) = λ j. other j || list_any f (unbound name (at + 1) (keeps 0 j) c) in
        record {
          ends = λ n. ap (count_all (at + 1) c) (keeps n) ∙ k.ends n;
          bound = λ n. ap (λ m. unbound name (at + 1) m c) (keeps (suc n)) ∙ k.bound n;
          finds = (λ e. k.finds.0 (sym seen ∙ e), λ p. seen ∙ k.finds.1 p);
        }

    -- a block, from the instruction that begins it to the one that ends it
    module _ (at : ℕ) (i : Instr) (c : List Instr) (j : Instr) (binds : Bool) (Hides P : Type 0) (decides : (binds ≡ true) ↔ Hides) (begin : (n : ℕ) → count_after name at i n ≡ block_begins binds n) (end : (n : ℕ) → count_after name (at + 1 + length c) j n ≡ n - 1) (no_begin : f i ≡ false) (no_end : f j ≡ false) (k : Walks f (at + 1) c P) where
      counted : (n : ℕ) → count_all (at + 1) (c ++ j ∷ []) n ≡ n - 1
      counted n = count_append (at + 1) c (j ∷ []) n ∙ ap (count_after name (at + 1 + length c) j) (k.ends n) ∙ end n

      less_one : (x : Bool) (n : ℕ) → block_begins x n - 1 ≡ n
      less_one true zero = refl
      less_one false zero = refl
      less_one x (suc n) = omega arith

      -- inside a block that binds the name nothing is found up to the end
      all_bound : (n : ℕ) → unbound name (at + 1) (suc n) (c ++ j ∷ []) ≡ []
      all_bound n = unbound_append (at + 1) c (j ∷ []) (suc n) ∙ (λ x. k.bound n x ++ unbound name (at + 1 + length c) (k.ends (suc n) x) (j ∷ []))

      in_block : (x : Bool) → binds ≡ x → (list_any f (unbound name (at + 1) (block_begins x 0) (c ++ j ∷ [])) ≡ true) ↔ ((Hides → ⊥) × P)
      in_block true is = (λ e. let never : false ≡ true = sym (ap (list_any f) (all_bound 0)) ∙ e in absurd (cc), λ h. absurd (h.0 (decides.0 is)))
      in_block false is =
          let seen : list_any f (unbound name (at + 1) 0 (c ++ j ∷ [])) ≡ (list_any f (unbound name (at + 1) 0 c) || (f j || false)) =
          ap (list_any f) (unbound_append (at + 1) c (j ∷ []) 0 ∙ ap (λ n. unbound name (at + 1) 0 c ++ unbound name (at + 1 + length c) n (j ∷ [])) (k.ends 0)) ∙ list_any-append f (unbound name (at + 1) 0 c) (j ∷ []) in
          let nothing : ((f j || false) ≡ true) ↔ ⊥ = (λ e. let never : false ≡ true = sym (ap (λ x. x || false) no_end) ∙ e in absurd (cc), λ h. absurd h) in
          let both = either (list_any f (unbound name (at + 1) 0 c)) (f j || false) k.finds nothing in
          (λ e. (λ hides. let never : false ≡ true = sym is ∙ decides.1 hides in absurd (cc), first (both.0 (sym seen ∙ e))), λ h. seen ∙ both.1 (inl h.1))
        where
          first : P ⊎ ⊥ → P
          first (inl p) = p
          first (inr h) = absurd h

      pub walk_block : Walks f at (i ∷ (c ++ j ∷ [])) ((Hides → ⊥) × P)
      walk_block =
          let seen : list_any f (unbound name at 0 (i ∷ (c ++ j ∷ []))) ≡ list_any f (unbound name (at + 1) (block_begins binds 0) (c ++ j ∷ [])) = λ x. no_begin x || list_any f (unbound name (at + 1) (begin 0 x) (c ++ j ∷ [])) in
          let inside = in_block binds refl in
          record {
            ends = λ n. ap (count_all (at + 1) (c ++ j ∷ [])) (begin n) ∙ counted (block_begins binds n) ∙ less_one binds n;
            bound = λ n. ap (λ m. unbound name (at + 1) m (c ++ j ∷ [])) (begin (suc n)) ∙ all_bound (suc n);
            finds = (λ e. inside.0 (sym seen ∙ e), λ h. seen ∙ inside.1 h);
          }
