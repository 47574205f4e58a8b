-- In the midst of a run: each step gives more of the outcome's text, brings the end nearer, and is never stuck; the last one gives the
-- outcome's end and states.
use Rattle.std.proofs.Common.{◌≡◌, ℕ, zero, suc, ◌+◌, ◌<◌, ◌≤◌, List, [], ◌++◌, Option, Some, None, option_map, refl, sym, ap, ◌∙◌, arith, append_assoc, append-nil}
use Rattle.upon_lookup.specs.Environment.{Root}
use Rattle.upon_meaning_spec.specs.Engine.{Calls, Resolver}
use Rattle.upon_meaning_spec.specs.Outcome.{End, Outcome, States, with_text_before}
use Rattle.upon_machine_spec.specs.Run.{on_next, run, count_next, steps, text_of_next, Midway}
use Rattle.upon_machine_spec.specs.State.{State}
use Rattle.upon_machine_spec.specs.Step.{Next, goes, stops, stuck, step}
use Rattle.upon_machine_spec.proofs.FollowsTree.Comes.{twice}

module _ {V T : Type 0} (calls : Calls V) (resolve : Resolver T) (root : Root) where
  abbrev go : ℕ → State V T → Option (Outcome (States V T))
  go n s = run calls resolve root n s

  abbrev count : ℕ → State V T → ℕ
  count n s = steps calls resolve root n s

  abbrev on : ℕ → Next V T → Option (Outcome (States V T))
  on n x = on_next (run calls resolve root n) x

  some_of : (w : List ℕ) (x : Option (Outcome (States V T))) (o : Outcome (States V T)) → option_map (with_text_before w) x ≡ Some o → (p : Outcome (States V T)) × (x ≡ Some p)
  some_of w None o e = absurd cc
  some_of w (Some p) o e = (p, refl)

  -- more steps change nothing
  longer_next : (n m : ℕ) (x : Next V T) (o : Outcome (States V T)) → ((s : State V T) (p : Outcome (States V T)) → go m s ≡ Some p → go n s ≡ Some p) → on m x ≡ Some o → on n x ≡ Some o
  longer_next n m (goes w s) o h e = let k = some_of w (go m s) o e in ap (option_map (with_text_before w)) (h s k.0 k.1 ∙ sym k.1) ∙ e
  longer_next n m (stops w x q) o h e = e
  longer_next n m stuck o h e = absurd cc

  pub longer : (m n : ℕ) (s : State V T) (o : Outcome (States V T)) → m ≤ n → go m s ≡ Some o → go n s ≡ Some o
  longer zero n s o le e = absurd cc
  longer (suc m) zero s o le e = absurd (omega (arith, le))
  longer (suc m) (suc n) s o le e = longer_next n m (step calls resolve root s) o (λ s' p e'. longer m n s' p (omega (arith, le)) e') e

  count_longer : (n m : ℕ) (x : Next V T) (o : Outcome (States V T)) → ((s : State V T) (p : Outcome (States V T)) → go m s ≡ Some p → count n s ≡ count m s) → on m x ≡ Some o → count_next (steps calls resolve root n) x ≡ count_next (steps calls resolve root m) x
  count_longer n m (goes w s) o h e = let k = some_of w (go m s) o e in ap (λ j. j + 1) (h s k.0 k.1)
  count_longer n m (stops w x q) o h e = refl
  count_longer n m stuck o h e = refl

  steps_longer : (m n : ℕ) (s : State V T) (o : Outcome (States V T)) → m ≤ n → go m s ≡ Some o → count n s ≡ count m s
  steps_longer zero n s o le e = absurd cc
  steps_longer (suc m) zero s o le e = absurd (omega (arith, le))
  steps_longer (suc m) (suc n) s o le e = count_longer n m (step calls resolve root s) o (λ s' p e'. steps_longer m n s' p (omega (arith, le)) e') e

  -- at the start
  pub at_first : (n : ℕ) (s : State V T) (o : Outcome (States V T)) → go n s ≡ Some o → Midway calls resolve root n [] s o
  at_first n s o e = ap (option_map (with_text_before [])) e

  next_run : (n : ℕ) (w t : List ℕ) (s s' : State V T) (o : Outcome (States V T)) → step calls resolve root s ≡ goes t s' → Midway calls resolve root (suc n) w s o → Midway calls resolve root n (w ++ t) s' o
  next_run n w t s s' o st e = sym (twice w t (go n s')) ∙ sym (ap (λ x. option_map (with_text_before w) (on n x)) st) ∙ e

  -- a step that goes on
  pub goes_on : (n : ℕ) (w t : List ℕ) (s s' : State V T) (o : Outcome (States V T)) → step calls resolve root s ≡ goes t s' → Midway calls resolve root n w s o → Midway calls resolve root n (w ++ t) s' o
  goes_on zero w t s s' o st e = absurd cc
  goes_on (suc n) w t s s' o st e =
      let k = next_run n w t s s' o st e in
      let p = some_of (w ++ t) (go n s') o k in
      ap (option_map (with_text_before (w ++ t))) (longer n (suc n) s' p.0 (omega arith) p.1 ∙ sym p.1) ∙ k

  pub falls : (n : ℕ) (w t : List ℕ) (s s' : State V T) (o : Outcome (States V T)) → step calls resolve root s ≡ goes t s' → Midway calls resolve root n w s o → count n s' < count n s
  falls zero w t s s' o st e = absurd cc
  falls (suc n) w t s s' o st e =
      let p = some_of (w ++ t) (go n s') o (next_run n w t s s' o st e) in
      let same : count (suc n) s' ≡ count n s' = steps_longer n (suc n) s' p.0 (omega arith) p.1 in
      let more : count (suc n) s ≡ count n s' + 1 = ap (count_next (steps calls resolve root n)) st in
      omega (arith, same, more)

  over_by : (n : ℕ) (w t : List ℕ) (end : End) (q : States V T) (s : State V T) (o : Outcome (States V T)) → step calls resolve root s ≡ stops t end q → Midway calls resolve root n w s o → Some (record { text = w ++ t; end = end; next = q }) ≡ Some o
  over_by zero w t end q s o st e = absurd cc
  over_by (suc n) w t end q s o st e = sym (ap (λ x. option_map (with_text_before w) (on n x)) st) ∙ e

  -- a step that ends the run
  pub over : (n : ℕ) (w t : List ℕ) (end : End) (q : States V T) (s : State V T) (o : Outcome (States V T)) → step calls resolve root s ≡ stops t end q → Midway calls resolve root n w s o → record { text = w ++ t; end = end; next = q } ≡ o
  over n w t end q s o st e = let is = over_by n w t end q s o st e in cc

  -- no step is stuck
  pub unstuck : (n : ℕ) (w : List ℕ) (s : State V T) (o : Outcome (States V T)) → step calls resolve root s ≡ stuck → Midway calls resolve root n w s o → ⊥
  unstuck zero w s o st h = absurd cc
  unstuck (suc n) w s o st h = let e = sym (ap (λ x. option_map (with_text_before w) (on n x)) st) ∙ h in absurd cc

  begins_in : (x : Option (Outcome (States V T))) (w t : List ℕ) (o : Outcome (States V T)) → option_map (with_text_before w) (option_map (with_text_before t) x) ≡ Some o → (rest : List ℕ) × (o.text ≡ (w ++ t) ++ rest)
  begins_in None w t o e = absurd cc
  begins_in (Some p) w t o e = let is : with_text_before w (with_text_before t p) ≡ o = cc in (p.text, sym (ap (λ o. o.text) is) ∙ sym (append_assoc w t p.text))

  begins_by : (n : ℕ) (w : List ℕ) (x : Next V T) (o : Outcome (States V T)) → option_map (with_text_before w) (on n x) ≡ Some o → (rest : List ℕ) × (o.text ≡ (w ++ text_of_next x) ++ rest)
  begins_by n w (goes t s') o e = begins_in (go n s') w t o e
  begins_by n w (stops t end q) o e = let is : record { text = w ++ t; end = end; next = q } ≡ o = cc in ([], sym (ap (λ o. o.text) is) ∙ sym (append-nil (w ++ t)))
  begins_by n w stuck o e = absurd cc

  -- what has been given, and the text of the next step, begin the outcome's text
  pub begins : (n : ℕ) (w : List ℕ) (s : State V T) (o : Outcome (States V T)) → Midway calls resolve root n w s o → (rest : List ℕ) × (o.text ≡ (w ++ text_of_next (step calls resolve root s)) ++ rest)
  begins zero w s o h = absurd cc
  begins (suc n) w s o h = begins_by n w (step calls resolve root s) o h
