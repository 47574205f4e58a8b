-- Runs that come from one state to another, or end.
use Rattle.std.proofs.Common.{◌≡◌, ℕ, suc, List, [], ◌++◌, Option, Some, None, option_map, refl, sym, ap, ◌∙◌, subst, append_assoc, append-nil}
use Rattle.std.specs.Prelude.{slice_get}
use Rattle.upon_lookup.specs.Environment.{Root}
use Rattle.upon_meaning_spec.specs.Engine.{Calls, Resolver}
use Rattle.upon_meaning_spec.specs.Evaluation.{Operand}
use Rattle.upon_meaning_spec.specs.Outcome.{End, good, fails, too_deep, Outcome, States, with_text_before, go_on, then_do}
use Rattle.upon_machine_spec.specs.Instr.{Instr}
use Rattle.upon_machine_spec.specs.Run.{on_next, run}
use Rattle.upon_machine_spec.specs.State.{Active, Caller, Frame, State}
use Rattle.upon_machine_spec.specs.Step.{goes, stops, act, step}

-- a text before an outcome, and one before that, are one text before it
pub twice : {V T : Type 0} (a b : List ℕ) (o : Option (Outcome (States V T))) → option_map (with_text_before a) (option_map (with_text_before b) o) ≡ option_map (with_text_before (a ++ b)) o
twice a b None = refl
twice a b (Some o) = ap (λ l. Some (record o { text = l })) (sym (append_assoc a b o.text))

-- at an instruction of a template
abbrev pub state_at : {V T : Type 0} → Active → List Caller → ℕ → List Operand → List Frame → States V T → State V T
state_at active callers place ops fs s = record { active = active; callers = callers; position = place; operands = ops; frames = fs; asked = s }

module _ {V T : Type 0} (calls : Calls V) (resolve : Resolver T) (root : Root) where
  abbrev pub go : ℕ → State V T → Option (Outcome (States V T))
  go n s = run calls resolve root n s

  -- the run from s gives the text and goes on as the run from s'
  pub record Comes (s : State V T) (text : List ℕ) (s' : State V T) : Type 0 where
    pub by : (k : ℕ) → (j : ℕ) × (go j s ≡ option_map (with_text_before text) (go k s'))

  -- the run from s ends so
  pub record Ends (s : State V T) (o : Outcome (States V T)) : Type 0 where
    pub by : (j : ℕ) × (go j s ≡ Some o)

  abbrev pub Reaches : End → State V T → List ℕ → States V T → State V T → Type 0
  Reaches good s text q s' = Comes s text s'
  Reaches (fails f) s text q s' = Ends s (record { text = text; end = fails f; next = q })
  Reaches too_deep s text q s' = Ends s (record { text = text; end = too_deep; next = q })

  -- from s the run does what the outcome says, and is then at s'
  abbrev pub Follows : State V T → Outcome (States V T) → (States V T → State V T) → Type 0
  Follows s o s' = Reaches o.end s o.text o.next (s' o.next)

  none : (o : Option (Outcome (States V T))) → o ≡ option_map (with_text_before []) o
  none None = refl
  none (Some o) = refl

  pub comes_here : (s : State V T) → Comes s [] s
  comes_here s = record { by = λ k. (k, none (go k s)) }

  pub comes_on : (s s1 s2 : State V T) (a b : List ℕ) → Comes s a s1 → Comes s1 b s2 → Comes s (a ++ b) s2
  comes_on s s1 s2 a b x y = record { by = λ k. let n = y.by k in let m = x.by n.0 in (m.0, m.1 ∙ ap (option_map (with_text_before a)) n.1 ∙ twice a b (go k s2)) }

  ends_then : (s s1 : State V T) (a : List ℕ) (o : Outcome (States V T)) → Comes s a s1 → Ends s1 o → Ends s (with_text_before a o)
  ends_then s s1 a o x y = record { by = let n = y.by in let m = x.by n.0 in (m.0, m.1 ∙ ap (option_map (with_text_before a)) n.1) }

  pub one : (s s1 : State V T) (text : List ℕ) → step calls resolve root s ≡ goes text s1 → Comes s text s1
  one s s1 text e = record { by = λ k. (suc k, ap (on_next (run calls resolve root k)) e) }

  pub stop : (s : State V T) (o : Outcome (States V T)) → step calls resolve root s ≡ stops o.text o.end o.next → Ends s o
  stop s o e = record { by = (1, ap (on_next (run calls resolve root 0)) e) }

  reaches_then : (end : End) (s s1 : State V T) (a b : List ℕ) (q : States V T) (s2 : State V T) → Comes s a s1 → Reaches end s1 b q s2 → Reaches end s (a ++ b) q s2
  reaches_then good s s1 a b q s2 x y = comes_on s s1 s2 a b x y
  reaches_then (fails f) s s1 a b q s2 x y = ends_then s s1 a _ x y
  reaches_then too_deep s s1 a b q s2 x y = ends_then s s1 a _ x y

  -- some text, and then what an outcome says
  pub comes_after : (s s1 : State V T) (a : List ℕ) (o : Outcome (States V T)) (s2 : States V T → State V T) → Comes s a s1 → Follows s1 o s2 → Follows s (with_text_before a o) s2
  comes_after s s1 a o s2 x y = reaches_then o.end s s1 a o.text o.next (s2 o.next) x y

  -- no text
  pub comes_then : (s s1 : State V T) (o : Outcome (States V T)) (s2 : States V T → State V T) → Comes s [] s1 → Follows s1 o s2 → Follows s o s2
  comes_then s s1 o s2 x y = reaches_then o.end s s1 [] o.text o.next (s2 o.next) x y

  comes_end : (s s1 s2 : State V T) (text : List ℕ) → Comes s text s1 → Comes s1 [] s2 → Comes s text s2
  comes_end s s1 s2 text x y = subst (λ u. Comes s u s2) (append-nil text) (comes_on s s1 s2 text [] x y)

  reaches_end : (end : End) (s : State V T) (text : List ℕ) (q : States V T) (s1 s2 : State V T) → Reaches end s text q s1 → Comes s1 [] s2 → Reaches end s text q s2
  reaches_end good s text q s1 s2 x y = comes_end s s1 s2 text x y
  reaches_end (fails f) s text q s1 s2 x y = x
  reaches_end too_deep s text q s1 s2 x y = x

  pub then_comes : (s : State V T) (o : Outcome (States V T)) (s1 s2 : States V T → State V T) → Follows s o s1 → ((q : States V T) → Comes (s1 q) [] (s2 q)) → Follows s o s2
  then_comes s o s1 s2 x y = reaches_end o.end s o.text o.next (s1 o.next) (s2 o.next) x (y o.next)

  by_end : (end : End) (s : State V T) (text : List ℕ) (q : States V T) (o : States V T → Outcome (States V T)) (s1 s2 : States V T → State V T) → Reaches end s text q (s1 q) → Follows (s1 q) (o q) s2 → Follows s (go_on text end q o) s2
  by_end good s text q o s1 s2 x y = comes_after s (s1 q) text (o q) s2 x y
  by_end (fails f) s text q o s1 s2 x y = x
  by_end too_deep s text q o s1 s2 x y = x

  -- one outcome and then another
  pub in_turn : (s : State V T) (o : Outcome (States V T)) (o' : States V T → Outcome (States V T)) (s1 s2 : States V T → State V T) → Follows s o s1 → ((q : States V T) → Follows (s1 q) (o' q) s2) → Follows s (then_do o o') s2
  in_turn s o o' s1 s2 x y = by_end o.end s o.text o.next o' s1 s2 x (y o.next)

  -- a step in a template, by the instruction there
  pub step_at : (active : Active) (callers : List Caller) (place : ℕ) (ops : List Operand) (fs : List Frame) (s : States V T) (i : Instr) → slice_get active.code place ≡ Some i → step calls resolve root (state_at active callers place ops fs s) ≡ act calls resolve root (Some i) (state_at active callers place ops fs s)
  step_at active callers place ops fs s i h = ap (λ o. act calls resolve root o (state_at active callers place ops fs s)) h

  pub to_place : (active : Active) (callers : List Caller) (s : State V T) (o : Outcome (States V T)) (p p' : ℕ) (ops : List Operand) (fs : List Frame) → p ≡ p' → Follows s o (λ q. state_at active callers p ops fs q) → Follows s o (λ q. state_at active callers p' ops fs q)
  to_place active callers s o p p' ops fs e h = subst (λ n. Follows s o (λ q. state_at active callers n ops fs q)) e h
