-- What the turns of a block are, a row for each kind: where they come from, what they bind, and which are alike. A block of one turn means what its body means there, and one without turns what its other branch means.
use Rattle.std.proofs.Common.{◌≡◌, ℕ, ◌+◌, List, [], ◌∷◌, map, codes, not, Bool, true, false, refl, sym, ap, subst, append-nil}
use Rattle.upon_types.specs.declared.types.Span.{Span}
use Rattle.upon_types.specs.Path.{Ident, LoopVars, item, key_value}
use Rattle.upon_types.specs.BlockKinds.{Opening, if_tag, for_tag, with_tag, opened_kind, block_names, may_have_else, LoopNamesSpans, OpeningSpans}
use Rattle.upon_types.specs.Truth.{truth}
use Rattle.upon_types.specs.Val.{Val, none_val, bool_val, int_val, text_val, list_val, map_val, entry_list}
use Rattle.upon_lookup.specs.Environment.{Binding, binding, plain, Environment, with_name}
use Rattle.upon_lookup.specs.Finding.{Finding, found, at_fault}
use Rattle.upon_lookup.specs.Items.{items_of, item_binds, entry_binds}
use Rattle.upon_lookup.specs.Vals.{val_list}
use Rattle.upon_meaning_spec.specs.Alike.{NamesAlike, OpeningsAlike, IsTurned}
use Rattle.upon_meaning_spec.specs.Meaning.{RunningTemplate, Body, choose, condition, loop_turns, turns_over, turns, each_or}
use Rattle.upon_meaning_spec.specs.Outcome.{End, good, fails, too_deep, Outcome, text_outcome, go_on, then_do}

module _ {Q : Type 0} where
  nothing_after : (text : List ℕ) (end : End) (q : Q) → go_on text end q (λ r. text_outcome [] r) ≡ record { text = text; end = end; next = q }
  nothing_after text good q = ap (λ (t : List ℕ). record { text = t; end = good; next = q }) (append-nil text)
  nothing_after text (fails f) q = refl
  nothing_after text too_deep q = refl

  -- nothing after an outcome
  pub one_turn : (o : Outcome Q) → then_do o (λ q. text_outcome [] q) ≡ o
  one_turn o = nothing_after o.text o.end o.next

  -- an `if`
  pub if_turns : (body other : Body Q) (running : RunningTemplate) (test : Bool) (env : Environment) (q : Q) → each_or body other running (found (choose test ([] ∷ []) [])) env q ≡ choose test (body env) (other env) q
  if_turns body other running true env q = one_turn (body env q)
  if_turns body other running false env q = refl

  -- a `with`
  pub with_turn : (body other : Body Q) (running : RunningTemplate) (word : Ident) (v : Val) (env : Environment) (q : Q) → each_or body other running (found ((binding word.text (plain v) ∷ []) ∷ [])) env q ≡ body (with_name word v env) q
  with_turn body other running word v env q = one_turn (body (with_name word v env) q)

-- ---- what holds of every span holds of those of what opens a block
module _ (P : Span → Type 0) (all : (span : Span) → P span) where
  of_names : (names : LoopVars) → LoopNamesSpans P names
  of_names (item name) = all name.span
  of_names (key_value key value both) = (all key.span, all value.span, all both)

  pub of_opening : (opening : Opening) → OpeningSpans P opening
  of_opening (if_tag negated) = tt
  of_opening (for_tag names) = of_names names
  of_opening (with_tag word) = all word.span

-- ---- the turns are over items, which names of the block's own give, or they are found
pub turns_hold : (P : Span → Type 0) (C : Finding (List (List Binding)) → Type 0) (opening : Opening) (v : Val) (at : Span) → OpeningSpans P opening → ((names : LoopVars) → LoopNamesSpans P names → C (turns_over (items_of names v at))) → ((all : List (List Binding)) → C (found all)) → C (turns opening at v)
turns_hold P C (if_tag negated) v at spans over those = those (choose (condition negated v) ([] ∷ []) [])
turns_hold P C (for_tag names) v at spans over those = over names spans
turns_hold P C (with_tag word) v at spans over those = those ((binding word.text (plain v) ∷ []) ∷ [])

-- the turns of two blocks that are alike, over items or found, and whether each may have another branch
pub alike_turns : (C : Bool → Finding (List (List Binding)) → Bool → Finding (List (List Binding)) → Type 0) (one other : Opening) (v : Val) (at at' : Span) → OpeningsAlike one other
    → ((may : Bool) (names names' : LoopVars) → NamesAlike names names' → C may (turns_over (items_of names v at)) may (turns_over (items_of names' v at')))
    → ((may : Bool) (all : List (List Binding)) → C may (found all) may (found all))
    → C (may_have_else (opened_kind one)) (turns one at v) (may_have_else (opened_kind other)) (turns other at' v)
alike_turns C (if_tag n) (if_tag m) v at at' h over those = subst (λ (b : Bool). C true (turns (if_tag n) at v) true (turns (if_tag b) at' v)) h (those true (choose (condition n v) ([] ∷ []) []))
alike_turns C (for_tag names) (for_tag names') v at at' h over those = over true names names' h
alike_turns C (with_tag a) (with_tag b) v at at' h over those = subst (λ (name : List ℕ). C false (turns (with_tag a) at v) false (found ((binding name (plain v) ∷ []) ∷ []))) h (those false ((binding a.text (plain v) ∷ []) ∷ []))
alike_turns C _ _ v at at' h over those = absurd h

-- of two blocks that are turned round one has a turn, which binds nothing, and the other none; both may have another branch
module _ (C : Bool → Finding (List (List Binding)) → Bool → Finding (List (List Binding)) → Type 0) (first : C true (found ([] ∷ [])) true (found [])) (second : C true (found []) true (found ([] ∷ []))) where
  either_turn : (m t : Bool) → C true (found (choose (choose (not m) (not t) t) ([] ∷ []) [])) true (found (choose (choose m (not t) t) ([] ∷ []) []))
  either_turn true true = first
  either_turn true false = second
  either_turn false true = second
  either_turn false false = first

  pub turned_turns : (one other : Opening) (v : Val) (at at' : Span) → IsTurned one other → C (may_have_else (opened_kind one)) (turns one at v) (may_have_else (opened_kind other)) (turns other at' v)
  turned_turns (if_tag n) (if_tag m) v at at' h = subst (λ (b : Bool). C true (turns (if_tag b) at v) true (turns (if_tag m) at' v)) (sym h) (either_turn m (truth v))
  turned_turns _ _ v at at' h = absurd h

-- ---- each turn binds the names that the block binds
abbrev pub EachBinds : List (List ℕ) → List (List Binding) → Type 0
EachBinds names [] = Unit {0}
EachBinds names (bs ∷ more) = (map (λ (b : Binding). b.name) bs ≡ names) × EachBinds names more

abbrev pub FoundBind : List (List ℕ) → Finding (List (List Binding)) → Type 0
FoundBind names (found more) = EachBinds names more
FoundBind names (at_fault f) = Unit {0}

all_bind : {A : Type 0} (names : List (List ℕ)) (f : A → List Binding) (xs : List A) → ((a : A) → (codes "loop" ∷ map (λ (b : Binding). b.name) (f a)) ≡ names) → (count index : ℕ) → EachBinds names (loop_turns count index (map f xs))
all_bind names f [] h count index = tt
all_bind names f (a ∷ xs) h count index = (h a, all_bind names f xs h count (index + 1))

items_bind : (names : LoopVars) (v : Val) (at : Span) → FoundBind (block_names (for_tag names)) (turns_over (items_of names v at))
items_bind (item word) (list_val vs) at = all_bind _ (item_binds word) (val_list vs) (λ v. refl) _ 0
items_bind (key_value key value both) (map_val es) at = all_bind _ (entry_binds key value) (entry_list es) (λ entry. refl) _ 0
items_bind (item word) (map_val es) at = tt
items_bind (item word) none_val at = tt
items_bind (item word) (bool_val b) at = tt
items_bind (item word) (int_val z) at = tt
items_bind (item word) (text_val s) at = tt
items_bind (key_value key value both) (list_val vs) at = tt
items_bind (key_value key value both) none_val at = tt
items_bind (key_value key value both) (bool_val b) at = tt
items_bind (key_value key value both) (int_val z) at = tt
items_bind (key_value key value both) (text_val s) at = tt

condition_binds : (test : Bool) → EachBinds [] (choose test ([] ∷ []) [])
condition_binds true = (refl, tt)
condition_binds false = tt

pub turns_bind : (opening : Opening) (at : Span) (v : Val) → FoundBind (block_names opening) (turns opening at v)
turns_bind (if_tag negated) at v = condition_binds (condition negated v)
turns_bind (for_tag names) at v = items_bind names v at
turns_bind (with_tag word) at v = (refl, tt)
