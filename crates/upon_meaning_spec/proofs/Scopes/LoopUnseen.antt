-- A `for` variable named `loop` is never seen: the whole loop means what it means where no item binds that name.
use Rattle.std.proofs.Common.{◌≡◌, ℕ, suc, ◌+◌, List, [], ◌∷◌, ◌++◌, length, map, Bool, true, false, Some, refl, ap, ◌∙◌, codes, bytes_eq, if◌then◌else◌}
use Rattle.std.proofs.lemmas.Slice.Eq.{bytes_eq-Decides}
use Rattle.upon_types.specs.declared.types.Span.{Span}
use Rattle.upon_types.specs.declared.types.ast.path.AccessOp.{AccessOp}
use Rattle.upon_types.specs.Expression.{Expression, expression_span}
use Rattle.upon_types.specs.Path.{Access, by_index, by_key, Member, LoopVars}
use Rattle.upon_types.specs.Tree.{Statements, Else, for_loop}
use Rattle.upon_lookup.specs.Environment.{Binding, loop_state, Environment, first_bound, iteration}
use Rattle.upon_lookup.specs.Finding.{Finding, found, at_fault}
use Rattle.upon_lookup.specs.Items.{items_of}
use Rattle.upon_lookup.specs.Lookup.{maybe_bound, or_root, lookup}
use Rattle.upon_lookup.specs.Source.{Source}
use Rattle.upon_meaning_spec.specs.Alone.{included}
use Rattle.upon_meaning_spec.specs.Engine.{Calls, Resolver}
use Rattle.upon_meaning_spec.specs.Evaluation.{evaluate}
use Rattle.upon_meaning_spec.specs.Meaning.{RunningTemplate, with_value, loop_turns, turns_over, each, each_or, statement_means, statements_mean, else_means}
use Rattle.upon_meaning_spec.specs.Outcome.{Outcome, States, then_do}
use Rattle.upon_meaning_spec.specs.Shadowing.{without, items_without}
use Rattle.upon_meaning_spec.proofs.SameIncludes.{alike_body}
use Rattle.upon_meaning_spec.proofs.SameLookups.{Any, FoundAlike}

-- a name that is not this one is found as if none of this name were there
module _ (name w : List ℕ) (other : bytes_eq w name ≡ false) (rest : List Binding) where
  skipped : (x : Bool) (b : Binding) (bs : List Binding) → bytes_eq b.name name ≡ x → first_bound w (bs ++ rest) ≡ first_bound w (without name bs ++ rest) →
      first_bound w (b ∷ (bs ++ rest)) ≡ first_bound w ((if x then without name bs else (b ∷ without name bs)) ++ rest)
  skipped false b bs is h = ap (λ y. if bytes_eq w b.name then Some b.bound else y) h
  skipped true b bs is h =
      let same : b.name ≡ name = (bytes_eq-Decides b.name name).0 is in
      ap (λ n. if bytes_eq w n then Some b.bound else first_bound w (bs ++ rest)) same ∙ ap (λ y. if y then Some b.bound else first_bound w (bs ++ rest)) other ∙ h

  found_without : (bs : List Binding) → first_bound w (bs ++ rest) ≡ first_bound w (without name bs ++ rest)
  found_without [] = refl
  found_without (b ∷ bs) = skipped (bytes_eq b.name name) b bs refl (found_without bs)

module _ {V : Type 0} (ask : Source V) (index count : ℕ) (bs : List Binding) (env : Environment) where
  by_name : (w : List ℕ) (x : Bool) → bytes_eq w (codes "loop") ≡ x →
      (if x then Some (loop_state index count) else first_bound w (bs ++ env.bindings)) ≡ (if x then Some (loop_state index count) else first_bound w (without (codes "loop") bs ++ env.bindings))
  by_name w true is = refl
  by_name w false is = found_without (codes "loop") w is env.bindings bs

  by_selector : (selector : Access) (op : AccessOp) (span : Span) (rest : List Member) (q : V) →
      lookup ask (iteration index count bs env) (record { op = op; access = selector; span = span }) rest q ≡ lookup ask (iteration index count (without (codes "loop") bs) env) (record { op = op; access = selector; span = span }) rest q
  by_selector (by_index n at) op span rest q = refl
  by_selector (by_key word) op span rest q =
      ap (λ x. or_root (maybe_bound x rest) ask env.root (record { op = op; access = by_key word; span = span }) rest q) (by_name word.text (bytes_eq word.text (codes "loop")) refl)

  turn_alike : FoundAlike ask Any (iteration index count bs env) (iteration index count (without (codes "loop") bs) env)
  turn_alike first rest q known = by_selector first.access first.op first.span rest q

module _ {V T : Type 0} (calls : Calls V) (resolve : Resolver T) (left : ℕ) (running : RunningTemplate) (body : Statements) (env : Environment) where
  abbrev means : Environment → States V T → Outcome (States V T)
  means e s = statements_mean calls (included calls resolve left) running body e s

  each_unseen : (count index : ℕ) (items : List (List Binding)) (s : States V T) → each means (loop_turns count index items) env s ≡ each means (loop_turns count index (map (without (codes "loop")) items)) env s
  each_unseen count index [] s = refl
  each_unseen count index (bs ∷ items) s =
      λ i. then_do
      (alike_body calls resolve left running body (iteration index count bs env) (iteration index count (without (codes "loop") bs) env) (turn_alike calls.ask index count bs env) s i)
      (λ s'. each_unseen count (index + 1) items s' i)

  counted : (items : List (List Binding)) → length items ≡ length (map (without (codes "loop")) items)
  counted [] = refl
  counted (bs ∷ items) = ap suc (counted items)

  found_unseen : (other : Environment → States V T → Outcome (States V T)) (x : Finding (List (List Binding))) (s : States V T) → each_or means other running (turns_over x) env s ≡ each_or means other running (turns_over (items_without (codes "loop") x)) env s
  found_unseen other (found []) s = refl
  found_unseen other (found (bs ∷ items)) s =
      let without_it : List (List Binding) = map (without (codes "loop")) (bs ∷ items) in
      each_unseen (length (bs ∷ items)) 0 (bs ∷ items) s ∙ ap (λ n. each means (loop_turns n 0 without_it) env s) (counted (bs ∷ items))
  found_unseen other (at_fault f) s = refl

  pub loop_unseen : (names : LoopVars) (e : Expression) (other : Else) (s : States V T) →
      statement_means calls (included calls resolve left) running (for_loop names e body other) env s
      ≡ with_value running s.templates (evaluate calls e env s.values) (λ v q. each_or means (else_means calls (included calls resolve left) running other true) running (turns_over (items_without (codes "loop") (items_of names v (expression_span e)))) env q)
  loop_unseen names e other s = λ i. with_value running s.templates (evaluate calls e env s.values) (λ v q. found_unseen (else_means calls (included calls resolve left) running other true) (items_of names v (expression_span e)) q i)
