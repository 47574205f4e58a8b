-- The machine follows expressions: their values come on top of the operands, or their fault ends the run.
use Rattle.std.proofs.Common.{◌≡◌, ℕ, suc, ◌+◌, List, [], ◌∷◌, ◌++◌, length, Some, refl, sym, ap, ◌∙◌, subst, arith, append_assoc, append-nil, length-append}
use Rattle.std.specs.Prelude.{slice_get}
use Rattle.upon_types.specs.declared.types.Span.{Span}
use Rattle.upon_types.specs.Expression.{Expression, base, filtered, Base, var, literal, list, mapping, paren, call, Bases, no_bases, base_then, Items, no_items, item_then, Arguments, no_arguments, arguments}
use Rattle.upon_types.specs.Path.{Ident, path_span}
use Rattle.upon_types.specs.Val.{Val, list_val, map_val, Entries, no_entries}
use Rattle.upon_types.specs.View.{vals_of}
use Rattle.upon_lookup.specs.Environment.{Root}
use Rattle.upon_lookup.specs.Finding.{Finding, found, at_fault, Reply, reply, with_found}
use Rattle.upon_lookup.specs.Lookup.{lookup}
use Rattle.upon_meaning_spec.specs.Emission.{Emission, with_state, format_outcome, emit_found, callable_outcome, emit_call, emit_value, emit, emit_base}
use Rattle.upon_meaning_spec.specs.Engine.{Calls, Resolver}
use Rattle.upon_meaning_spec.specs.Entries.{with_entry}
use Rattle.upon_meaning_spec.specs.Evaluation.{Operand, operand, values_of, call_value, with_span, prepend, append_operand, as_list, as_map, application, evaluate, evaluate_base, evaluate_bases, evaluate_items, evaluate_arguments}
use Rattle.upon_meaning_spec.specs.Meaning.{fault_in, ends_in, in_template}
use Rattle.upon_meaning_spec.specs.Outcome.{End, good, fails, too_deep, Outcome, states}
use Rattle.upon_machine_spec.specs.Code.{count, expression_code, base_code, bases_code, arguments_code, list_code, map_code, emission_code, base_emission_code}
use Rattle.upon_machine_spec.specs.Instr.{Instr, expr_start_var, expr_start_literal, expr_start_list, expr_start_map, expr_list_push, expr_map_insert, apply, emit_with}
use Rattle.upon_machine_spec.specs.Instr.{emit as emit_top}
use Rattle.upon_machine_spec.specs.Operands.{onto}
use Rattle.upon_machine_spec.specs.State.{Frame, environment_of, Active, Caller, State}
use Rattle.upon_machine_spec.specs.Step.{goes, emits, pushes, with_taken, act, step}
use Rattle.upon_machine_spec.proofs.FollowsTree.Comes.{Comes, Ends, Reaches, comes_here, comes_then, one, stop}
use Rattle.upon_machine_spec.proofs.FollowsTree.Places.{HasAt, has_front, has_back}
use Rattle.upon_machine_spec.proofs.FollowsTree.Operands.{taken_onto, vals_with_last, Counted, arguments_counted, row_counted}

module _ {V T : Type 0} (calls : Calls V) (resolve : Resolver T) (root : Root) (active : Active) (callers : List Caller) (templates : T) where
  abbrev code : List Instr
  code = active.code

  -- a state of this template, where the template source is in this state
  abbrev pub at : ℕ → List Operand → List Frame → V → State V T
  at place ops fs q = record { active = active; callers = callers; position = place; operands = ops; frames = fs; asked = states q templates }

  pub step_at : (place : ℕ) (ops : List Operand) (fs : List Frame) (q : V) (i : Instr) → slice_get code place ≡ Some i → step calls resolve root (at place ops fs q) ≡ act calls resolve root (Some i) (at place ops fs q)
  step_at place ops fs q i h = ap (λ o. act calls resolve root o (at place ops fs q)) h

  -- what was found comes, or its fault ends the run
  abbrev GivesBy : {A : Type 0} → State V T → Finding A → V → (A → V → State V T) → Type 0
  GivesBy s (found a) q s' = Comes calls resolve root s [] (s' a q)
  GivesBy s (at_fault f) q s' = Ends calls resolve root s (record { text = []; end = fails (fault_in active.running f); next = states q templates })

  abbrev pub Gives : {A : Type 0} → State V T → Reply V (Finding A) → (A → V → State V T) → Type 0
  Gives s r s' = GivesBy s r.answer r.next s'

  comes_by : {A : Type 0} (s s1 : State V T) (x : Finding A) (q : V) (s2 : A → V → State V T) → Comes calls resolve root s [] s1 → GivesBy s1 x q s2 → GivesBy s x q s2
  comes_by s s1 (found a) q s2 x y = comes_then calls resolve root s s1 (record { text = []; end = good; next = states q templates }) (λ q'. s2 a q) x y
  comes_by s s1 (at_fault f) q s2 x y = comes_then calls resolve root s s1 (record { text = []; end = fails (fault_in active.running f); next = states q templates }) (λ q'. s) x y

  pub comes_gives : {A : Type 0} (s s1 : State V T) (r : Reply V (Finding A)) (s2 : A → V → State V T) → Comes calls resolve root s [] s1 → Gives s1 r s2 → Gives s r s2
  comes_gives s s1 r s2 x y = comes_by s s1 r.answer r.next s2 x y

  then_by : {A B : Type 0} (s : State V T) (x : Finding A) (q : V) (next : A → V → Reply V (Finding B)) (s1 : A → V → State V T) (s2 : B → V → State V T) → GivesBy s x q s1 → ((a : A) → x ≡ found a → Gives (s1 a q) (next a q) s2) → Gives s (with_found (reply x q) next) s2
  then_by s (found a) q next s1 s2 x y = comes_gives s (s1 a q) (next a q) s2 x (y a refl)
  then_by s (at_fault f) q next s1 s2 x y = x

  gives_then : {A B : Type 0} (s : State V T) (r : Reply V (Finding A)) (next : A → V → Reply V (Finding B)) (s1 : A → V → State V T) (s2 : B → V → State V T) → Gives s r s1 → ((a : A) (q : V) → Gives (s1 a q) (next a q) s2) → Gives s (with_found r next) s2
  gives_then s r next s1 s2 x y = then_by s r.answer r.next next s1 s2 x (λ a e. y a r.next)

  -- the state after what was found, where a function is applied to that
  gives_map : {A B : Type 0} (s : State V T) (r : Reply V (Finding A)) (g : A → B) (s1 : A → V → State V T) (s2 : B → V → State V T) → Gives s r s1 → ((a : A) (q : V) → Comes calls resolve root (s1 a q) [] (s2 (g a) q)) → Gives s (with_found r (λ a q. reply (found (g a)) q)) s2
  gives_map s r g s1 s2 x y = gives_then s r (λ a q. reply (found (g a)) q) s1 s2 x y

  gives_to : {A : Type 0} (s : State V T) (r : Reply V (Finding A)) (p p' : ℕ) (ops : A → List Operand) (fs : List Frame) → p ≡ p' → Gives s r (λ a q. at p (ops a) fs q) → Gives s r (λ a q. at p' (ops a) fs q)
  gives_to s r p p' ops fs e h = subst (λ n. Gives s r (λ a q. at n (ops a) fs q)) e h

  -- a step that pushes what was found
  pushes_by : (s : State V T) (x : Finding Val) (span : Span) (place : ℕ) (now ops : List Operand) (fs : List Frame) (q0 q : V) → step calls resolve root s ≡ pushes x span (at place now fs q0) ops q → Gives s (with_span (reply x q) span) (λ o q. at (place + 1) (o ∷ ops) fs q)
  pushes_by s (found v) span place now ops fs q0 q e = one calls resolve root s _ [] e
  pushes_by s (at_fault f) span place now ops fs q0 q e = stop calls resolve root s _ e

  -- what a step emits
  emits_by : (s : State V T) (end : End) (text : List ℕ) (place : ℕ) (now ops : List Operand) (fs : List Frame) (q : V) → step calls resolve root s ≡ emits (record { text = text; end = end }) (at place now fs q) ops → Reaches calls resolve root (ends_in active.running end) s text (states q templates) (at (place + 1) ops fs q)
  emits_by s good text place now ops fs q e = one calls resolve root s _ text e
  emits_by s (fails f) text place now ops fs q e = stop calls resolve root s _ e
  emits_by s too_deep text place now ops fs q e = stop calls resolve root s _ e

  -- what an emission writes
  abbrev pub Emits : State V T → Outcome V → (V → State V T) → Type 0
  Emits s o s' = Reaches calls resolve root (ends_in active.running o.end) s o.text (states o.next templates) (s' o.next)

  emit_by : {A : Type 0} (s : State V T) (x : Finding A) (q : V) (next : A → Emission) (s1 : A → V → State V T) (s2 : V → State V T) → GivesBy s x q s1 → ((a : A) → x ≡ found a → Emits (s1 a q) (with_state (next a) q) s2) → Emits s (emit_found (reply x q) next) s2
  emit_by s (found a) q next s1 s2 x y = let o = in_template active.running templates (with_state (next a) q) in comes_then calls resolve root s (s1 a q) o (λ q'. s2 q'.values) x (y a refl)
  emit_by s (at_fault f) q next s1 s2 x y = x

  emits_to : (s : State V T) (o : Outcome V) (p p' : ℕ) (ops : List Operand) (fs : List Frame) → p ≡ p' → Emits s o (λ q. at p ops fs q) → Emits s o (λ q. at p' ops fs q)
  emits_to s o p p' ops fs e h = subst (λ n. Emits s o (λ q. at n ops fs q)) e h

  -- all operands of a call are there
  counted : (x : Finding (List Operand)) (os : List Operand) (n : ℕ) → Counted x n → x ≡ found os → length os ≡ n
  counted x os n h e = subst (λ y. Counted y n) e h

  applies : (place : ℕ) (os ops : List Operand) (fs : List Frame) (q : V) (name : Ident) (n : ℕ) (span : Span) → slice_get code place ≡ Some (apply name n span) → length os ≡ n → Gives (at place (onto os ops) fs q) (with_span (reply (call_value name span os (calls.callables name.text)) q) span) (λ o q. at (place + 1) (o ∷ ops) fs q)
  applies place os ops fs q name n span has h =
      let s = at place (onto os ops) fs q in
      pushes_by s (call_value name span os (calls.callables name.text)) span place (onto os ops) ops fs q q
      (step_at place (onto os ops) fs q (apply name n span) has ∙ ap (λ t. with_taken t (λ os ops. pushes (call_value name span os (calls.callables name.text)) span s ops q)) (taken_onto n os ops h))

  emits_applied : (place : ℕ) (os ops : List Operand) (fs : List Frame) (q : V) (name : Ident) (n : ℕ) (span : Span) → slice_get code place ≡ Some (emit_with name n span) → length os ≡ n → Emits (at place (onto os ops) fs q) (with_state (callable_outcome calls.default_formatter name span os (calls.callables name.text)) q) (λ q. at (place + 1) ops fs q)
  emits_applied place os ops fs q name n span has h =
      let s = at place (onto os ops) fs q in
      let o = callable_outcome calls.default_formatter name span os (calls.callables name.text) in
      emits_by s o.end o.text place (onto os ops) ops fs q
      (step_at place (onto os ops) fs q (emit_with name n span) has ∙ ap (λ t. with_taken t (λ os ops. emits (callable_outcome calls.default_formatter name span os (calls.callables name.text)) s ops)) (taken_onto n os ops h))

  -- the operands of a call, and then the call
  applied_follows : (s : State V T) (r : Reply V (Finding (List Operand))) (name : Ident) (span : Span) (n p : ℕ) (ops : List Operand) (fs : List Frame) → Gives s r (λ os q. at p (onto os ops) fs q) → Counted r.answer n → slice_get code p ≡ Some (apply name n span) → Gives s (application calls name span r) (λ o q. at (p + 1) (o ∷ ops) fs q)
  applied_follows s r name span n p ops fs h c has =
      then_by s r.answer r.next (λ os q. with_span (reply (call_value name span os (calls.callables name.text)) q) span) (λ os q. at p (onto os ops) fs q) (λ o q. at (p + 1) (o ∷ ops) fs q) h
      (λ os e. applies p os ops fs r.next name n span has (counted r.answer os n c e))

  emit_applied_follows : (s : State V T) (r : Reply V (Finding (List Operand))) (name : Ident) (span : Span) (n p : ℕ) (ops : List Operand) (fs : List Frame) → Gives s r (λ os q. at p (onto os ops) fs q) → Counted r.answer n → slice_get code p ≡ Some (emit_with name n span) → Emits s (emit_call calls name span r) (λ q. at (p + 1) ops fs q)
  emit_applied_follows s r name span n p ops fs h c has =
      emit_by s r.answer r.next (λ os. callable_outcome calls.default_formatter name span os (calls.callables name.text)) (λ os q. at p (onto os ops) fs q) (λ q. at (p + 1) ops fs q) h
      (λ os e. emits_applied p os ops fs r.next name n span has (counted r.answer os n c e))

  -- one value, and then others
  then_follows : (s : State V T) (r : Reply V (Finding Operand)) (others : V → Reply V (Finding (List Operand))) (p p' : ℕ) (ops : List Operand) (fs : List Frame) → Gives s r (λ o q. at p (o ∷ ops) fs q) → ((o : Operand) (q : V) → Gives (at p (o ∷ ops) fs q) (others q) (λ os q. at p' (onto os (o ∷ ops)) fs q)) → Gives s (append_operand r others) (λ os q. at p' (onto os ops) fs q)
  then_follows s r others p p' ops fs h k =
      gives_then s r (λ o q. prepend o (others q)) (λ o q. at p (o ∷ ops) fs q) (λ os q. at p' (onto os ops) fs q) h
      (λ o q. gives_map (at p (o ∷ ops) fs q) (others q) (λ os. o ∷ os) (λ os q. at p' (onto os (o ∷ ops)) fs q) (λ os q. at p' (onto os ops) fs q) (k o q) (λ os q. comes_here calls resolve root (at p' (onto os (o ∷ ops)) fs q)))

  -- the list that holds so many values so far
  abbrev so_far : List Operand → Span → Operand
  so_far os span = operand (list_val (vals_of (values_of os))) span

  module _ (fs : List Frame) where
    mutual
      pub expression_follows : (e : Expression) (place : ℕ) (ops : List Operand) (q : V) → HasAt code place (expression_code e) → Gives (at place ops fs q) (evaluate calls e (environment_of root fs) q) (λ o q. at (place + length (expression_code e)) (o ∷ ops) fs q)
      expression_follows (base b) place ops q has = base_follows b place ops q has
      expression_follows (filtered receiver name args span) place ops q has =
          let ca = arguments_code args in
          let last : List Instr = apply name (suc (count args)) span ∷ [] in
          let p = place + length (expression_code receiver) in
          let behind = has_back code place (expression_code receiver) (ca ++ last) has in
          let len : p + length ca + 1 ≡ place + length (expression_code receiver ++ (ca ++ last)) = omega (arith, length-append (expression_code receiver) (ca ++ last), length-append ca last) in
          let s = at place ops fs q in
          let r = append_operand (evaluate calls receiver (environment_of root fs) q) (evaluate_arguments calls args (environment_of root fs)) in
          gives_to s (application calls name span r) (p + length ca + 1) _ (λ o. o ∷ ops) fs len
          (applied_follows s r name span (suc (count args)) (p + length ca) ops fs (then_follows s (evaluate calls receiver (environment_of root fs) q) (evaluate_arguments calls args (environment_of root fs)) p (p + length ca) ops fs (expression_follows receiver place ops q (has_front code place (expression_code receiver) (ca ++ last) has)) (λ o q'. arguments_follows args p (o ∷ ops) q' (has_front code p ca last behind))) (row_counted calls receiver args (environment_of root fs) q) (has_back code p ca last behind).0)

      base_follows : (b : Base) (place : ℕ) (ops : List Operand) (q : V) → HasAt code place (base_code b) → Gives (at place ops fs q) (evaluate_base calls b (environment_of root fs) q) (λ o q. at (place + length (base_code b)) (o ∷ ops) fs q)
      base_follows (paren e span) place ops q has = expression_follows e place ops q has
      base_follows (var first rest) place ops q has =
          let r = lookup calls.ask (environment_of root fs) first rest q in
          pushes_by (at place ops fs q) r.answer (path_span first rest) place ops ops fs q r.next (step_at place ops fs q (expr_start_var first rest) has.0)
      base_follows (literal v span) place ops q has = one calls resolve root _ _ [] (step_at place ops fs q (expr_start_literal v span) has.0)
      base_follows (list bases span) place ops q has =
          let len : place + 1 + length (list_code bases) ≡ place + length (expr_start_list span ∷ list_code bases) = omega arith in
          let s = at place ops fs q in
          let r = evaluate_bases calls bases (environment_of root fs) q in
          let first = one calls resolve root s (at (place + 1) (so_far [] span ∷ ops) fs q) [] (step_at place ops fs q (expr_start_list span) has.0) in
          gives_to s (as_list r span) (place + 1 + length (list_code bases)) _ (λ o. o ∷ ops) fs len
          (gives_map s r (λ os. so_far os span) (λ os q. at (place + 1 + length (list_code bases)) (so_far os span ∷ ops) fs q) (λ o q. at (place + 1 + length (list_code bases)) (o ∷ ops) fs q)
          (comes_gives s (at (place + 1) (so_far [] span ∷ ops) fs q) r (λ os q. at (place + 1 + length (list_code bases)) (so_far os span ∷ ops) fs q) first (list_follows bases [] span (place + 1) ops q has.1)) (λ os q. comes_here calls resolve root _))
      base_follows (mapping items span) place ops q has =
          let len : place + 1 + length (map_code items) ≡ place + length (expr_start_map span ∷ map_code items) = omega arith in
          let s = at place ops fs q in
          let r = evaluate_items calls items no_entries (environment_of root fs) q in
          let first = one calls resolve root s (at (place + 1) (operand (map_val no_entries) span ∷ ops) fs q) [] (step_at place ops fs q (expr_start_map span) has.0) in
          gives_to s (as_map r span) (place + 1 + length (map_code items)) _ (λ o. o ∷ ops) fs len
          (gives_map s r (λ es. operand (map_val es) span) (λ es q. at (place + 1 + length (map_code items)) (operand (map_val es) span ∷ ops) fs q) (λ o q. at (place + 1 + length (map_code items)) (o ∷ ops) fs q)
          (comes_gives s (at (place + 1) (operand (map_val no_entries) span ∷ ops) fs q) r (λ es q. at (place + 1 + length (map_code items)) (operand (map_val es) span ∷ ops) fs q) first (map_follows items no_entries span (place + 1) ops q has.1)) (λ es q. comes_here calls resolve root _))
      base_follows (call name args span) place ops q has =
          let ca = arguments_code args in
          let last : List Instr = apply name (count args) span ∷ [] in
          let len : place + length ca + 1 ≡ place + length (ca ++ last) = omega (arith, length-append ca last) in
          let s = at place ops fs q in
          let r = evaluate_arguments calls args (environment_of root fs) q in
          gives_to s (application calls name span r) (place + length ca + 1) _ (λ o. o ∷ ops) fs len
          (applied_follows s r name span (count args) (place + length ca) ops fs (arguments_follows args place ops q (has_front code place ca last has)) (arguments_counted calls args (environment_of root fs) q) (has_back code place ca last has).0)

      list_follows : (bs : Bases) (before : List Operand) (span : Span) (place : ℕ) (ops : List Operand) (q : V) → HasAt code place (list_code bs) → Gives (at place (so_far before span ∷ ops) fs q) (evaluate_bases calls bs (environment_of root fs) q) (λ os q. at (place + length (list_code bs)) (so_far (before ++ os) span ∷ ops) fs q)
      list_follows no_bases before span place ops q has =
          let e : place ≡ place + 0 = omega arith in
          let s = at place (so_far before span ∷ ops) fs q in
          subst (λ l. Comes calls resolve root s [] (at (place + 0) (so_far l span ∷ ops) fs q)) (sym (append-nil before)) (subst (λ n. Comes calls resolve root s [] (at n (so_far before span ∷ ops) fs q)) e (comes_here calls resolve root s))
      list_follows (base_then b bs) before span place ops q has =
          let cb = base_code b in
          let back = has_back code place cb (expr_list_push ∷ list_code bs) has in
          let end = place + length (cb ++ (expr_list_push ∷ list_code bs)) in
          let len : place + length cb + 1 + length (list_code bs) ≡ end = omega (arith, length-append cb (expr_list_push ∷ list_code bs)) in
          let s = at place (so_far before span ∷ ops) fs q in
          gives_then s (evaluate_base calls b (environment_of root fs) q) (λ o q. prepend o (evaluate_bases calls bs (environment_of root fs) q)) (λ o q. at (place + length cb) (o ∷ so_far before span ∷ ops) fs q) (λ os q. at end (so_far (before ++ os) span ∷ ops) fs q) (base_follows b place (so_far before span ∷ ops) q (has_front code place cb (expr_list_push ∷ list_code bs) has))
          (λ o q.
          let now = at (place + length cb) (o ∷ so_far before span ∷ ops) fs q in
          let later = at (place + length cb + 1) (so_far (before ++ o ∷ []) span ∷ ops) fs q in
          let adds = step_at (place + length cb) (o ∷ so_far before span ∷ ops) fs q expr_list_push back.0 ∙ ap (λ vs. goes [] (at (place + length cb + 1) (operand (list_val vs) span ∷ ops) fs q)) (vals_with_last before o) in
          gives_map now (evaluate_bases calls bs (environment_of root fs) q) (λ os. o ∷ os) (λ os q. at end (so_far ((before ++ o ∷ []) ++ os) span ∷ ops) fs q) (λ os q. at end (so_far (before ++ os) span ∷ ops) fs q)
          (comes_gives now later (evaluate_bases calls bs (environment_of root fs) q) (λ os q. at end (so_far ((before ++ o ∷ []) ++ os) span ∷ ops) fs q) (one calls resolve root now later [] adds) (gives_to later (evaluate_bases calls bs (environment_of root fs) q) (place + length cb + 1 + length (list_code bs)) end (λ os. so_far ((before ++ o ∷ []) ++ os) span ∷ ops) fs len (list_follows bs (before ++ o ∷ []) span (place + length cb + 1) ops q back.1)))
          (λ os q. subst (λ l. Comes calls resolve root (at end (so_far ((before ++ o ∷ []) ++ os) span ∷ ops) fs q) [] (at end (so_far l span ∷ ops) fs q)) (append_assoc before (o ∷ []) os) (comes_here calls resolve root _)))

      map_follows : (items : Items) (es : Entries) (span : Span) (place : ℕ) (ops : List Operand) (q : V) → HasAt code place (map_code items) → Gives (at place (operand (map_val es) span ∷ ops) fs q) (evaluate_items calls items es (environment_of root fs) q) (λ es q. at (place + length (map_code items)) (operand (map_val es) span ∷ ops) fs q)
      map_follows no_items es span place ops q has =
          let e : place ≡ place + 0 = omega arith in
          let s = at place (operand (map_val es) span ∷ ops) fs q in
          subst (λ n. Comes calls resolve root s [] (at n (operand (map_val es) span ∷ ops) fs q)) e (comes_here calls resolve root s)
      map_follows (item_then key b items) es span place ops q has =
          let cb = base_code b in
          let back = has_back code place cb (expr_map_insert key ∷ map_code items) has in
          let end = place + length (cb ++ (expr_map_insert key ∷ map_code items)) in
          let len : place + length cb + 1 + length (map_code items) ≡ end = omega (arith, length-append cb (expr_map_insert key ∷ map_code items)) in
          let s = at place (operand (map_val es) span ∷ ops) fs q in
          gives_then s (evaluate_base calls b (environment_of root fs) q) (λ o q. evaluate_items calls items (with_entry key.text o.value es) (environment_of root fs) q) (λ o q. at (place + length cb) (o ∷ operand (map_val es) span ∷ ops) fs q) (λ es q. at end (operand (map_val es) span ∷ ops) fs q) (base_follows b place (operand (map_val es) span ∷ ops) q (has_front code place cb (expr_map_insert key ∷ map_code items) has))
          (λ o q.
          let now = at (place + length cb) (o ∷ operand (map_val es) span ∷ ops) fs q in
          let later = at (place + length cb + 1) (operand (map_val (with_entry key.text o.value es)) span ∷ ops) fs q in
          let r = evaluate_items calls items (with_entry key.text o.value es) (environment_of root fs) q in
          comes_gives now later r (λ es q. at end (operand (map_val es) span ∷ ops) fs q) (one calls resolve root now later [] (step_at (place + length cb) (o ∷ operand (map_val es) span ∷ ops) fs q (expr_map_insert key) back.0))
          (gives_to later r (place + length cb + 1 + length (map_code items)) end (λ es. operand (map_val es) span ∷ ops) fs len (map_follows items (with_entry key.text o.value es) span (place + length cb + 1) ops q back.1)))

      bases_follows : (bs : Bases) (place : ℕ) (ops : List Operand) (q : V) → HasAt code place (bases_code bs) → Gives (at place ops fs q) (evaluate_bases calls bs (environment_of root fs) q) (λ os q. at (place + length (bases_code bs)) (onto os ops) fs q)
      bases_follows no_bases place ops q has =
          let e : place ≡ place + 0 = omega arith in
          subst (λ n. Comes calls resolve root (at place ops fs q) [] (at n ops fs q)) e (comes_here calls resolve root (at place ops fs q))
      bases_follows (base_then b bs) place ops q has =
          let cb = base_code b in
          let cbs = bases_code bs in
          let len : place + length cb + length cbs ≡ place + length (cb ++ cbs) = omega (arith, length-append cb cbs) in
          let s = at place ops fs q in
          gives_to s (evaluate_bases calls (base_then b bs) (environment_of root fs) q) (place + length cb + length cbs) _ (λ os. onto os ops) fs len
          (then_follows s (evaluate_base calls b (environment_of root fs) q) (evaluate_bases calls bs (environment_of root fs)) (place + length cb) (place + length cb + length cbs) ops fs (base_follows b place ops q (has_front code place cb cbs has)) (λ o q'. bases_follows bs (place + length cb) (o ∷ ops) q' (has_back code place cb cbs has)))

      arguments_follows : (args : Arguments) (place : ℕ) (ops : List Operand) (q : V) → HasAt code place (arguments_code args) → Gives (at place ops fs q) (evaluate_arguments calls args (environment_of root fs) q) (λ os q. at (place + length (arguments_code args)) (onto os ops) fs q)
      arguments_follows no_arguments place ops q has =
          let e : place ≡ place + 0 = omega arith in
          subst (λ n. Comes calls resolve root (at place ops fs q) [] (at n ops fs q)) e (comes_here calls resolve root (at place ops fs q))
      arguments_follows (arguments bases span) place ops q has = bases_follows bases place ops q has

    plain_follows : (b : Base) (place : ℕ) (ops : List Operand) (q : V) → HasAt code place (base_code b ++ (emit_top ∷ [])) → Emits (at place ops fs q) (emit_value calls (evaluate_base calls b (environment_of root fs) q)) (λ q. at (place + length (base_code b ++ (emit_top ∷ []))) ops fs q)
    plain_follows b place ops q has =
        let cb = base_code b in
        let r = evaluate_base calls b (environment_of root fs) q in
        let s = at place ops fs q in
        let len : place + length cb + 1 ≡ place + length (cb ++ (emit_top ∷ [])) = omega (arith, length-append cb (emit_top ∷ [])) in
        emits_to s (emit_value calls r) (place + length cb + 1) _ ops fs len
        (emit_by s r.answer r.next (λ o. format_outcome (calls.default_formatter o.value) o.span) (λ o q. at (place + length cb) (o ∷ ops) fs q) (λ q. at (place + length cb + 1) ops fs q) (base_follows b place ops q (has_front code place cb (emit_top ∷ []) has))
        (λ o e. let w = format_outcome (calls.default_formatter o.value) o.span in emits_by (at (place + length cb) (o ∷ ops) fs r.next) w.end w.text (place + length cb) (o ∷ ops) ops fs r.next (step_at (place + length cb) (o ∷ ops) fs r.next emit_top (has_back code place cb (emit_top ∷ []) has).0)))

    mutual
      pub emission_follows : (e : Expression) (place : ℕ) (ops : List Operand) (q : V) → HasAt code place (emission_code e) → Emits (at place ops fs q) (emit calls e (environment_of root fs) q) (λ q. at (place + length (emission_code e)) ops fs q)
      emission_follows (base b) place ops q has = base_emission_follows b place ops q has
      emission_follows (filtered receiver name args span) place ops q has =
          let ca = arguments_code args in
          let last : List Instr = emit_with name (suc (count args)) span ∷ [] in
          let p = place + length (expression_code receiver) in
          let behind = has_back code place (expression_code receiver) (ca ++ last) has in
          let len : p + length ca + 1 ≡ place + length (expression_code receiver ++ (ca ++ last)) = omega (arith, length-append (expression_code receiver) (ca ++ last), length-append ca last) in
          let s = at place ops fs q in
          let r = append_operand (evaluate calls receiver (environment_of root fs) q) (evaluate_arguments calls args (environment_of root fs)) in
          emits_to s (emit_call calls name span r) (p + length ca + 1) _ ops fs len
          (emit_applied_follows s r name span (suc (count args)) (p + length ca) ops fs (then_follows s (evaluate calls receiver (environment_of root fs) q) (evaluate_arguments calls args (environment_of root fs)) p (p + length ca) ops fs (expression_follows receiver place ops q (has_front code place (expression_code receiver) (ca ++ last) has)) (λ o q'. arguments_follows args p (o ∷ ops) q' (has_front code p ca last behind))) (row_counted calls receiver args (environment_of root fs) q) (has_back code p ca last behind).0)

      base_emission_follows : (b : Base) (place : ℕ) (ops : List Operand) (q : V) → HasAt code place (base_emission_code b) → Emits (at place ops fs q) (emit_base calls b (environment_of root fs) q) (λ q. at (place + length (base_emission_code b)) ops fs q)
      base_emission_follows (paren e span) place ops q has = emission_follows e place ops q has
      base_emission_follows (call name args span) place ops q has =
          let ca = arguments_code args in
          let last : List Instr = emit_with name (count args) span ∷ [] in
          let len : place + length ca + 1 ≡ place + length (ca ++ last) = omega (arith, length-append ca last) in
          let s = at place ops fs q in
          let r = evaluate_arguments calls args (environment_of root fs) q in
          emits_to s (emit_call calls name span r) (place + length ca + 1) _ ops fs len
          (emit_applied_follows s r name span (count args) (place + length ca) ops fs (arguments_follows args place ops q (has_front code place ca last has)) (arguments_counted calls args (environment_of root fs) q) (has_back code place ca last has).0)
      base_emission_follows (var first rest) place ops q has = plain_follows (var first rest) place ops q has
      base_emission_follows (literal v span) place ops q has = plain_follows (literal v span) place ops q has
      base_emission_follows (list bases span) place ops q has = plain_follows (list bases span) place ops q has
      base_emission_follows (mapping items span) place ops q has = plain_follows (mapping items span) place ops q has
