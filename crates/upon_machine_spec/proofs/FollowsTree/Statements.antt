-- The machine follows statements, at each depth.
use Rattle.std.proofs.Common.{◌≡◌, ℕ, zero, suc, ◌+◌, List, [], ◌∷◌, ◌++◌, length, Some, None, Bool, true, false, refl, ap, ◌∙◌, subst, arith, length-append}
use Rattle.std.specs.Prelude.{slice_get}
use Rattle.std.proofs.lemmas.Option.{slice_get_past}
use Rattle.upon_types.specs.Expression.{Expression, expression_span}
use Rattle.upon_types.specs.Path.{Ident}
use Rattle.upon_types.specs.BlockKinds.{opened_kind, may_have_else}
use Rattle.upon_types.specs.Tree.{Statement, raw, inline_expr, include, block, Statements, no_statements, statement_then, Else, no_else, otherwise}
use Rattle.upon_types.specs.Val.{Val}
use Rattle.upon_lookup.specs.Environment.{Root, alone_over}
use Rattle.upon_lookup.specs.Finding.{Finding, found, at_fault}
use Rattle.upon_lookup.specs.Source.{SourceAnswer, says, refuses}
use Rattle.upon_meaning_spec.specs.Alone.{running, on_template, included}
use Rattle.upon_meaning_spec.specs.Engine.{Template, Calls, Resolver}
use Rattle.upon_meaning_spec.specs.Evaluation.{Operand, evaluate}
use Rattle.upon_meaning_spec.specs.Meaning.{RunningTemplate, turns, each_or, on_value, with_value, statement_means, statements_mean, else_means}
use Rattle.upon_meaning_spec.specs.Outcome.{Outcome, States, states, too_deep_outcome}
use Rattle.upon_machine_spec.specs.Code.{expression_code, body_start, block_code, statement_code, statements_code, else_code, program_of}
use Rattle.upon_machine_spec.specs.Instr.{Instr, emit_raw}
use Rattle.upon_machine_spec.specs.Instr.{include as enter, include_with as enter_with}
use Rattle.upon_machine_spec.specs.State.{Frame, scope, environment_of, Active, Caller, State}
use Rattle.upon_machine_spec.specs.Step.{goes, enters, returns, act, step}
use Rattle.upon_machine_spec.proofs.BlockCode.{past_body, block_follows}
use Rattle.upon_machine_spec.proofs.FollowsTree.Comes.{Comes, Follows, state_at, step_at, to_place, comes_here, comes_then, one, stop, then_comes, in_turn}
use Rattle.upon_machine_spec.proofs.FollowsTree.Places.{HasAt, has_front, has_back, has_all}
use Rattle.upon_machine_spec.proofs.FollowsTree.Expressions.{Gives, expression_follows, emission_follows}

module _ {V T : Type 0} (calls : Calls V) (resolve : Resolver T) (root : Root) where
  -- one template that runs
  module _ (active : Active) (callers : List Caller) where
    abbrev code : List Instr
    code = active.code

    abbrev here : ℕ → List Operand → List Frame → States V T → State V T
    here place ops fs s = state_at active callers place ops fs s

    -- an expression, and then what is done with its value
    value_by : (s : State V T) (x : Finding Operand) (templates : T) (q : V) (s1 : Operand → V → State V T) (means : Val → States V T → Outcome (States V T)) (s2 : States V T → State V T) → Gives calls resolve root active callers templates s (record { answer = x; next = q }) s1 → ((o : Operand) → Follows calls resolve root (s1 o q) (means o.value (states q templates)) s2) → Follows calls resolve root s (on_value active.running x (states q templates) means) s2
    value_by s (found o) templates q s1 means s2 x y = comes_then calls resolve root s (s1 o q) (means o.value (states q templates)) s2 x (y o)
    value_by s (at_fault f) templates q s1 means s2 x y = x

    with_expression : (e : Expression) (place : ℕ) (ops : List Operand) (fs : List Frame) (s : States V T) (rest : List Instr) (means : Val → States V T → Outcome (States V T)) (s2 : States V T → State V T) → HasAt code place (expression_code e ++ rest) → ((o : Operand) (q : States V T) → HasAt code (place + length (expression_code e)) rest → Follows calls resolve root (here (place + length (expression_code e)) (o ∷ ops) fs q) (means o.value q) s2) → Follows calls resolve root (here place ops fs s) (with_value active.running s.templates (evaluate calls e (environment_of root fs) s.values) means) s2
    with_expression e place ops fs s rest means s2 has k =
        let r = evaluate calls e (environment_of root fs) s.values in
        let h = expression_follows calls resolve root active callers s.templates fs e place ops s.values (has_front code place (expression_code e) rest has) in
        value_by (here place ops fs s) r.answer s.templates r.next (λ o q. here (place + length (expression_code e)) (o ∷ ops) fs (states q s.templates)) means s2 h (λ o. k o (states r.next s.templates) (has_back code place (expression_code e) rest has))

  abbrev here_in : List Instr → RunningTemplate → ℕ → List Caller → ℕ → List Operand → List Frame → States V T → State V T
  here_in code run left callers place ops fs s = state_at (record { code = code; running = run; left = left }) callers place ops fs s

  -- the machine follows statements where so many includes may be nested inside
  abbrev pub FollowsAt : ℕ → Type 0
  FollowsAt left =
      (ts : Statements) (code : List Instr) (run : RunningTemplate) (callers : List Caller) (place : ℕ) (fs : List Frame) (s : States V T) → HasAt code place (statements_code place ts) → Follows calls resolve root (here_in code run left callers place [] fs s) (statements_mean calls (included calls resolve left) run ts (environment_of root fs) s) (λ s. here_in code run left callers (place + length (statements_code place ts)) [] fs s)

  abbrev Below : ℕ → Type 0
  Below zero = Unit {0}
  Below (suc left) = FollowsAt left

  -- into a template, and back
  module _ (code : List Instr) (run : RunningTemplate) (callers : List Caller) (place : ℕ) (fs fs' : List Frame) (word : Ident) (scoped : Bool) (s : States V T) (st : State V T) where
    refused : (left : ℕ) (text : List ℕ) (templates : T) (means : Template → States V T → Outcome (States V T)) (s2 : States V T → State V T) (now : List Operand) → step calls resolve root st ≡ enters (refuses text) word scoped (here_in code run left callers place now fs s) fs' templates → Follows calls resolve root st (on_template run word (refuses text) (states s.values templates) means) s2
    refused left text templates means s2 now e = stop calls resolve root st _ e

    enter_zero : (x : SourceAnswer Template) (templates : T) (s2 : States V T → State V T) (now : List Operand) → step calls resolve root st ≡ enters x word scoped (here_in code run 0 callers place now fs s) fs' templates → Follows calls resolve root st (on_template run word x (states s.values templates) (λ t q. too_deep_outcome q)) s2
    enter_zero (says t) templates s2 now e = stop calls resolve root st _ e
    enter_zero (refuses text) templates s2 now e = refused 0 text templates (λ t q. too_deep_outcome q) s2 now e

    enter_suc : (left : ℕ) → FollowsAt left → (x : SourceAnswer Template) (templates : T) (now : List Operand) → ((s3 : State V T) → returns scoped (record { active = record { code = code; running = run; left = suc left }; position = place + 1; scoped = scoped }) callers fs' s3 ≡ goes [] (record s3 { active = record { code = code; running = run; left = suc left }; callers = callers; position = place + 1; frames = fs })) → step calls resolve root st ≡ enters x word scoped (here_in code run (suc left) callers place now fs s) fs' templates → Follows calls resolve root st (on_template run word x (states s.values templates) (λ t q. statements_mean calls (included calls resolve left) (running t (Some word.text)) t.tree (environment_of root fs') q)) (λ q. here_in code run (suc left) callers (place + 1) [] fs q)
    enter_suc left below (refuses text) templates now back e = refused (suc left) text templates (λ t q. statements_mean calls (included calls resolve left) (running t (Some word.text)) t.tree (environment_of root fs') q) (λ q. here_in code run (suc left) callers (place + 1) [] fs q) now e
    enter_suc left below (says t) templates now back e =
        let callee = program_of t.tree in
        let inner = running t (Some word.text) in
        let c : Caller = record { active = record { code = code; running = run; left = suc left }; position = place + 1; scoped = scoped } in
        let q = states s.values templates in
        let m = statements_mean calls (included calls resolve left) inner t.tree (environment_of root fs') q in
        let inside = below t.tree callee inner (c ∷ callers) 0 fs' q (has_all callee) in
        let past : slice_get callee (0 + length callee) ≡ None = slice_get_past callee (0 + length callee) (omega arith) in
        comes_then calls resolve root st (here_in callee inner left (c ∷ callers) 0 [] fs' q) m (λ q. here_in code run (suc left) callers (place + 1) [] fs q) (one calls resolve root st (here_in callee inner left (c ∷ callers) 0 [] fs' q) [] e)
        (then_comes calls resolve root (here_in callee inner left (c ∷ callers) 0 [] fs' q) m (λ q. here_in callee inner left (c ∷ callers) (0 + length callee) [] fs' q) (λ q. here_in code run (suc left) callers (place + 1) [] fs q) inside
        (λ q'. let last = here_in callee inner left (c ∷ callers) (0 + length callee) [] fs' q' in one calls resolve root last (here_in code run (suc left) callers (place + 1) [] fs q') [] (ap (λ o. act calls resolve root o last) past ∙ back last)))

    enter_follows : (left : ℕ) → Below left → (now : List Operand) → ((k : ℕ) (s3 : State V T) → returns scoped (record { active = record { code = code; running = run; left = suc k }; position = place + 1; scoped = scoped }) callers fs' s3 ≡ goes [] (record s3 { active = record { code = code; running = run; left = suc k }; callers = callers; position = place + 1; frames = fs })) → step calls resolve root st ≡ enters (resolve s.templates word.text).answer word scoped (here_in code run left callers place now fs s) fs' (resolve s.templates word.text).next → Follows calls resolve root st (included calls resolve left run word (environment_of root fs') s) (λ q. here_in code run left callers (place + 1) [] fs q)
    enter_follows zero below now back e = enter_zero (resolve s.templates word.text).answer (resolve s.templates word.text).next (λ q. here_in code run 0 callers (place + 1) [] fs q) now e
    enter_follows (suc left) below now back e = enter_suc left below (resolve s.templates word.text).answer (resolve s.templates word.text).next now (back left) e

  module _ (left : ℕ) (below : Below left) where
    abbrev in_code : List Instr → RunningTemplate → Active
    in_code code run = record { code = code; running = run; left = left }

    mutual
      statement_follows : (t : Statement) (code : List Instr) (run : RunningTemplate) (callers : List Caller) (place : ℕ) (fs : List Frame) (s : States V T) → HasAt code place (statement_code place t) → Follows calls resolve root (here_in code run left callers place [] fs s) (statement_means calls (included calls resolve left) run t (environment_of root fs) s) (λ s. here_in code run left callers (place + length (statement_code place t)) [] fs s)
      statement_follows (raw span) code run callers place fs s has = one calls resolve root _ _ _ (step_at calls resolve root (in_code code run) callers place [] fs s (emit_raw span) has.0)
      statement_follows (inline_expr e span) code run callers place fs s has = emission_follows calls resolve root (in_code code run) callers s.templates fs e place [] s.values has
      statement_follows (include word None) code run callers place fs s has =
          enter_follows code run callers place fs fs word false s (here_in code run left callers place [] fs s) left below [] (λ k s3. refl) (step_at calls resolve root (in_code code run) callers place [] fs s (enter word) has.0)
      statement_follows (include word (Some e)) code run callers place fs s has =
          let a = in_code code run in
          let p = place + length (expression_code e) in
          let len : p + 1 ≡ place + length (expression_code e ++ (enter_with word ∷ [])) = omega (arith, length-append (expression_code e) (enter_with word ∷ [])) in
          to_place calls resolve root a callers (here_in code run left callers place [] fs s) (statement_means calls (included calls resolve left) run (include word (Some e)) (environment_of root fs) s) (p + 1) _ [] fs len
          (with_expression a callers e place [] fs s (enter_with word ∷ []) (λ v q. included calls resolve left run word (alone_over v) q) (λ q. here_in code run left callers (p + 1) [] fs q) has
          (λ o q has'. enter_follows code run callers p fs (scope o.value ∷ fs) word true q (here_in code run left callers p (o ∷ []) fs q) left below (o ∷ []) (λ k s3. refl) (step_at calls resolve root a callers p (o ∷ []) fs q (enter_with word) has'.0)))
      statement_follows (block opening e body branch) code run callers place fs s has =
          let a = in_code code run in
          let p = place + length (expression_code e) in
          let inner = statements_code (body_start opening p) body in
          let to = past_body opening branch p inner in
          let tail = block_code opening branch (expression_span e) p inner (else_code to branch) in
          let means = statements_mean calls (included calls resolve left) run body in
          let others = else_means calls (included calls resolve left) run branch in
          let len : p + length tail ≡ place + length (expression_code e ++ tail) = omega (arith, length-append (expression_code e) tail) in
          to_place calls resolve root a callers (here_in code run left callers place [] fs s) (statement_means calls (included calls resolve left) run (block opening e body branch) (environment_of root fs) s) (p + length tail) _ [] fs len
          (with_expression a callers e place [] fs s tail (λ v q. each_or means (others (may_have_else (opened_kind opening))) run (turns opening (expression_span e) v) (environment_of root fs) q) (λ q. here_in code run left callers (p + length tail) [] fs q) has
          (λ o q has'. block_follows calls resolve root a callers opening branch (expression_span e) p inner o [] fs means others q has' (λ fs' q' has''. statements_follows body code run callers (body_start opening p) fs' q' has'') (λ has''. branch_follows branch code run callers to fs q has'')))

      branch_follows : (branch : Else) (code : List Instr) (run : RunningTemplate) (callers : List Caller) (place : ℕ) (fs : List Frame) (s : States V T) → HasAt code place (else_code place branch) → Follows calls resolve root (here_in code run left callers place [] fs s) (else_means calls (included calls resolve left) run branch true (environment_of root fs) s) (λ s. here_in code run left callers (place + length (else_code place branch)) [] fs s)
      branch_follows no_else code run callers place fs s has =
          let e : place ≡ place + 0 = omega arith in
          subst (λ n. Comes calls resolve root (here_in code run left callers place [] fs s) [] (here_in code run left callers n [] fs s)) e (comes_here calls resolve root (here_in code run left callers place [] fs s))
      branch_follows (otherwise body) code run callers place fs s has = statements_follows body code run callers place fs s has

      statements_follows : FollowsAt left
      statements_follows no_statements code run callers place fs s has =
          let e : place ≡ place + 0 = omega arith in
          subst (λ n. Comes calls resolve root (here_in code run left callers place [] fs s) [] (here_in code run left callers n [] fs s)) e (comes_here calls resolve root _)
      statements_follows (statement_then t ts) code run callers place fs s has =
          let first = statement_code place t in
          let rest = statements_code (place + length first) ts in
          let len : place + length first + length rest ≡ place + length (first ++ rest) = omega (arith, length-append first rest) in
          to_place calls resolve root (in_code code run) callers _ (statements_mean calls (included calls resolve left) run (statement_then t ts) (environment_of root fs) s) (place + length first + length rest) _ [] fs len
          (in_turn calls resolve root (here_in code run left callers place [] fs s) (statement_means calls (included calls resolve left) run t (environment_of root fs) s) (statements_mean calls (included calls resolve left) run ts (environment_of root fs)) (λ q. here_in code run left callers (place + length first) [] fs q) (λ q. here_in code run left callers (place + length first + length rest) [] fs q) (statement_follows t code run callers place fs s (has_front code place first rest has)) (λ s'. statements_follows ts code run callers (place + length first) fs s' (has_back code place first rest has)))

  pub follows_at : (left : ℕ) → FollowsAt left
  follows_at zero = statements_follows zero tt
  follows_at (suc left) = statements_follows (suc left) (follows_at left)
