-- Where includes have numbers that show how deep they go, no depth above those ends because includes are too deep.
use Rattle.std.proofs.Common.{◌≡◌, ◌≢◌, inl, inr, ℕ, zero, suc, ◌<◌, ◌≤◌, List, [], ◌∷◌, Option, Some, None, refl, arith, Bool, true, false}
use Rattle.upon_types.specs.Expression.{expression_span}
use Rattle.upon_types.specs.Path.{Ident}
use Rattle.upon_types.specs.BlockKinds.{opened_kind, may_have_else}
use Rattle.upon_types.specs.Tree.{Statement, raw, inline_expr, include, block, Statements, no_statements, statement_then, Else, no_else, otherwise}
use Rattle.upon_lookup.specs.Environment.{Environment, Root, root_environment, alone_over}
use Rattle.upon_lookup.specs.Source.{Source, SourceAnswer, says, refuses}
use Rattle.upon_meaning_spec.specs.Alone.{running, on_template, included, includes_left, alone}
use Rattle.upon_meaning_spec.specs.Emission.{emit}
use Rattle.upon_meaning_spec.specs.Engine.{Template, Table, Engine, Calls, Resolver, from_table, calls_of, limit_of, rendering_of}
use Rattle.upon_meaning_spec.specs.Evaluation.{evaluate}
use Rattle.upon_meaning_spec.specs.Includes.{StatementIncludes, Includes, ElseIncludes, IsNumbered}
use Rattle.upon_meaning_spec.specs.Meaning.{RunningTemplate, Inclusion, turns, statement_means, statements_mean, else_means}
use Rattle.upon_meaning_spec.specs.Outcome.{too_deep, Outcome, States, states}
use Rattle.upon_meaning_spec.specs.Sources.{HandsOnFrom}
use Rattle.upon_meaning_spec.proofs.NotTooDeep.{NotTooDeep, is_not_too_deep, ends_not_too_deep, then_not_too_deep, each_or_not_too_deep, value_not_too_deep, emit_not_too_deep}
use Rattle.upon_meaning_spec.proofs.Reached.{table_hands_on}

-- statements whose includes do not are too deep
module _ {V T : Type 0} (calls : Calls V) (i : Inclusion V T) (run : RunningTemplate) where
  abbrev Goes : Ident → Type 0
  Goes word = (env : Environment) (s : States V T) → NotTooDeep (i run word env s).end

  mutual
    statement_goes : (t : Statement) → ((word : Ident) → StatementIncludes word.text t → Goes word) → (env : Environment) (s : States V T) → NotTooDeep (statement_means calls i run t env s).end
    statement_goes (raw span) h env s = tt
    statement_goes (inline_expr e span) h env s = ends_not_too_deep run (emit calls e env s.values).end (emit_not_too_deep calls e env s.values)
    statement_goes (include word None) h env s = h word refl env s
    statement_goes (include word (Some e)) h env s = value_not_too_deep run (evaluate calls e env s.values).answer _ _ (λ v s'. h word refl (alone_over v) s')
    statement_goes (block opening e body other) h env s = value_not_too_deep run (evaluate calls e env s.values).answer _ _ (λ v s'. each_or_not_too_deep (statements_mean calls i run body) (else_means calls i run other (may_have_else (opened_kind opening))) (statements_go body (λ word is. h word (inl is))) (else_goes other (may_have_else (opened_kind opening)) (λ word is. h word (inr is))) run (turns opening (expression_span e) v) env s')

    pub statements_go : (ts : Statements) → ((word : Ident) → Includes word.text ts → Goes word) → (env : Environment) (s : States V T) → NotTooDeep (statements_mean calls i run ts env s).end
    statements_go no_statements h env s = tt
    statements_go (statement_then t ts) h env s = then_not_too_deep (statement_means calls i run t env s) _ (statement_goes t (λ word is. h word (inl is)) env s) (statements_go ts (λ word is. h word (inr is)) env)

    else_goes : (t : Else) (may : Bool) → ((word : Ident) → ElseIncludes word.text t may → Goes word) → (env : Environment) (s : States V T) → NotTooDeep (else_means calls i run t may env s).end
    else_goes no_else may h env s = tt
    else_goes (otherwise body) false h env s = tt
    else_goes (otherwise body) true h env s = statements_go body h env s

-- a template that a numbered tree includes is numbered
numbered_inside : (table : Table) (number : List ℕ → ℕ) (tree : Statements) (k : ℕ) (name : List ℕ) (t : Template) → IsNumbered table number tree k → Includes name tree → table name ≡ Some t → IsNumbered table number t.tree (number name)
numbered_inside table number tree k name t is includes holds = record { itself = is.reached name t ([], includes) holds; reached = λ other u reaches. is.reached other u (name ∷ reaches.0, (includes, (t, holds, reaches.1))) }

-- what a source refuses, in whatever words, is a fault; it is never an include that is too deep
answer_not_too_deep : {Q : Type 0} (from : RunningTemplate) (word : Ident) (x : SourceAnswer Template) (q : Q) (go : Template → Q → Outcome Q) → ((t : Template) → x ≡ says t → NotTooDeep (go t q).end) → NotTooDeep (on_template from word x q go).end
answer_not_too_deep from word (refuses text) q go h = tt
answer_not_too_deep from word (says t) q go h = h t refl

module _ {V T : Type 0} (calls : Calls V) (table : Table) (resolve : Resolver T) (hands_on : HandsOnFrom table resolve) (number : List ℕ → ℕ) where
  -- an include of a numbered tree, where at least as many includes are left as its number says
  included_goes : (left k : ℕ) (tree : Statements) → IsNumbered table number tree k → k ≤ left → (from : RunningTemplate) (word : Ident) → Includes word.text tree → (env : Environment) (s : States V T) → NotTooDeep (included calls resolve left from word env s).end
  included_goes zero k tree is le from word includes env s =
      let r = resolve s.templates word.text in
      answer_not_too_deep from word r.answer (states s.values r.next) _ (λ t e. absurd (omega (arith, is.itself word.text t includes (hands_on s.templates word.text t e), le)))
  included_goes (suc left) k tree is le from word includes env s =
      let r = resolve s.templates word.text in
      answer_not_too_deep from word r.answer (states s.values r.next) _
      (λ t e.
      let holds = hands_on s.templates word.text t e in
      statements_go calls (included calls resolve left) (running t (Some word.text)) t.tree (included_goes left (number word.text) t.tree (numbered_inside table number tree k word.text t is includes holds) (omega (arith, is.itself word.text t includes holds, le)) (running t (Some word.text))) env (states s.values r.next))

  numbered_goes : (left k : ℕ) (tree : Statements) → IsNumbered table number tree k → k ≤ left → (run : RunningTemplate) (env : Environment) (s : States V T) → NotTooDeep (statements_mean calls (included calls resolve left) run tree env s).end
  numbered_goes left k tree is le run env s = statements_go calls (included calls resolve left) run tree (included_goes left k tree is le run) env s

left_for_number : (k limit : ℕ) → k < limit → k ≤ includes_left limit
left_for_number k limit above = omega (arith, above)

-- any rendering with a source that hands on from a table
pub numbered_from : {V T : Type 0} (calls : Calls V) (table : Table) (resolve : Resolver T) (limit : ℕ) (number : List ℕ → ℕ) (k : ℕ) (t : Template) (name : Option (List ℕ)) (root : Root) (s : States V T) → HandsOnFrom table resolve → IsNumbered table number t.tree k → k < limit → (alone (record { calls = calls; resolve = resolve; limit = limit }) t name root s).end ≢ too_deep
numbered_from calls table resolve limit number k t name root s hands_on is above =
    is_not_too_deep _ (numbered_goes calls table resolve hands_on number (includes_left limit) k t.tree is (left_for_number k limit above) (running t name) (root_environment root) s)

-- any rendering over a table
pub numbered_over_table : {V T : Type 0} (calls : Calls V) (table : Table) (limit : ℕ) (number : List ℕ → ℕ) (k : ℕ) (t : Template) (name : Option (List ℕ)) (root : Root) (s : States V T) → IsNumbered table number t.tree k → k < limit → (alone (record { calls = calls; resolve = from_table table; limit = limit }) t name root s).end ≢ too_deep
numbered_over_table calls table limit number k t name root s is above = numbered_from calls table (from_table table) limit number k t name root s (table_hands_on table) is above

pub numbered_depth : {V T : Type 0} (engine : Engine) (ask : Source V) (depth : Option ℕ) (number : List ℕ → ℕ) (k : ℕ) (t : Template) (name : Option (List ℕ)) (root : Root) (s : States V T) → IsNumbered engine.templates number t.tree k → k < limit_of depth engine → (alone (rendering_of engine ask depth) t name root s).end ≢ too_deep
numbered_depth engine ask depth number k t name root s is above = numbered_over_table (calls_of engine ask) engine.templates (limit_of depth engine) number k t name root s is above
