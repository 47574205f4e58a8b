-- What statements, includes and templates give at a greater depth, beside what they give at a lesser one.
use Rattle.std.proofs.Common.{ℕ, zero, suc, ◌≤◌, List, Option, Some, None, refl, arith, Bool, true, false}
use Rattle.upon_types.specs.Expression.{expression_span}
use Rattle.upon_types.specs.Path.{Ident}
use Rattle.upon_types.specs.BlockKinds.{opened_kind, may_have_else}
use Rattle.upon_types.specs.Tree.{Statement, raw, inline_expr, include, block, Statements, no_statements, statement_then, Else, no_else, otherwise}
use Rattle.upon_lookup.specs.Environment.{Environment, Root, root_environment, alone_over}
use Rattle.upon_meaning_spec.specs.Alone.{running, included, alone_within, includes_left, alone}
use Rattle.upon_meaning_spec.specs.Emission.{emit}
use Rattle.upon_meaning_spec.specs.Engine.{Template, Calls, Resolver, Rendering}
use Rattle.upon_meaning_spec.specs.Evaluation.{evaluate}
use Rattle.upon_meaning_spec.specs.GreaterDepth.{GoesOn}
use Rattle.upon_meaning_spec.specs.Meaning.{RunningTemplate, Inclusion, turns, in_template, statement_means, statements_mean, else_means}
use Rattle.upon_meaning_spec.specs.Outcome.{States}
use Rattle.upon_meaning_spec.proofs.Deeper.{Deeper, deeper_same, goes_on_of_deeper, stopped_deeper, deeper_then, deeper_each_or, deeper_template, deeper_value}

module _ {V T : Type 0} (calls : Calls V) (run : RunningTemplate) (i j : Inclusion V T) (h : (from : RunningTemplate) (word : Ident) (env : Environment) (s : States V T) → Deeper (i from word env s) (j from word env s)) where
  mutual
    pub deeper_statement : (t : Statement) (env : Environment) (s : States V T) → Deeper (statement_means calls i run t env s) (statement_means calls j run t env s)
    deeper_statement (raw span) env s = refl
    deeper_statement (inline_expr e span) env s = deeper_same (in_template run s.templates (emit calls e env s.values))
    deeper_statement (include word None) env s = h run word env s
    deeper_statement (include word (Some e)) env s = deeper_value run (evaluate calls e env s.values).answer _ _ _ (λ v s'. h run word (alone_over v) s')
    deeper_statement (block opening e body other) env s = deeper_value run (evaluate calls e env s.values).answer _ _ _ (λ v s'. deeper_each_or (statements_mean calls i run body) (statements_mean calls j run body) (else_means calls i run other (may_have_else (opened_kind opening))) (else_means calls j run other (may_have_else (opened_kind opening))) (deeper_statements body) (deeper_else other (may_have_else (opened_kind opening))) run (turns opening (expression_span e) v) env s')

    pub deeper_statements : (ts : Statements) (env : Environment) (s : States V T) → Deeper (statements_mean calls i run ts env s) (statements_mean calls j run ts env s)
    deeper_statements no_statements env s = refl
    deeper_statements (statement_then t ts) env s = deeper_then _ _ _ _ (deeper_statement t env s) (deeper_statements ts env)

    deeper_else : (t : Else) (may : Bool) (env : Environment) (s : States V T) → Deeper (else_means calls i run t may env s) (else_means calls j run t may env s)
    deeper_else no_else may env s = refl
    deeper_else (otherwise body) false env s = refl
    deeper_else (otherwise body) true env s = deeper_statements body env s

module _ {V T : Type 0} (calls : Calls V) (resolve : Resolver T) where
  pub deeper_included : (a b : ℕ) → a ≤ b → (from : RunningTemplate) (word : Ident) (env : Environment) (s : States V T) → Deeper (included calls resolve a from word env s) (included calls resolve b from word env s)
  deeper_included zero zero le from word env s = deeper_same (included calls resolve zero from word env s)
  deeper_included zero (suc b) le from word env s = deeper_template from word (resolve s.templates word.text).answer _ _ _ (λ t s'. stopped_deeper s' (statements_mean calls (included calls resolve b) (running t (Some word.text)) t.tree env s'))
  deeper_included (suc a) zero le from word env s = absurd (omega (arith, le))
  deeper_included (suc a) (suc b) le from word env s = deeper_template from word (resolve s.templates word.text).answer _ _ _ (λ t s'. deeper_statements calls (running t (Some word.text)) (included calls resolve a) (included calls resolve b) (deeper_included a b (omega (arith, le))) t.tree env s')

  -- a template in any environment
  pub deeper_template_in : (a b : ℕ) → a ≤ b → (t : Template) (name : Option (List ℕ)) (env : Environment) (s : States V T) → Deeper (statements_mean calls (included calls resolve a) (running t name) t.tree env s) (statements_mean calls (included calls resolve b) (running t name) t.tree env s)
  deeper_template_in a b le t name env s = deeper_statements calls (running t name) (included calls resolve a) (included calls resolve b) (deeper_included a b le) t.tree env s

  pub deeper_alone_within : (a b : ℕ) → a ≤ b → (t : Template) (name : Option (List ℕ)) (root : Root) (s : States V T) → Deeper (alone_within calls resolve a t name root s) (alone_within calls resolve b t name root s)
  deeper_alone_within a b le t name root s = deeper_template_in a b le t name (root_environment root) s

includes_left-le : (a b : ℕ) → a ≤ b → includes_left a ≤ includes_left b
includes_left-le a b le = omega (arith, le)

pub greater_depth : {V T : Type 0} (rendering : Rendering V T) (a b : ℕ) (t : Template) (name : Option (List ℕ)) (root : Root) (s : States V T) → a ≤ b → GoesOn (alone (record rendering { limit = a }) t name root s) (alone (record rendering { limit = b }) t name root s)
greater_depth rendering a b t name root s le = goes_on_of_deeper _ _ (deeper_alone_within rendering.calls rendering.resolve (includes_left a) (includes_left b) (includes_left-le a b le) t name root s)
