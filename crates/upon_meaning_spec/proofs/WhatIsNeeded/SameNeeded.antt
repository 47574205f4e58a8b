-- What a tree means stays the same where the paths that it needs are found alike.
use Rattle.std.proofs.Common.{◌≡◌, ◌⊎◌, ℕ, List, [], ◌∷◌, Some, None, inl, inr, refl, sym, subst, Bool, true, false}
use Rattle.upon_types.specs.Expression.{expression_span}
use Rattle.upon_types.specs.Path.{Ident}
use Rattle.upon_types.specs.BlockKinds.{block_names, opened_kind, may_have_else}
use Rattle.upon_types.specs.Tree.{Statement, raw, inline_expr, include, block, Statements, no_statements, statement_then, Else, no_else, otherwise}
use Rattle.upon_lookup.specs.Environment.{Binding, Environment, bind_all, alone_over}
use Rattle.upon_lookup.specs.Finding.{Finding, found, at_fault}
use Rattle.upon_lookup.specs.Source.{Source}
use Rattle.upon_meaning_spec.specs.ValueSource.{with_source}
use Rattle.upon_meaning_spec.specs.Engine.{Calls}
use Rattle.upon_meaning_spec.specs.Meaning.{RunningTemplate, Inclusion, in_template, with_value, turns, each, each_or, statement_means, statements_mean, else_means}
use Rattle.upon_meaning_spec.specs.Outcome.{Outcome, States, then_do}
use Rattle.upon_meaning_spec.specs.Needs.{Start, OneHides, StatementBegins, StatementsBegin, ElseBegins, StatementPasses, StatementsPass, ElsePasses}
use Rattle.upon_meaning_spec.proofs.Turns.{EachBinds, FoundBind, turns_bind}
use Rattle.upon_meaning_spec.proofs.WhatIsNeeded.FoundAlike.{FoundAlike, Within, fewer, alike_bind_all, alike_over}
use Rattle.upon_meaning_spec.proofs.WhatIsNeeded.SameExpressions.{same_value, same_text}

-- statements, where an include of a name means the same wherever what it needs is found alike
module _ {V T : Type 0} (calls : Calls V) (ask' : Source V) (running : RunningTemplate) (inc inc' : Inclusion V T) (Via : List ℕ → Start → Type 0) where
  abbrev SameBody : (Start → Type 0) → (Environment → States V T → Outcome (States V T)) → (Environment → States V T → Outcome (States V T)) → Type 0
  SameBody starts body body' = (env env' : Environment) → FoundAlike calls.ask ask' starts env env' → (s : States V T) → body env s ≡ body' env' s

  -- what a body needs of its own and by its includes
  abbrev BodyNeeds : Statements → Start → Type 0
  BodyNeeds body start = StatementsBegin start body ⊎ ((via : List ℕ) × StatementsPass start via body × Via via start)

  -- what a body needs and its binding does not hide
  outside_of : (body : Statements) (starts hidden : Start → Type 0) → ((start : Start) → (hidden start → ⊥) → StatementsBegin start body → starts start) → ((via : List ℕ) (start : Start) → (hidden start → ⊥) → StatementsPass start via body → Via via start → starts start) → (start : Start) → BodyNeeds body start → (hidden start → ⊥) → starts start
  outside_of body starts hidden h k start (inl b) none = h start none b
  outside_of body starts hidden h k start (inr it) none = k it.0 start none it.1 it.2

  module _ (inside starts : Start → Type 0) (names : List (List ℕ)) (outside : (start : Start) → inside start → (OneHides names start → ⊥) → starts start) (body body' : Environment → States V T → Outcome (States V T)) (same : SameBody inside body body') (env env' : Environment) (alike : FoundAlike calls.ask ask' starts env env') where
    same_each : (turns : List (List Binding)) (s : States V T) → EachBinds names turns → each body turns env s ≡ each body' turns env' s
    same_each [] s all = refl
    same_each (bs ∷ turns) s all =
        λ i. then_do (same (bind_all bs env) (bind_all bs env') (alike_bind_all calls.ask ask' inside starts bs env env' alike (λ start n none. outside start n (λ h. none (subst (λ (words : List (List ℕ)). OneHides words start) (sym all.0) h)))) s i)
        (λ s'. same_each turns s' all.1 i)

    same_each_or : (other other' : Environment → States V T → Outcome (States V T)) → ((s : States V T) → other env s ≡ other' env' s) → (x : Finding (List (List Binding))) (s : States V T) → FoundBind names x → each_or body other running x env s ≡ each_or body' other' running x env' s
    same_each_or other other' k (found []) s all = k s
    same_each_or other other' k (found (bs ∷ turns)) s all = same_each (bs ∷ turns) s all
    same_each_or other other' k (at_fault f) s all = refl

  module _ (same_include : (word : Ident) → SameBody (Via word.text) (inc running word) (inc' running word)) where
    mutual
      same_statement : (t : Statement) (starts : Start → Type 0) → Within (λ start. StatementBegins start t) starts → ((via : List ℕ) (start : Start) → StatementPasses start via t → Via via start → starts start) → SameBody starts (statement_means calls inc running t) (statement_means (with_source ask' calls) inc' running t)
      same_statement (raw span) starts h k env env' alike s = refl
      same_statement (inline_expr e span) starts h k env env' alike s = λ i. in_template running s.templates (same_text calls ask' starts env env' alike e h s.values i)
      same_statement (include word None) starts h k env env' alike s =
          same_include word env env' (fewer calls.ask ask' (Via word.text) starts env env' alike (λ start n. k word.text start refl n)) s
      same_statement (include word (Some e)) starts h k env env' alike s =
          λ i. with_value running s.templates (same_value calls ask' starts env env' alike e h s.values i)
          (λ v s'. same_include word (alone_over v) (alone_over v) (alike_over calls.ask ask' (Via word.text) v) s' i)
      same_statement (block opening e body other) starts h k env env' alike s =
          λ i. with_value running s.templates (same_value calls ask' starts env env' alike e (λ n r. h n (inl r)) s.values i)
          (λ v s'. same_each_or (BodyNeeds body) starts (block_names opening) (outside_of body starts (OneHides (block_names opening)) (λ start n b. h start (inr (inl (n, b)))) (λ via start n p. k via start (inl (n, p)))) (statements_mean calls inc running body) (statements_mean (with_source ask' calls) inc' running body) (same_statements body (BodyNeeds body) (λ start b. inl b) (λ via start p n. inr (via, p, n))) env env' alike (else_means calls inc running other (may_have_else (opened_kind opening))) (else_means (with_source ask' calls) inc' running other (may_have_else (opened_kind opening))) (same_else other (may_have_else (opened_kind opening)) starts (λ n r. h n (inr (inr r))) (λ via n r. k via n (inr r)) env env' alike) (turns opening (expression_span e) v) s' (turns_bind opening (expression_span e) v) i)

      pub same_statements : (ts : Statements) (starts : Start → Type 0) → Within (λ start. StatementsBegin start ts) starts → ((via : List ℕ) (start : Start) → StatementsPass start via ts → Via via start → starts start) → SameBody starts (statements_mean calls inc running ts) (statements_mean (with_source ask' calls) inc' running ts)
      same_statements no_statements starts h k env env' alike s = refl
      same_statements (statement_then t ts) starts h k env env' alike s =
          λ i. then_do (same_statement t starts (λ n r. h n (inl r)) (λ via n r. k via n (inl r)) env env' alike s i) (λ s'. same_statements ts starts (λ n r. h n (inr r)) (λ via n r. k via n (inr r)) env env' alike s' i)

      same_else : (other : Else) (may : Bool) (starts : Start → Type 0) → Within (λ start. ElseBegins start other may) starts → ((via : List ℕ) (start : Start) → ElsePasses start via other may → Via via start → starts start) → SameBody starts (else_means calls inc running other may) (else_means (with_source ask' calls) inc' running other may)
      same_else no_else may starts h k env env' alike s = refl
      same_else (otherwise body) false starts h k env env' alike s = refl
      same_else (otherwise body) true starts h k env env' alike s = same_statements body starts h k env env' alike s
