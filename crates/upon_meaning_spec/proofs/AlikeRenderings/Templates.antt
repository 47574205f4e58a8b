-- Templates that are alike but for spans, where any `if` may be turned round, give the same text and next states, and end alike.
use Rattle.std.proofs.Common.{◌≡◌, inl, inr, ℕ, zero, suc, List, [], ◌∷◌, ◌++◌, length, map, Option, Some, None, Bool, true, false, refl, sym, ap, ap₂, subst}
use Rattle.upon_types.specs.declared.types.Span.{Span}
use Rattle.upon_types.specs.Expression.{Expression, expression_span}
use Rattle.upon_types.specs.Fault.{Fault}
use Rattle.upon_types.specs.Path.{Ident, LoopVars, item, key_value}
use Rattle.upon_types.specs.BlockKinds.{Opening}
use Rattle.upon_types.specs.Tree.{Statement, raw, inline_expr, include, block, Statements, no_statements, statement_then, Else, no_else, otherwise}
use Rattle.upon_types.specs.Val.{Val, none_val, bool_val, int_val, text_val, list_val, map_val, entry_list}
use Rattle.upon_lookup.specs.Environment.{Binding, binding, plain, key_text, Environment, Root, root_environment, alone_over, bind_all}
use Rattle.upon_lookup.specs.Finding.{Finding, found, at_fault}
use Rattle.upon_lookup.specs.Items.{items_of}
use Rattle.upon_lookup.specs.LookupFaults.{wrong}
use Rattle.upon_lookup.specs.Source.{SourceAnswer, says, refuses}
use Rattle.upon_lookup.specs.Vals.{val_list}
use Rattle.upon_meaning_spec.specs.Alike.{WordsAlike, NamesAlike, ExpressionsAlike, IsEmpty, OpeningsAlike, IsTurned, StatementAlike, StatementsAlike, without_span, EndsAlike, OutcomesAlike}
use Rattle.upon_meaning_spec.specs.Alone.{running, on_template, with_template, included, alone_within}
use Rattle.upon_meaning_spec.specs.Emission.{emit}
use Rattle.upon_meaning_spec.specs.Engine.{Template, Calls, Resolver}
use Rattle.upon_meaning_spec.specs.Evaluation.{Operand, evaluate}
use Rattle.upon_meaning_spec.specs.Meaning.{RunningTemplate, fault_in, ends_in, Inclusion, Body, loop_turns, turns_over, turns, each, each_or, on_value, with_value, statement_means, statements_mean, else_means}
use Rattle.upon_meaning_spec.specs.Outcome.{End, good, fails, too_deep, Outcome, States, states, text_outcome, too_deep_outcome, with_text_before, go_on, then_do}
use Rattle.upon_meaning_spec.proofs.Turns.{one_turn, alike_turns, turned_turns}
use Rattle.upon_meaning_spec.proofs.AlikeRenderings.Emissions.{emit_alike}
use Rattle.upon_meaning_spec.proofs.AlikeRenderings.Expressions.{SameValue, value_alike}
use Rattle.upon_meaning_spec.proofs.AlikeRenderings.Lookups.{FoundAlike, One}

ends_itself : (end : End) → EndsAlike end end
ends_itself good = tt
ends_itself (fails f) = refl
ends_itself too_deep = tt

pub outcome_itself : {Q : Type 0} (o : Outcome Q) → OutcomesAlike o o
outcome_itself o = record { text = refl; end = ends_itself o.end; next = refl }

-- ---- one and then another
module _ {Q : Type 0} where
  after_alike : (text text' : List ℕ) (o o' : Outcome Q) → text ≡ text' → OutcomesAlike o o' → OutcomesAlike (with_text_before text o) (with_text_before text' o')
  after_alike text text' o o' e h = record { text = ap₂ (λ a b. a ++ b) e h.text; end = h.end; next = h.next }

  go_on_alike : (text text' : List ℕ) (end end' : End) (q q' : Q) (go go' : Q → Outcome Q) → text ≡ text' → EndsAlike end end' → q ≡ q' → ((q : Q) → OutcomesAlike (go q) (go' q)) → OutcomesAlike (go_on text end q go) (go_on text' end' q' go')
  go_on_alike text text' good good q q' go go' t h e k = after_alike text text' (go q) (go' q') t (subst (λ p. OutcomesAlike (go q) (go' p)) e (k q))
  go_on_alike text text' (fails f) (fails g) q q' go go' t h e k = record { text = t; end = h; next = e }
  go_on_alike text text' too_deep too_deep q q' go go' t h e k = record { text = t; end = tt; next = e }
  go_on_alike text text' _ _ q q' go go' t h e k = absurd h

  then_alike : (a b : Outcome Q) (go go' : Q → Outcome Q) → OutcomesAlike a b → ((q : Q) → OutcomesAlike (go q) (go' q)) → OutcomesAlike (then_do a go) (then_do b go')
  then_alike a b go go' h k = go_on_alike a.text b.text a.end b.end a.next b.next go go' h.text h.end h.next k

  each_alike : (body body' : Body Q) → ((env : Environment) (q : Q) → OutcomesAlike (body env q) (body' env q)) → (turns : List (List Binding)) (env : Environment) (q : Q) → OutcomesAlike (each body turns env q) (each body' turns env q)
  each_alike body body' h [] env q = outcome_itself (text_outcome [] q)
  each_alike body body' h (bs ∷ turns) env q = then_alike (body (bind_all bs env) q) (body' (bind_all bs env) q) _ _ (h (bind_all bs env) q) (each_alike body body' h turns env)

-- ---- faults of two templates of one name
told_alike : (from from' : RunningTemplate) (f g : Fault) → from.name ≡ from'.name → without_span f ≡ without_span g → without_span (fault_in from f) ≡ without_span (fault_in from' g)
told_alike from from' f g n h = λ i. record { kind = (h i).kind; name = n i; reason = (h i).reason; span = None; picture = None }

end_alike : (from from' : RunningTemplate) (end end' : End) → from.name ≡ from'.name → EndsAlike end end' → EndsAlike (ends_in from end) (ends_in from' end')
end_alike from from' good good n h = tt
end_alike from from' (fails f) (fails g) n h = told_alike from from' f g n h
end_alike from from' too_deep too_deep n h = tt
end_alike from from' _ _ n h = absurd h

-- ---- the items of a loop
items_alike : (names names' : LoopVars) (v : Val) (at at' : Span) → NamesAlike names names' → FoundAlike One (items_of names v at) (items_of names' v at')
items_alike (item a) (item b) (list_val vs) at at' h = λ i. map (λ v. binding (h i) (plain v) ∷ []) (val_list vs)
items_alike (item a) (item b) (map_val es) at at' h = refl
items_alike (item a) (item b) none_val at at' h = refl
items_alike (item a) (item b) (bool_val x) at at' h = refl
items_alike (item a) (item b) (int_val z) at at' h = refl
items_alike (item a) (item b) (text_val s) at at' h = refl
items_alike (key_value key value both) (key_value key' value' both') (map_val es) at at' h = λ i. map (λ (entry : List ℕ × Val). binding (h.0 i) (key_text entry.0) ∷ binding (h.1 i) (plain entry.1) ∷ []) (entry_list es)
items_alike (key_value key value both) (key_value key' value' both') (list_val vs) at at' h = refl
items_alike (key_value key value both) (key_value key' value' both') none_val at at' h = refl
items_alike (key_value key value both) (key_value key' value' both') (bool_val x) at at' h = refl
items_alike (key_value key value both) (key_value key' value' both') (int_val z) at at' h = refl
items_alike (key_value key value both) (key_value key' value' both') (text_val s) at at' h = refl
items_alike (item a) (key_value key' value' both') v at at' h = absurd h
items_alike (key_value key value both) (item b) v at at' h = absurd h

turns_over_alike : (x y : Finding (List (List Binding))) → FoundAlike One x y → FoundAlike One (turns_over x) (turns_over y)
turns_over_alike (found items) (found items') h = ap (λ (xs : List (List Binding)). loop_turns (length xs) 0 xs) h
turns_over_alike (at_fault f) (at_fault g) h = h
turns_over_alike _ _ h = absurd h

-- ---- statements, where includes from both templates give outcomes that are alike
module _ {V T : Type 0} (calls : Calls V) (i : Inclusion V T) (from from' : RunningTemplate) (n : from.name ≡ from'.name) (inc : (word word' : Ident) → WordsAlike word word' → (env : Environment) (s : States V T) → OutcomesAlike (i from word env s) (i from' word' env s)) where
  on_value_alike : (x y : Finding Operand) (s s' : States V T) (go go' : Val → States V T → Outcome (States V T)) → FoundAlike SameValue x y → s ≡ s' → ((v : Val) (s : States V T) → OutcomesAlike (go v s) (go' v s)) → OutcomesAlike (on_value from x s go) (on_value from' y s' go')
  on_value_alike (found o) (found p) s s' go go' h e k = subst (λ v. OutcomesAlike (go o.value s) (go' v s')) h (subst (λ r. OutcomesAlike (go o.value s) (go' o.value r)) e (k o.value s))
  on_value_alike (at_fault f) (at_fault g) s s' go go' h e k = record { text = refl; end = told_alike from from' f g n h; next = e }
  on_value_alike (found o) (at_fault g) s s' go go' h e k = absurd h
  on_value_alike (at_fault f) (found p) s s' go go' h e k = absurd h

  in_value : (e e' : Expression) (env : Environment) (s : States V T) (go go' : Val → States V T → Outcome (States V T)) → ExpressionsAlike e e' → ((v : Val) (s : States V T) → OutcomesAlike (go v s) (go' v s)) → OutcomesAlike (with_value from s.templates (evaluate calls e env s.values) go) (with_value from' s.templates (evaluate calls e' env s.values) go')
  in_value e e' env s go go' h k =
      let r = value_alike calls env e e' h s.values in
      on_value_alike (evaluate calls e env s.values).answer (evaluate calls e' env s.values).answer _ _ go go' r.answer (ap (λ q. states q s.templates) r.next) k

  each_or_alike : (body body' other other' : Body (States V T)) → ((env : Environment) (s : States V T) → OutcomesAlike (body env s) (body' env s)) → ((env : Environment) (s : States V T) → OutcomesAlike (other env s) (other' env s)) → (x y : Finding (List (List Binding))) (env : Environment) (s : States V T) → FoundAlike One x y → OutcomesAlike (each_or body other from x env s) (each_or body' other' from' y env s)
  each_or_alike body body' other other' k l (found []) (found []) env s h = l env s
  each_or_alike body body' other other' k l (found []) (found (bs ∷ turns)) env s h = absurd cc
  each_or_alike body body' other other' k l (found (bs ∷ turns)) (found []) env s h = absurd cc
  each_or_alike body body' other other' k l (found (bs ∷ turns)) (found (bs' ∷ turns')) env s h = subst (λ z. OutcomesAlike (each body (bs ∷ turns) env s) (each body' z env s)) h (each_alike body body' k (bs ∷ turns) env s)
  each_or_alike body body' other other' k l (at_fault f) (at_fault g) env s h = record { text = refl; end = told_alike from from' f g n h; next = refl }
  each_or_alike body body' other other' k l (found []) (at_fault g) env s h = absurd h
  each_or_alike body body' other other' k l (found (bs ∷ turns)) (at_fault g) env s h = absurd h
  each_or_alike body body' other other' k l (at_fault f) (found []) env s h = absurd h
  each_or_alike body body' other other' k l (at_fault f) (found (bs ∷ turns)) env s h = absurd h

  abbrev Means : Statements → Statements → Environment → States V T → Type 0
  Means ts us env s = OutcomesAlike (statements_mean calls i from ts env s) (statements_mean calls i from' us env s)

  nothing_beside : (us : Statements) → IsEmpty us → (env : Environment) (s : States V T) → Means no_statements us env s
  nothing_beside no_statements h env s = outcome_itself (text_outcome [] s)
  nothing_beside (statement_then u us) h env s = absurd h

  beside_nothing : (ts : Statements) → IsEmpty ts → (env : Environment) (s : States V T) → Means ts no_statements env s
  beside_nothing no_statements h env s = outcome_itself (text_outcome [] s)
  beside_nothing (statement_then t ts) h env s = absurd h

  abbrev OthersMean : Else → Else → Bool → Type 0
  OthersMean a b may = (env : Environment) (s : States V T) → OutcomesAlike (else_means calls i from a may env s) (else_means calls i from' b may env s)

  neither : (may : Bool) → OthersMean no_else no_else may
  neither may env s = outcome_itself (text_outcome [] s)

  none_beside : (b : Statements) → IsEmpty b → (may : Bool) → OthersMean no_else (otherwise b) may
  none_beside b h false env s = outcome_itself (text_outcome [] s)
  none_beside b h true env s = nothing_beside b h env s

  beside_none : (a : Statements) → IsEmpty a → (may : Bool) → OthersMean (otherwise a) no_else may
  beside_none a h false env s = outcome_itself (text_outcome [] s)
  beside_none a h true env s = beside_nothing a h env s

  both_alike : (a b : Statements) → ((env : Environment) (s : States V T) → Means a b env s) → (may : Bool) → OthersMean (otherwise a) (otherwise b) may
  both_alike a b h false env s = outcome_itself (text_outcome [] s)
  both_alike a b h true env s = h env s

  -- what blocks with these branches mean, each by whether it may have another branch and by its turns
  abbrev BlocksMean : Statements → Statements → Else → Else → Environment → States V T → Bool → Finding (List (List Binding)) → Bool → Finding (List (List Binding)) → Type 0
  BlocksMean a a' b b' env s may x may' y = OutcomesAlike (each_or (statements_mean calls i from a) (else_means calls i from b may) from x env s) (each_or (statements_mean calls i from' a') (else_means calls i from' b' may') from' y env s)

  straight : (one other : Opening) (e e' : Expression) (a a' : Statements) (b b' : Else) (env : Environment) (s : States V T) → ExpressionsAlike e e' → OpeningsAlike one other → ((env : Environment) (s : States V T) → Means a a' env s) → ((may : Bool) → OthersMean b b' may)
      → OutcomesAlike (statement_means calls i from (block one e a b) env s) (statement_means calls i from' (block other e' a' b') env s)
  straight one other e e' a a' b b' env s e_alike h bodies others =
      let alike : (may : Bool) (x y : Finding (List (List Binding))) (s : States V T) → FoundAlike One x y → BlocksMean a a' b b' env s may x may y = λ may x y s' k. each_or_alike (statements_mean calls i from a) (statements_mean calls i from' a') (else_means calls i from b may) (else_means calls i from' b' may) bodies (others may) x y env s' k in
      in_value e e' env s _ _ e_alike
      (λ v s'. alike_turns (BlocksMean a a' b b' env s') one other v (expression_span e) (expression_span e') h
      (λ may names names' k. alike may _ _ s' (turns_over_alike (items_of names v (expression_span e)) (items_of names' v (expression_span e')) (items_alike names names' v (expression_span e) (expression_span e') k)))
      (λ may all. alike may (found all) (found all) s' refl))

  turned_round : (one other : Opening) (e e' : Expression) (a a' : Statements) (b b' : Else) (env : Environment) (s : States V T) → ExpressionsAlike e e' → IsTurned one other → ((s : States V T) → OutcomesAlike (statements_mean calls i from a env s) (else_means calls i from' b' true env s)) → ((s : States V T) → OutcomesAlike (else_means calls i from b true env s) (statements_mean calls i from' a' env s))
      → OutcomesAlike (statement_means calls i from (block one e a b) env s) (statement_means calls i from' (block other e' a' b') env s)
  turned_round one other e e' a a' b b' env s e_alike round h k =
      in_value e e' env s _ _ e_alike
      (λ v s'. turned_turns (BlocksMean a a' b b' env s')
      (subst (λ o. OutcomesAlike o (else_means calls i from' b' true env s')) (sym (one_turn (statements_mean calls i from a env s'))) (h s'))
      (subst (λ o. OutcomesAlike (else_means calls i from b true env s') o) (sym (one_turn (statements_mean calls i from' a' env s'))) (k s'))
      one other v (expression_span e) (expression_span e') round)

  mutual
    statement_alike : (t u : Statement) → StatementAlike from.source from'.source t u → (env : Environment) (s : States V T) → OutcomesAlike (statement_means calls i from t env s) (statement_means calls i from' u env s)
    statement_alike (raw span) (raw place) h env s = record { text = h; end = tt; next = refl }
    statement_alike (inline_expr e span) (inline_expr e' place) h env s =
        let o = emit_alike calls env e e' h s.values in
        record { text = o.text; end = end_alike from from' (emit calls e env s.values).end (emit calls e' env s.values).end n o.end; next = ap (λ q. states q s.templates) o.next }
    statement_alike (include word None) (include word' None) h env s = inc word word' h.0 env s
    statement_alike (include word (Some e)) (include word' (Some e')) h env s = in_value e e' env s _ _ h.1 (λ v s'. inc word word' h.0 (alone_over v) s')
    statement_alike (include word None) (include word' (Some e')) h env s = absurd h.1
    statement_alike (include word (Some e)) (include word' None) h env s = absurd h.1
    statement_alike (block opening e a (otherwise b)) (block opening' e' a' (otherwise b')) (e_alike, inl same) env s =
        straight opening opening' e e' a a' (otherwise b) (otherwise b') env s e_alike same.0 (statements_alike a a' same.1) (both_alike b b' (statements_alike b b' same.2))
    statement_alike (block opening e a (otherwise b)) (block opening' e' a' (otherwise b')) (e_alike, inr round) env s =
        turned_round opening opening' e e' a a' (otherwise b) (otherwise b') env s e_alike round.0 (statements_alike a b' round.1 env) (statements_alike b a' round.2 env)
    statement_alike (block opening e a no_else) (block opening' e' a' (otherwise b')) (e_alike, inl same) env s =
        straight opening opening' e e' a a' no_else (otherwise b') env s e_alike same.0 (statements_alike a a' same.1) (none_beside b' same.2)
    statement_alike (block opening e a no_else) (block opening' e' a' (otherwise b')) (e_alike, inr round) env s =
        turned_round opening opening' e e' a a' no_else (otherwise b') env s e_alike round.0 (statements_alike a b' round.1 env) (nothing_beside a' round.2 env)
    statement_alike (block opening e a (otherwise b)) (block opening' e' a' no_else) (e_alike, inl same) env s =
        straight opening opening' e e' a a' (otherwise b) no_else env s e_alike same.0 (statements_alike a a' same.1) (beside_none b same.2)
    statement_alike (block opening e a (otherwise b)) (block opening' e' a' no_else) (e_alike, inr round) env s =
        turned_round opening opening' e e' a a' (otherwise b) no_else env s e_alike round.0 (beside_nothing a round.1 env) (statements_alike b a' round.2 env)
    statement_alike (block opening e a no_else) (block opening' e' a' no_else) (e_alike, inl same) env s =
        straight opening opening' e e' a a' no_else no_else env s e_alike same.0 (statements_alike a a' same.1) (neither)
    statement_alike (block opening e a no_else) (block opening' e' a' no_else) (e_alike, inr round) env s =
        turned_round opening opening' e e' a a' no_else no_else env s e_alike round.0 (beside_nothing a round.1 env) (nothing_beside a' round.2 env)
    statement_alike _ _ h env s = absurd h

    pub statements_alike : (ts us : Statements) → StatementsAlike from.source from'.source ts us → (env : Environment) (s : States V T) → Means ts us env s
    statements_alike no_statements no_statements h env s = outcome_itself (text_outcome [] s)
    statements_alike (statement_then t ts) (statement_then u us) h env s = then_alike (statement_means calls i from t env s) (statement_means calls i from' u env s) _ _ (statement_alike t u h.0 env s) (statements_alike ts us h.1 env)
    statements_alike _ _ h env s = absurd h

-- ---- includes, and templates
module _ {V T : Type 0} (calls : Calls V) (resolve : Resolver T) where
  answer_alike : (from from' : RunningTemplate) (word word' : Ident) (x : SourceAnswer Template) (q : States V T) (go : Template → States V T → Outcome (States V T)) → from.name ≡ from'.name → OutcomesAlike (on_template from word x q go) (on_template from' word' x q go)
  answer_alike from from' word word' (says t) q go n = outcome_itself (go t q)
  answer_alike from from' word word' (refuses text) q go n = record { text = refl; end = told_alike from from' (wrong text word.span) (wrong text word'.span) n refl; next = refl }

  included_alike : (left : ℕ) (from from' : RunningTemplate) → from.name ≡ from'.name → (word word' : Ident) → WordsAlike word word' → (env : Environment) (s : States V T) → OutcomesAlike (included calls resolve left from word env s) (included calls resolve left from' word' env s)
  included_alike zero from from' n word word' h env s =
      let go : List ℕ → Template → States V T → Outcome (States V T) = λ name t s'. too_deep_outcome s' in
      subst (λ name. OutcomesAlike (included calls resolve zero from word env s) (with_template from' word' s.values (resolve s.templates name) (go name))) h
      (answer_alike from from' word word' (resolve s.templates word.text).answer (states s.values (resolve s.templates word.text).next) (go word.text) n)
  included_alike (suc left) from from' n word word' h env s =
      let go : List ℕ → Template → States V T → Outcome (States V T) = λ name t s'. statements_mean calls (included calls resolve left) (running t (Some name)) t.tree env s' in
      subst (λ name. OutcomesAlike (included calls resolve (suc left) from word env s) (with_template from' word' s.values (resolve s.templates name) (go name))) h
      (answer_alike from from' word word' (resolve s.templates word.text).answer (states s.values (resolve s.templates word.text).next) (go word.text) n)

  pub alone_alike : (left : ℕ) (t u : Template) (name : Option (List ℕ)) (root : Root) (s : States V T) → StatementsAlike t.source u.source t.tree u.tree → OutcomesAlike (alone_within calls resolve left t name root s) (alone_within calls resolve left u name root s)
  alone_alike left t u name root s h =
      statements_alike calls (included calls resolve left) (running t name) (running u name) refl (included_alike left (running t name) (running u name) refl) t.tree u.tree h (root_environment root) s
