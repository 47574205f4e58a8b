-- What a tree means stays the same where the names that it reads are found alike, and its includes mean the same.
use Rattle.std.proofs.Common.{◌≡◌, ℕ, List, [], ◌∷◌, Some, None, inl, inr, refl, Bool, true, false}
use Rattle.upon_types.specs.Expression.{Expression, base, filtered, Base, var, literal, list, mapping, paren, call, Bases, no_bases, base_then, Items, no_items, item_then, Arguments, no_arguments, arguments, expression_span}
use Rattle.upon_types.specs.Path.{Ident, Access, by_index, by_key, path_span}
use Rattle.upon_types.specs.BlockKinds.{opened_kind, may_have_else}
use Rattle.upon_types.specs.Tree.{Statement, raw, inline_expr, include, block, Statements, no_statements, statement_then, Else, no_else, otherwise}
use Rattle.upon_types.specs.Val.{Entries, no_entries}
use Rattle.upon_lookup.specs.Environment.{Binding, Environment, bind_all, alone_over}
use Rattle.upon_lookup.specs.Finding.{Finding, found, at_fault, with_found}
use Rattle.upon_meaning_spec.specs.Emission.{emit, emit_base, emit_call, emit_value}
use Rattle.upon_meaning_spec.specs.Engine.{Calls}
use Rattle.upon_meaning_spec.specs.Entries.{with_entry}
use Rattle.upon_meaning_spec.specs.Evaluation.{append_operand, with_span, as_list, as_map, application, evaluate, evaluate_base, evaluate_bases, evaluate_items, evaluate_arguments}
use Rattle.upon_meaning_spec.specs.Includes.{StatementIncludes, Includes, ElseIncludes}
use Rattle.upon_meaning_spec.specs.Meaning.{RunningTemplate, Inclusion, in_template, with_value, turns, each, each_or, statement_means, statements_mean, else_means}
use Rattle.upon_meaning_spec.specs.Names.{IsName, ExpressionReads, BaseReads, BasesRead, ItemsRead, ArgumentsRead, StatementReads, StatementsRead, ElseReads}
use Rattle.upon_meaning_spec.specs.Outcome.{Outcome, States, then_do}
use Rattle.upon_meaning_spec.proofs.SameLookups.{Known, FoundAlike, alike_bind_all}

-- each name that the first has is one of the second
abbrev pub Within : (List ℕ → Type 0) → (List ℕ → Type 0) → Type 0
Within some names = (name : List ℕ) → some name → names name

known : (names : List ℕ → Type 0) (selector : Access) → Within (λ name. IsName name selector) names → Known names selector
known names (by_index n span) h = tt
known names (by_key word) h = h word.text refl

-- expressions
module _ {V : Type 0} (calls : Calls V) (names : List ℕ → Type 0) (env env' : Environment) (alike : FoundAlike calls.ask names env env') where
  mutual
    pub same_value : (e : Expression) → Within (λ name. ExpressionReads name e) names → (q : V) → evaluate calls e env q ≡ evaluate calls e env' q
    same_value (base b) h q = same_base b h q
    same_value (filtered receiver name args span) h q =
        λ i. application calls name span (append_operand (same_value receiver (λ n r. h n (inl r)) q i) (λ q'. same_arguments args (λ n r. h n (inr r)) q' i))

    same_base : (b : Base) → Within (λ name. BaseReads name b) names → (q : V) → evaluate_base calls b env q ≡ evaluate_base calls b env' q
    same_base (var first rest) h q = λ i. with_span (alike first rest q (known names first.access h) i) (path_span first rest)
    same_base (literal v span) h q = refl
    same_base (list bases span) h q = λ i. as_list (same_bases bases h q i) span
    same_base (mapping items span) h q = λ i. as_map (same_items items no_entries h q i) span
    same_base (paren e span) h q = same_value e h q
    same_base (call name args span) h q = λ i. application calls name span (same_arguments args h q i)

    same_bases : (bs : Bases) → Within (λ name. BasesRead name bs) names → (q : V) → evaluate_bases calls bs env q ≡ evaluate_bases calls bs env' q
    same_bases no_bases h q = refl
    same_bases (base_then b bs) h q = λ i. append_operand (same_base b (λ n r. h n (inl r)) q i) (λ q'. same_bases bs (λ n r. h n (inr r)) q' i)

    same_items : (items : Items) (es : Entries) → Within (λ name. ItemsRead name items) names → (q : V) → evaluate_items calls items es env q ≡ evaluate_items calls items es env' q
    same_items no_items es h q = refl
    same_items (item_then key b items) es h q =
        λ i. with_found (same_base b (λ n r. h n (inl r)) q i) (λ o q'. same_items items (with_entry key.text o.value es) (λ n r. h n (inr r)) q' i)

    same_arguments : (args : Arguments) → Within (λ name. ArgumentsRead name args) names → (q : V) → evaluate_arguments calls args env q ≡ evaluate_arguments calls args env' q
    same_arguments no_arguments h q = refl
    same_arguments (arguments bases span) h q = same_bases bases h q

  mutual
    pub same_text : (e : Expression) → Within (λ name. ExpressionReads name e) names → (q : V) → emit calls e env q ≡ emit calls e env' q
    same_text (base b) h q = same_base_text b h q
    same_text (filtered receiver name args span) h q =
        λ i. emit_call calls name span (append_operand (same_value receiver (λ n r. h n (inl r)) q i) (λ q'. same_arguments args (λ n r. h n (inr r)) q' i))

    same_base_text : (b : Base) → Within (λ name. BaseReads name b) names → (q : V) → emit_base calls b env q ≡ emit_base calls b env' q
    same_base_text (paren e span) h q = same_text e h q
    same_base_text (call name args span) h q = λ i. emit_call calls name span (same_arguments args h q i)
    same_base_text (var first rest) h q = λ i. emit_value calls (same_base (var first rest) h q i)
    same_base_text (literal v span) h q = λ i. emit_value calls (same_base (literal v span) h q i)
    same_base_text (list bases span) h q = λ i. emit_value calls (same_base (list bases span) h q i)
    same_base_text (mapping items span) h q = λ i. emit_value calls (same_base (mapping items span) h q i)

-- statements, where includes of these names mean the same wherever those names are found alike
module _ {V T : Type 0} (calls : Calls V) (running : RunningTemplate) (names included_names : List ℕ → Type 0) (inc inc' : Inclusion V T) where
  abbrev Alike : Environment → Environment → Type 0
  Alike env env' = FoundAlike calls.ask names env env'

  abbrev SameBody : (Environment → States V T → Outcome (States V T)) → (Environment → States V T → Outcome (States V T)) → Type 0
  SameBody body body' = (env env' : Environment) → Alike env env' → (s : States V T) → body env s ≡ body' env' s

  module _ (body body' : Environment → States V T → Outcome (States V T)) (same : SameBody body body') (from : RunningTemplate) (env env' : Environment) (alike : Alike env env') where
    same_each : (turns : List (List Binding)) (s : States V T) → each body turns env s ≡ each body' turns env' s
    same_each [] s = refl
    same_each (bs ∷ turns) s = λ i. then_do (same (bind_all bs env) (bind_all bs env') (alike_bind_all calls.ask names bs env env' alike) s i) (λ s'. same_each turns s' i)

    same_each_or : (other other' : Environment → States V T → Outcome (States V T)) → SameBody other other' → (x : Finding (List (List Binding))) (s : States V T) → each_or body other from x env s ≡ each_or body' other' from x env' s
    same_each_or other other' k (found []) s = k env env' alike s
    same_each_or other other' k (found (bs ∷ turns)) s = same_each (bs ∷ turns) s
    same_each_or other other' k (at_fault f) s = refl

  module _ (same_include : (from : RunningTemplate) (word : Ident) → included_names word.text → SameBody (inc from word) (inc' from word)) where
    mutual
      pub same_statement : (t : Statement) → Within (λ name. StatementReads name t) names → Within (λ name. StatementIncludes name t) included_names → SameBody (statement_means calls inc running t) (statement_means calls inc' running t)
      same_statement (raw span) h k env env' alike s = refl
      same_statement (inline_expr e span) h k env env' alike s = λ i. in_template running s.templates (same_text calls names env env' alike e h s.values i)
      same_statement (include word None) h k env env' alike s = same_include running word (k word.text refl) env env' alike s
      same_statement (include word (Some e)) h k env env' alike s =
          λ i. with_value running s.templates (same_value calls names env env' alike e h s.values i)
          (λ v s'. same_include running word (k word.text refl) (alone_over v) (alone_over v) (λ first rest q known. refl) s' i)
      same_statement (block opening e body other) h k env env' alike s =
          λ i. with_value running s.templates (same_value calls names env env' alike e (λ n r. h n (inl r)) s.values i)
          (λ v s'. same_each_or (statements_mean calls inc running body) (statements_mean calls inc' running body) (same_statements body (λ n r. h n (inr (inl r))) (λ n r. k n (inl r))) running env env' alike (else_means calls inc running other (may_have_else (opened_kind opening))) (else_means calls inc' running other (may_have_else (opened_kind opening))) (same_else other (may_have_else (opened_kind opening)) (λ n r. h n (inr (inr r))) (λ n r. k n (inr r))) (turns opening (expression_span e) v) s' i)

      pub same_statements : (ts : Statements) → Within (λ name. StatementsRead name ts) names → Within (λ name. Includes name ts) included_names → SameBody (statements_mean calls inc running ts) (statements_mean calls inc' running ts)
      same_statements no_statements h k env env' alike s = refl
      same_statements (statement_then t ts) h k env env' alike s =
          λ i. then_do (same_statement t (λ n r. h n (inl r)) (λ n r. k n (inl r)) env env' alike s i) (λ s'. same_statements ts (λ n r. h n (inr r)) (λ n r. k n (inr r)) env env' alike s' i)

      same_else : (other : Else) (may : Bool) → Within (λ name. ElseReads name other may) names → Within (λ name. ElseIncludes name other may) included_names → SameBody (else_means calls inc running other may) (else_means calls inc' running other may)
      same_else no_else may h k env env' alike s = refl
      same_else (otherwise body) false h k env env' alike s = refl
      same_else (otherwise body) true h k env env' alike s = same_statements body h k env env' alike s
