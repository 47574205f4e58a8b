-- Over a context an expression comes to what it comes to where there is no value source, and the source's state stays.
use Rattle.std.proofs.Common.{◌≡◌, List, [], ◌∷◌, Option, Some, None, refl, ap, ◌∙◌}
use Rattle.upon_types.specs.declared.types.Span.{Span}
use Rattle.upon_types.specs.Expression.{Expression, base, filtered, Base, var, literal, list, mapping, paren, call, Bases, no_bases, base_then, Items, no_items, item_then, Arguments, no_arguments, arguments}
use Rattle.upon_types.specs.Path.{Ident, Member, path_span}
use Rattle.upon_types.specs.Val.{Val, list_val, map_val, Entries, no_entries}
use Rattle.upon_types.specs.View.{vals_of}
use Rattle.upon_lookup.specs.Environment.{Binding, Environment, context}
use Rattle.upon_lookup.specs.Finding.{Finding, found, at_fault, Reply, reply, on_found, with_found}
use Rattle.upon_lookup.specs.Lookup.{bindings_walk, or_root, lookup}
use Rattle.upon_lookup.specs.Source.{refuses, Source}
use Rattle.upon_meaning_spec.specs.Emission.{Emission, format_outcome, emit_found, callable_outcome, emit_call, emit_value, emit, emit_base}
use Rattle.upon_meaning_spec.specs.Engine.{Calls}
use Rattle.upon_meaning_spec.specs.Entries.{with_entry}
use Rattle.upon_meaning_spec.specs.Evaluation.{Operand, operand, values_of, call_value, with_span, prepend, append_operand, as_list, as_map, application, evaluate, evaluate_base, evaluate_bases, evaluate_items, evaluate_arguments}
use Rattle.upon_meaning_spec.specs.Outcome.{Outcome}

-- the environment of bindings over a context
abbrev pub above : List Binding → Val → Environment
above bindings v = record { bindings = bindings; root = context v }

-- callables and a default formatter, without a value source
abbrev pub sourceless : {V : Type 0} → Calls V → Calls (Unit {0})
sourceless calls = record { callables = calls.callables; default_formatter = calls.default_formatter; ask = λ q path. reply (refuses []) q }

-- what came out without a value source, beside the state of one that was not asked
abbrev pub keep : {V A : Type 0} → V → Reply (Unit {0}) A → Reply V A
keep q r = reply r.answer q

abbrev pub keep_end : {V : Type 0} → V → Outcome (Unit {0}) → Outcome V
keep_end q o = record { text = o.text; end = o.end; next = q }

module _ {V : Type 0} (q : V) where
  by_found : {A B : Type 0} (x : Finding A) (u : Unit {0}) (go : A → V → Reply V (Finding B)) (pure : A → Unit {0} → Reply (Unit {0}) (Finding B)) → ((a : A) (u : Unit {0}) → go a q ≡ keep q (pure a u)) → on_found x q go ≡ keep q (on_found x u pure)
  by_found (found a) u go pure h = h a u
  by_found (at_fault f) u go pure h = refl

  found_keeps : {A B : Type 0} (r : Reply V (Finding A)) (o : Reply (Unit {0}) (Finding A)) (go : A → V → Reply V (Finding B)) (pure : A → Unit {0} → Reply (Unit {0}) (Finding B)) → r ≡ keep q o → ((a : A) (u : Unit {0}) → go a q ≡ keep q (pure a u)) → with_found r go ≡ keep q (with_found o pure)
  found_keeps r o go pure e h = ap (λ r. with_found r go) e ∙ by_found o.answer o.next go pure h

  lookup_keeps : (x : Finding (Option Val)) (ask : Source V) (silent : Source (Unit {0})) (v : Val) (first : Member) (rest : List Member) (u : Unit {0}) → or_root x ask (context v) first rest q ≡ keep q (or_root x silent (context v) first rest u)
  lookup_keeps (found (Some w)) ask silent v first rest u = refl
  lookup_keeps (found None) ask silent v first rest u = refl
  lookup_keeps (at_fault f) ask silent v first rest u = refl

  placed_keeps : (r : Reply V (Finding Val)) (o : Reply (Unit {0}) (Finding Val)) (at : Span) → r ≡ keep q o → with_span r at ≡ keep q (with_span o at)
  placed_keeps r o at e = found_keeps r o (λ v p. reply (found (operand v at)) p) (λ v p. reply (found (operand v at)) p) e (λ v u. refl)

  ahead_keeps : (x : Operand) (r : Reply V (Finding (List Operand))) (o : Reply (Unit {0}) (Finding (List Operand))) → r ≡ keep q o → prepend x r ≡ keep q (prepend x o)
  ahead_keeps x r o e = found_keeps r o (λ os p. reply (found (x ∷ os)) p) (λ os p. reply (found (x ∷ os)) p) e (λ v u. refl)

  evaluated_then_keeps : (r : Reply V (Finding Operand)) (o : Reply (Unit {0}) (Finding Operand)) (others : V → Reply V (Finding (List Operand))) (pure : Unit {0} → Reply (Unit {0}) (Finding (List Operand))) → r ≡ keep q o → ((u : Unit {0}) → others q ≡ keep q (pure u)) → append_operand r others ≡ keep q (append_operand o pure)
  evaluated_then_keeps r o others pure e h = found_keeps r o (λ x p. prepend x (others p)) (λ x p. prepend x (pure p)) e (λ x u. ahead_keeps x (others q) (pure u) (h u))

  as_list_keeps : (r : Reply V (Finding (List Operand))) (o : Reply (Unit {0}) (Finding (List Operand))) (at : Span) → r ≡ keep q o → as_list r at ≡ keep q (as_list o at)
  as_list_keeps r o at e = found_keeps r o (λ os p. reply (found (operand (list_val (vals_of (values_of os))) at)) p) (λ os p. reply (found (operand (list_val (vals_of (values_of os))) at)) p) e (λ os u. refl)

  as_map_keeps : (r : Reply V (Finding Entries)) (o : Reply (Unit {0}) (Finding Entries)) (at : Span) → r ≡ keep q o → as_map r at ≡ keep q (as_map o at)
  as_map_keeps r o at e = found_keeps r o (λ es p. reply (found (operand (map_val es) at)) p) (λ es p. reply (found (operand (map_val es) at)) p) e (λ es u. refl)

  applied_keeps : (calls : Calls V) (name : Ident) (whole : Span) (r : Reply V (Finding (List Operand))) (o : Reply (Unit {0}) (Finding (List Operand))) → r ≡ keep q o → application calls name whole r ≡ keep q (application (sourceless calls) name whole o)
  applied_keeps calls name whole r o e =
      found_keeps r o (λ os p. with_span (reply (call_value name whole os (calls.callables name.text)) p) whole) (λ os p. with_span (reply (call_value name whole os (calls.callables name.text)) p) whole) e (λ os u. placed_keeps (reply (call_value name whole os (calls.callables name.text)) q) (reply (call_value name whole os (calls.callables name.text)) u) whole refl)

module _ {V : Type 0} (calls : Calls V) (bindings : List Binding) (v : Val) (q : V) where
  mutual
    pub evaluate_keeps : (e : Expression) (u : Unit {0}) → evaluate calls e (above bindings v) q ≡ keep q (evaluate (sourceless calls) e (above bindings v) u)
    evaluate_keeps (base b) u = base_keeps b u
    evaluate_keeps (filtered receiver name args span) u =
        applied_keeps q calls name span (append_operand (evaluate calls receiver (above bindings v) q) (evaluate_arguments calls args (above bindings v))) (append_operand (evaluate (sourceless calls) receiver (above bindings v) u) (evaluate_arguments (sourceless calls) args (above bindings v))) (evaluated_then_keeps q (evaluate calls receiver (above bindings v) q) (evaluate (sourceless calls) receiver (above bindings v) u) (evaluate_arguments calls args (above bindings v)) (evaluate_arguments (sourceless calls) args (above bindings v)) (evaluate_keeps receiver u) (arguments_keep args))

    base_keeps : (b : Base) (u : Unit {0}) → evaluate_base calls b (above bindings v) q ≡ keep q (evaluate_base (sourceless calls) b (above bindings v) u)
    base_keeps (var first rest) u = placed_keeps q (lookup calls.ask (above bindings v) first rest q) (lookup (sourceless calls).ask (above bindings v) first rest u) (path_span first rest) (lookup_keeps q (bindings_walk bindings first rest) calls.ask (sourceless calls).ask v first rest u)
    base_keeps (literal w span) u = refl
    base_keeps (list bases span) u = as_list_keeps q (evaluate_bases calls bases (above bindings v) q) (evaluate_bases (sourceless calls) bases (above bindings v) u) span (bases_keep bases u)
    base_keeps (mapping items span) u = as_map_keeps q (evaluate_items calls items no_entries (above bindings v) q) (evaluate_items (sourceless calls) items no_entries (above bindings v) u) span (items_keep items no_entries u)
    base_keeps (paren e span) u = evaluate_keeps e u
    base_keeps (call name args span) u = applied_keeps q calls name span (evaluate_arguments calls args (above bindings v) q) (evaluate_arguments (sourceless calls) args (above bindings v) u) (arguments_keep args u)

    bases_keep : (bs : Bases) (u : Unit {0}) → evaluate_bases calls bs (above bindings v) q ≡ keep q (evaluate_bases (sourceless calls) bs (above bindings v) u)
    bases_keep no_bases u = refl
    bases_keep (base_then b bs) u = evaluated_then_keeps q (evaluate_base calls b (above bindings v) q) (evaluate_base (sourceless calls) b (above bindings v) u) (evaluate_bases calls bs (above bindings v)) (evaluate_bases (sourceless calls) bs (above bindings v)) (base_keeps b u) (bases_keep bs)

    items_keep : (is : Items) (es : Entries) (u : Unit {0}) → evaluate_items calls is es (above bindings v) q ≡ keep q (evaluate_items (sourceless calls) is es (above bindings v) u)
    items_keep no_items es u = refl
    items_keep (item_then key b is) es u = found_keeps q (evaluate_base calls b (above bindings v) q) (evaluate_base (sourceless calls) b (above bindings v) u) (λ o p. evaluate_items calls is (with_entry key.text o.value es) (above bindings v) p) (λ o p. evaluate_items (sourceless calls) is (with_entry key.text o.value es) (above bindings v) p) (base_keeps b u) (λ o u'. items_keep is (with_entry key.text o.value es) u')

    arguments_keep : (args : Arguments) (u : Unit {0}) → evaluate_arguments calls args (above bindings v) q ≡ keep q (evaluate_arguments (sourceless calls) args (above bindings v) u)
    arguments_keep no_arguments u = refl
    arguments_keep (arguments bs span) u = bases_keep bs u

-- what an expression writes
module _ {V : Type 0} (q : V) where
  emit_found_keeps : {A : Type 0} (r : Reply V (Finding A)) (o : Reply (Unit {0}) (Finding A)) (go : A → Emission) → r ≡ keep q o → emit_found r go ≡ keep_end q (emit_found o go)
  emit_found_keeps r o go e = ap (λ r. emit_found r go) e

  emit_applied_keeps : (calls : Calls V) (name : Ident) (whole : Span) (r : Reply V (Finding (List Operand))) (o : Reply (Unit {0}) (Finding (List Operand))) → r ≡ keep q o → emit_call calls name whole r ≡ keep_end q (emit_call (sourceless calls) name whole o)
  emit_applied_keeps calls name whole r o e = emit_found_keeps r o (λ given. callable_outcome calls.default_formatter name whole given (calls.callables name.text)) e

  emit_value_keeps : (calls : Calls V) (r : Reply V (Finding Operand)) (o : Reply (Unit {0}) (Finding Operand)) → r ≡ keep q o → emit_value calls r ≡ keep_end q (emit_value (sourceless calls) o)
  emit_value_keeps calls r o e = emit_found_keeps r o (λ x. format_outcome (calls.default_formatter x.value) x.span) e

module _ {V : Type 0} (calls : Calls V) (bindings : List Binding) (v : Val) (q : V) where
  emit_plain_keeps : (b : Base) (u : Unit {0}) → emit_value calls (evaluate_base calls b (above bindings v) q) ≡ keep_end q (emit_value (sourceless calls) (evaluate_base (sourceless calls) b (above bindings v) u))
  emit_plain_keeps b u = emit_value_keeps q calls (evaluate_base calls b (above bindings v) q) (evaluate_base (sourceless calls) b (above bindings v) u) (base_keeps calls bindings v q b u)

  mutual
    pub emit_keeps : (e : Expression) (u : Unit {0}) → emit calls e (above bindings v) q ≡ keep_end q (emit (sourceless calls) e (above bindings v) u)
    emit_keeps (base b) u = emit_base_keeps b u
    emit_keeps (filtered receiver name args span) u =
        emit_applied_keeps q calls name span (append_operand (evaluate calls receiver (above bindings v) q) (evaluate_arguments calls args (above bindings v))) (append_operand (evaluate (sourceless calls) receiver (above bindings v) u) (evaluate_arguments (sourceless calls) args (above bindings v))) (evaluated_then_keeps q (evaluate calls receiver (above bindings v) q) (evaluate (sourceless calls) receiver (above bindings v) u) (evaluate_arguments calls args (above bindings v)) (evaluate_arguments (sourceless calls) args (above bindings v)) (evaluate_keeps calls bindings v q receiver u) (arguments_keep calls bindings v q args))

    emit_base_keeps : (b : Base) (u : Unit {0}) → emit_base calls b (above bindings v) q ≡ keep_end q (emit_base (sourceless calls) b (above bindings v) u)
    emit_base_keeps (paren e span) u = emit_keeps e u
    emit_base_keeps (call name args span) u = emit_applied_keeps q calls name span (evaluate_arguments calls args (above bindings v) q) (evaluate_arguments (sourceless calls) args (above bindings v) u) (arguments_keep calls bindings v q args u)
    emit_base_keeps (var first rest) u = emit_plain_keeps (var first rest) u
    emit_base_keeps (literal w span) u = emit_plain_keeps (literal w span) u
    emit_base_keeps (list bases span) u = emit_plain_keeps (list bases span) u
    emit_base_keeps (mapping items span) u = emit_plain_keeps (mapping items span) u
