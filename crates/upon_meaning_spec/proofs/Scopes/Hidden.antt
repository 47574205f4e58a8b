-- An outer variable makes no difference to a whole `with` or `for` that binds its name, where the expression does not read it.
use Rattle.std.proofs.Common.{◌≡◌, ◌⊎◌, inl, inr, ℕ, ◌+◌, List, [], ◌∷◌, ◌++◌, length, map, refl, sym, ap, ◌∙◌, subst, codes, bytes_eq, append_assoc, Bool, true, false}
use Rattle.std.proofs.lemmas.Slice.Eq.{bytes_eq-Decides}
use Rattle.std.proofs.lemmas.Bool.{false_from_ne_true}
use Rattle.upon_types.specs.declared.types.Span.{Span}
use Rattle.upon_types.specs.declared.types.ast.path.AccessOp.{AccessOp}
use Rattle.upon_types.specs.Expression.{Expression, expression_span}
use Rattle.upon_types.specs.Path.{Ident, Access, by_index, by_key, Member, LoopVars, item, key_value}
use Rattle.upon_types.specs.Tree.{Statements, Else, for_loop, with}
use Rattle.upon_types.specs.Val.{Val, none_val, bool_val, int_val, text_val, list_val, map_val}
use Rattle.upon_lookup.specs.Environment.{Bound, Binding, binding, plain, Environment, bind, bind_all}
use Rattle.upon_lookup.specs.Finding.{Finding, found, at_fault}
use Rattle.upon_lookup.specs.Items.{items_of, item_binds, entry_binds}
use Rattle.upon_lookup.specs.Lookup.{maybe_bound, or_root, lookup}
use Rattle.upon_lookup.specs.Source.{Source}
use Rattle.upon_lookup.specs.Vals.{val_list}
use Rattle.upon_types.specs.Val.{entry_list}
use Rattle.upon_meaning_spec.specs.Alone.{included}
use Rattle.upon_meaning_spec.specs.Engine.{Calls, Resolver}
use Rattle.upon_meaning_spec.specs.Evaluation.{evaluate}
use Rattle.upon_meaning_spec.specs.Meaning.{RunningTemplate, with_value, loop_turns, turns_over, each, each_or, statement_means, statements_mean, else_means}
use Rattle.upon_meaning_spec.specs.Names.{ExpressionReads}
use Rattle.upon_meaning_spec.specs.Outcome.{Outcome, States, then_do}
use Rattle.upon_meaning_spec.specs.Shadowing.{Binds, LoopBinds}
use Rattle.upon_meaning_spec.proofs.SameIncludes.{alike_body}
use Rattle.upon_meaning_spec.proofs.SameLookups.{Known, FoundAlike, hides, binds_more, other_name}
use Rattle.upon_meaning_spec.proofs.SameMeaning.{same_value}

-- names that are not the binding's are found as if it were not there
module _ {V : Type 0} (ask : Source V) (b : Binding) (bs : List Binding) (env : Environment) where
  abbrev Others : List ℕ → Type 0
  Others n = b.name ≡ n → ⊥

  others_by : (selector : Access) (op : AccessOp) (span : Span) (rest : List Member) (q : V) → Known Others selector →
      lookup ask (bind_all bs (bind b env)) (record { op = op; access = selector; span = span }) rest q ≡ lookup ask (bind_all bs env) (record { op = op; access = selector; span = span }) rest q
  others_by (by_index n at) op span rest q known = refl
  others_by (by_key word) op span rest q known =
      let other = false_from_ne_true (bytes_eq word.text b.name) (λ e. known (sym ((bytes_eq-Decides word.text b.name).0 e))) in
      ap (λ x. or_root (maybe_bound x rest) ask env.root (record { op = op; access = by_key word; span = span }) rest q) (other_name b env.bindings word.text bs other)

  others_alike : FoundAlike ask Others (bind_all bs (bind b env)) (bind_all bs env)
  others_alike first rest q known = others_by first.access first.op first.span rest q known

-- each turn binds the name
abbrev EachBinds : List ℕ → List (List Binding) → Type 0
EachBinds name [] = Unit {0}
EachBinds name (bs ∷ turns) = Binds name bs × EachBinds name turns

abbrev FoundBinds : List ℕ → Finding (List (List Binding)) → Type 0
FoundBinds name (found turns) = EachBinds name turns
FoundBinds name (at_fault f) = Unit {0}

all_bind : {A : Type 0} (name : List ℕ) (f : A → List Binding) (xs : List A) → ((a : A) → (codes "loop" ≡ name) ⊎ Binds name (f a)) → (count index : ℕ) → EachBinds name (loop_turns count index (map f xs))
all_bind name f [] h count index = tt
all_bind name f (a ∷ xs) h count index = (h a, all_bind name f xs h count (index + 1))

by_item : (name : List ℕ) (word : Ident) (v : Val) → LoopBinds name (item word) → (codes "loop" ≡ name) ⊎ Binds name (item_binds word v)
by_item name word v (inl state) = inl state
by_item name word v (inr same) = inr (inl same)

by_entry : (name : List ℕ) (key value : Ident) (both : Span) (entry : List ℕ × Val) → LoopBinds name (key_value key value both) → (codes "loop" ≡ name) ⊎ Binds name (entry_binds key value entry)
by_entry name key value both entry (inl state) = inl state
by_entry name key value both entry (inr (inl same)) = inr (inl same)
by_entry name key value both entry (inr (inr same)) = inr (inr (inl same))

turns_bind : (name : List ℕ) (names : LoopVars) (v : Val) (at : Span) → LoopBinds name names → FoundBinds name (turns_over (items_of names v at))
turns_bind name (item word) (list_val vs) at h = all_bind name (item_binds word) (val_list vs) (λ v. by_item name word v h) _ 0
turns_bind name (item word) (map_val es) at h = tt
turns_bind name (item word) none_val at h = tt
turns_bind name (item word) (bool_val b) at h = tt
turns_bind name (item word) (int_val z) at h = tt
turns_bind name (item word) (text_val s) at h = tt
turns_bind name (key_value key value both) (map_val es) at h = all_bind name (entry_binds key value) (entry_list es) (λ entry. by_entry name key value both entry h) _ 0
turns_bind name (key_value key value both) (list_val vs) at h = tt
turns_bind name (key_value key value both) none_val at h = tt
turns_bind name (key_value key value both) (bool_val b) at h = tt
turns_bind name (key_value key value both) (int_val z) at h = tt
turns_bind name (key_value key value both) (text_val s) at h = tt

module _ {V T : Type 0} (calls : Calls V) (resolve : Resolver T) (left : ℕ) (running : RunningTemplate) (between : List Binding) (name : List ℕ) (outer : Bound) (env : Environment) where
  abbrev there : Environment
  there = bind_all between (bind (binding name outer) env)

  abbrev gone : Environment
  gone = bind_all between env

  abbrev means : Statements → Environment → States V T → Outcome (States V T)
  means body e s = statements_mean calls (included calls resolve left) running body e s

  same_expression : (e : Expression) → (ExpressionReads name e → ⊥) → (q : V) → evaluate calls e there q ≡ evaluate calls e gone q
  same_expression e unread q = same_value calls (λ n. name ≡ n → ⊥) there gone (others_alike calls.ask (binding name outer) between env) e (λ n reads same. unread (subst (λ m. ExpressionReads m e) (sym same) reads)) q

  -- in a turn that binds the name
  turn_hides : (body : Statements) (bs : List Binding) (s : States V T) → Binds name bs → means body (bind_all bs there) s ≡ means body (bind_all bs gone) s
  turn_hides body bs s binds =
      let b = binding name outer in
      let all : Binds name (bs ++ between) = binds_more name bs between binds in
      let with_it : bind_all bs there ≡ bind_all (bs ++ between) (bind b env) = λ i. record env { bindings = sym (append_assoc bs between (b ∷ env.bindings)) i } in
      let without_it : bind_all (bs ++ between) env ≡ bind_all bs gone = λ i. record env { bindings = append_assoc bs between env.bindings i } in
      ap (λ e. means body e s) with_it
      ∙ alike_body calls resolve left running body (bind_all (bs ++ between) (bind b env)) (bind_all (bs ++ between) env) (hides calls.ask b (bs ++ between) env all) s
      ∙ ap (λ e. means body e s) without_it

  each_hides : (body : Statements) (turns : List (List Binding)) (s : States V T) → EachBinds name turns → each (means body) turns there s ≡ each (means body) turns gone s
  each_hides body [] s all = refl
  each_hides body (bs ∷ turns) s all = λ i. then_do (turn_hides body bs s all.0 i) (λ s'. each_hides body turns s' all.1 i)

  found_hides : (body : Statements) (other : Else) (x : Finding (List (List Binding))) (s : States V T) → FoundBinds name x → each_or (means body) (else_means calls (included calls resolve left) running other true) running x there s ≡ each_or (means body) (λ e. else_means calls (included calls resolve left) running other true there) running x gone s
  found_hides body other (found []) s all = refl
  found_hides body other (found (bs ∷ turns)) s all = each_hides body (bs ∷ turns) s all
  found_hides body other (at_fault f) s all = refl

  pub for_hides : (names : LoopVars) (e : Expression) (body : Statements) (other : Else) (s : States V T) → LoopBinds name names → (ExpressionReads name e → ⊥) →
      statement_means calls (included calls resolve left) running (for_loop names e body other) there s
      ≡ with_value running s.templates (evaluate calls e gone s.values) (λ v q. each_or (means body) (λ e. else_means calls (included calls resolve left) running other true there) running (turns_over (items_of names v (expression_span e))) gone q)
  for_hides names e body other s binds unread =
      λ i. with_value running s.templates (same_expression e unread s.values i)
      (λ v s'. found_hides body other (turns_over (items_of names v (expression_span e))) s' (turns_bind name names v (expression_span e) binds) i)

  pub with_hides : (e : Expression) (word : Ident) (body : Statements) (s : States V T) → word.text ≡ name → (ExpressionReads name e → ⊥) →
      statement_means calls (included calls resolve left) running (with e word body) there s ≡ statement_means calls (included calls resolve left) running (with e word body) gone s
  with_hides e word body s same unread =
      λ i. with_value running s.templates (same_expression e unread s.values i)
      (λ v s'. each_hides body ((binding word.text (plain v) ∷ []) ∷ []) s' (inl same, tt) i)
