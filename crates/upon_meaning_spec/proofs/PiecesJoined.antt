-- What statements mean is the texts of their pieces, joined.
use Rattle.std.proofs.Common.{◌≡◌, ℕ, zero, suc, List, [], ◌∷◌, ◌++◌, Option, Some, None, Bool, true, false, refl, sym, ap, ◌∙◌, append_assoc, append-nil}
use Rattle.upon_types.specs.declared.types.Span.{Span}
use Rattle.upon_types.specs.Answers.{Formatter, Callable, formatter, function}
use Rattle.upon_types.specs.Expression.{Expression, base, filtered, Base, var, literal, list, mapping, paren, call, expression_span}
use Rattle.upon_types.specs.Path.{Ident}
use Rattle.upon_types.specs.Span.{slice}
use Rattle.upon_types.specs.BlockKinds.{opened_kind, may_have_else}
use Rattle.upon_types.specs.Tree.{Statement, raw, inline_expr, include, block, Statements, no_statements, statement_then, Else, no_else, otherwise}
use Rattle.upon_types.specs.Val.{Val}
use Rattle.upon_lookup.specs.Environment.{Binding, Environment, Root, root_environment, alone_over, bind_all}
use Rattle.upon_lookup.specs.Finding.{Finding, found, at_fault, Reply}
use Rattle.upon_lookup.specs.Source.{SourceAnswer, says, refuses}
use Rattle.upon_meaning_spec.specs.Alone.{running, on_template, included, alone_within, includes_left, alone}
use Rattle.upon_meaning_spec.specs.Emission.{Emission, or_fault, formatter_outcome, callable_outcome, emit_call, emit_value, emit, emit_base}
use Rattle.upon_meaning_spec.specs.Engine.{Template, Calls, Resolver, Rendering}
use Rattle.upon_meaning_spec.specs.Evaluation.{Operand, values_of, answer_value, append_operand, evaluate, evaluate_base, evaluate_arguments}
use Rattle.upon_meaning_spec.specs.Meaning.{RunningTemplate, Inclusion, Body, turns, each, each_or, on_value, statement_means, statements_mean, else_means}
use Rattle.upon_meaning_spec.specs.Outcome.{End, good, fails, too_deep, Outcome, States, states, go_on, then_do}
use Rattle.upon_meaning_spec.specs.Pieces.{TextPiece, written, piece_text, joined, if_found, formatter_pieces, callable_pieces, call_pieces, value_pieces, emit_pieces, emit_base_pieces, pieces_on, then_pieces, BodyPieces, each_pieces, each_or_pieces, InclusionPieces, statement_pieces, statements_pieces, else_pieces, template_pieces, included_pieces, pieces_within, pieces_of}

joined_append : (ps qs : List TextPiece) → joined (ps ++ qs) ≡ joined ps ++ joined qs
joined_append [] qs = refl
joined_append (p ∷ ps) qs = ap (λ x. piece_text p ++ x) (joined_append ps qs) ∙ sym (append_assoc (piece_text p) (joined ps) (joined qs))

found_joined : {A : Type 0} (x : Finding A) (go : A → Emission) (pieces : A → List TextPiece) → ((a : A) → (go a).text ≡ joined (pieces a)) → (or_fault x go).text ≡ joined (if_found x pieces)
found_joined (found a) go pieces h = h a
found_joined (at_fault f) go pieces h = refl

formatted_joined : (f : Formatter) (name : Ident) (given : List Operand) → (formatter_outcome f name given).text ≡ joined (formatter_pieces f given)
formatted_joined f name [] = refl
formatted_joined f name (o ∷ []) = sym (append-nil (f o.value).text)
formatted_joined f name (o ∷ p ∷ given) = refl

-- one outcome after another
on_joined : {Q : Type 0} (text : List ℕ) (ps : List TextPiece) (end : End) (q : Q) (go : Q → Outcome Q) (pieces : Q → List TextPiece) → text ≡ joined ps → ((q : Q) → (go q).text ≡ joined (pieces q)) → (go_on text end q go).text ≡ joined (pieces_on ps end q pieces)
on_joined text ps good q go pieces h k = (λ i. h i ++ k q i) ∙ sym (joined_append ps (pieces q))
on_joined text ps (fails f) q go pieces h k = h
on_joined text ps too_deep q go pieces h k = h

then_joined : {Q : Type 0} (o : Outcome Q) (ps : List TextPiece) (go : Q → Outcome Q) (pieces : Q → List TextPiece) → o.text ≡ joined ps → ((q : Q) → (go q).text ≡ joined (pieces q)) → (then_do o go).text ≡ joined (then_pieces ps o pieces)
then_joined o ps go pieces h k = on_joined o.text ps o.end o.next go pieces h k

abbrev BodyJoined : {Q : Type 0} → Body Q → BodyPieces Q → Type 0
BodyJoined {Q} body pieces = (env : Environment) (q : Q) → (body env q).text ≡ joined (pieces env q)

each_joined : {Q : Type 0} (body : Body Q) (pieces : BodyPieces Q) → BodyJoined body pieces → (turns : List (List Binding)) (env : Environment) (q : Q) → (each body turns env q).text ≡ joined (each_pieces body pieces turns env q)
each_joined body pieces h [] env q = refl
each_joined body pieces h (bs ∷ turns) env q =
    then_joined (body (bind_all bs env) q) (pieces (bind_all bs env) q) _ (λ q'. each_pieces body pieces turns env q')
    (h (bind_all bs env) q) (each_joined body pieces h turns env)

module _ {V : Type 0} (calls : Calls V) where
  called_joined : (name : Ident) (whole : Span) (given : List Operand) (callable : Option Callable) → (callable_outcome calls.default_formatter name whole given callable).text ≡ joined (callable_pieces calls.default_formatter name given callable)
  called_joined name whole given None = refl
  called_joined name whole given (Some (formatter f)) = formatted_joined f name given
  called_joined name whole given (Some (function f)) = found_joined (answer_value name name.span given (f (values_of given))) _ (λ v. written calls.default_formatter v ∷ []) (λ v. sym (append-nil (calls.default_formatter v).text))

  applied_joined : (name : Ident) (whole : Span) (r : Reply V (Finding (List Operand))) → (emit_call calls name whole r).text ≡ joined (call_pieces calls name r.answer)
  applied_joined name whole r = found_joined r.answer _ (λ given. callable_pieces calls.default_formatter name given (calls.callables name.text)) (λ given. called_joined name whole given (calls.callables name.text))

  value_joined : (r : Reply V (Finding Operand)) → (emit_value calls r).text ≡ joined (value_pieces calls r.answer)
  value_joined r = found_joined r.answer _ (λ o. written calls.default_formatter o.value ∷ []) (λ o. sym (append-nil (calls.default_formatter o.value).text))

  mutual
    emission_joined : (e : Expression) (env : Environment) (q : V) → (emit calls e env q).text ≡ joined (emit_pieces calls e env q)
    emission_joined (base b) env q = base_joined b env q
    emission_joined (filtered receiver name args span) env q = applied_joined name span (append_operand (evaluate calls receiver env q) (evaluate_arguments calls args env))

    base_joined : (b : Base) (env : Environment) (q : V) → (emit_base calls b env q).text ≡ joined (emit_base_pieces calls b env q)
    base_joined (paren e span) env q = emission_joined e env q
    base_joined (call name args span) env q = applied_joined name span (evaluate_arguments calls args env q)
    base_joined (var first rest) env q = value_joined (evaluate_base calls (var first rest) env q)
    base_joined (literal v span) env q = value_joined (evaluate_base calls (literal v span) env q)
    base_joined (list bases span) env q = value_joined (evaluate_base calls (list bases span) env q)
    base_joined (mapping items span) env q = value_joined (evaluate_base calls (mapping items span) env q)

  module _ {T : Type 0} (i : Inclusion V T) (j : InclusionPieces V T) (from : RunningTemplate) where
    then_value : (x : Finding Operand) (s : States V T) (go : Val → States V T → Outcome (States V T)) (pieces : Val → States V T → List TextPiece) → ((v : Val) (s : States V T) → (go v s).text ≡ joined (pieces v s)) → (on_value from x s go).text ≡ joined (if_found x (λ o. pieces o.value s))
    then_value (found o) s go pieces k = k o.value s
    then_value (at_fault f) s go pieces k = refl

    each_or_joined : (body other : Body (States V T)) (ps qs : BodyPieces (States V T)) → BodyJoined body ps → BodyJoined other qs → (x : Finding (List (List Binding))) (env : Environment) (s : States V T) → (each_or body other from x env s).text ≡ joined (each_or_pieces body ps qs x env s)
    each_or_joined body other ps qs h k (found []) env s = k env s
    each_or_joined body other ps qs h k (found (bs ∷ turns)) env s = each_joined body ps h (bs ∷ turns) env s
    each_or_joined body other ps qs h k (at_fault f) env s = refl

    in_expression : (e : Expression) (env : Environment) (s : States V T) (go : Val → States V T → Outcome (States V T)) (pieces : Val → States V T → List TextPiece) → ((v : Val) (s : States V T) → (go v s).text ≡ joined (pieces v s)) → (on_value from (evaluate calls e env s.values).answer (states (evaluate calls e env s.values).next s.templates) go).text ≡ joined (if_found (evaluate calls e env s.values).answer (λ o. pieces o.value (states (evaluate calls e env s.values).next s.templates)))
    in_expression e env s go pieces k = then_value (evaluate calls e env s.values).answer _ go pieces k

    -- where it is so of includes
    module _ (c : (word : Ident) (env : Environment) (s : States V T) → (i from word env s).text ≡ joined (j from word env s)) where
      mutual
        statement_joined : (t : Statement) → BodyJoined (statement_means calls i from t) (statement_pieces calls i j from t)
        statement_joined (raw span) env s = sym (append-nil (slice from.source span))
        statement_joined (inline_expr e span) env s = emission_joined e env s.values
        statement_joined (include word None) env s = c word env s
        statement_joined (include word (Some e)) env s = in_expression e env s _ (λ v s'. j from word (alone_over v) s') (λ v s'. c word (alone_over v) s')
        statement_joined (block opening e body other) env s =
            in_expression e env s _ (λ v s'. each_or_pieces (statements_mean calls i from body) (statements_pieces calls i j from body) (else_pieces calls i j from other (may_have_else (opened_kind opening))) (turns opening (expression_span e) v) env s')
            (λ v s'. each_or_joined (statements_mean calls i from body) (else_means calls i from other (may_have_else (opened_kind opening))) (statements_pieces calls i j from body) (else_pieces calls i j from other (may_have_else (opened_kind opening)))
            (statements_joined body) (else_joined other (may_have_else (opened_kind opening))) (turns opening (expression_span e) v) env s')

        pub statements_joined : (ts : Statements) → BodyJoined (statements_mean calls i from ts) (statements_pieces calls i j from ts)
        statements_joined no_statements env s = refl
        statements_joined (statement_then t ts) env s =
            then_joined (statement_means calls i from t env s) (statement_pieces calls i j from t env s) _ (λ s'. statements_pieces calls i j from ts env s')
            (statement_joined t env s) (statements_joined ts env)

        else_joined : (t : Else) (may : Bool) → BodyJoined (else_means calls i from t may) (else_pieces calls i j from t may)
        else_joined no_else may env s = refl
        else_joined (otherwise body) false env s = refl
        else_joined (otherwise body) true env s = statements_joined body env s

module _ {V T : Type 0} (calls : Calls V) (resolve : Resolver T) where
  template_joined : {Q : Type 0} (from : RunningTemplate) (word : Ident) (x : SourceAnswer Template) (q : Q) (go : Template → Q → Outcome Q) (pieces : Template → Q → List TextPiece) → ((w : Template) → (go w q).text ≡ joined (pieces w q)) → (on_template from word x q go).text ≡ joined (template_pieces x q pieces)
  template_joined from word (says w) q go pieces k = k w
  template_joined from word (refuses text) q go pieces k = refl

  too_deep_joined : {Q : Type 0} (from : RunningTemplate) (word : Ident) (x : SourceAnswer Template) (q : Q) (go : Template → Q → Outcome Q) → ((w : Template) → (go w q).text ≡ []) → (on_template from word x q go).text ≡ []
  too_deep_joined from word (says w) q go k = k w
  too_deep_joined from word (refuses text) q go k = refl

  included_joined : (left : ℕ) (from : RunningTemplate) (word : Ident) (env : Environment) (s : States V T) → (included calls resolve left from word env s).text ≡ joined (included_pieces calls resolve left from word env s)
  included_joined zero from word env s =
      let r = resolve s.templates word.text in
      too_deep_joined from word r.answer (states s.values r.next) _ (λ w. refl)
  included_joined (suc left) from word env s =
      let r = resolve s.templates word.text in
      template_joined from word r.answer (states s.values r.next) _
      (λ w s'. statements_pieces calls (included calls resolve left) (included_pieces calls resolve left) (running w (Some word.text)) w.tree env s')
      (λ w. statements_joined calls (included calls resolve left) (included_pieces calls resolve left) (running w (Some word.text)) (included_joined left (running w (Some word.text))) w.tree env (states s.values r.next))

  pub within_joined : (left : ℕ) (t : Template) (name : Option (List ℕ)) (root : Root) (s : States V T) → (alone_within calls resolve left t name root s).text ≡ joined (pieces_within calls resolve left t name root s)
  within_joined left t name root s = statements_joined calls (included calls resolve left) (included_pieces calls resolve left) (running t name) (included_joined left (running t name)) t.tree (root_environment root) s

pub alone_joined : {V T : Type 0} (rendering : Rendering V T) (t : Template) (name : Option (List ℕ)) (root : Root) (s : States V T) → (alone rendering t name root s).text ≡ joined (pieces_of rendering t name root s)
alone_joined rendering t name root s = within_joined rendering.calls rendering.resolve (includes_left rendering.limit) t name root s
