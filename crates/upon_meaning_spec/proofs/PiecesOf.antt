-- Each piece is a raw part of a template that is reached, or written by a formatter that can be called.
use Rattle.std.proofs.Common.{◌≡◌, ℕ, zero, suc, List, [], ◌∷◌, ◌++◌, Option, Some, None, Bool, true, false, inl, inr, refl, sym, subst}
use Rattle.upon_types.specs.declared.types.Span.{Span}
use Rattle.upon_types.specs.Answers.{Formatter, Callable, formatter, function}
use Rattle.upon_types.specs.Expression.{Expression, base, filtered, Base, var, literal, list, mapping, paren, call, expression_span}
use Rattle.upon_types.specs.Path.{Ident}
use Rattle.upon_types.specs.BlockKinds.{opened_kind, may_have_else}
use Rattle.upon_types.specs.Tree.{Statement, raw, inline_expr, include, block, Statements, no_statements, statement_then, Else, no_else, otherwise}
use Rattle.upon_types.specs.Val.{Val}
use Rattle.upon_lookup.specs.Environment.{Binding, Environment, Root, root_environment, alone_over, bind_all}
use Rattle.upon_lookup.specs.Finding.{Finding, found, at_fault}
use Rattle.upon_lookup.specs.Source.{SourceAnswer, says, refuses}
use Rattle.upon_meaning_spec.specs.Alone.{running, included, alone_within, includes_left}
use Rattle.upon_meaning_spec.specs.Engine.{Template, Calls, Resolver, Rendering}
use Rattle.upon_meaning_spec.specs.Evaluation.{Operand, values_of, answer_value, append_operand, evaluate, evaluate_base, evaluate_arguments}
use Rattle.upon_meaning_spec.specs.Includes.{StatementIncludes, Includes, ElseIncludes}
use Rattle.upon_meaning_spec.specs.Meaning.{RunningTemplate, Inclusion, Body, turns, statement_means, statements_mean}
use Rattle.upon_meaning_spec.specs.Outcome.{End, good, fails, too_deep, Outcome, States, states}
use Rattle.upon_meaning_spec.specs.Parts.{StatementHasRaw, HasRaw, ElseHasRaw, WritesBy, BaseWritesBy, StatementNames, NamesFormatter, ElseNames, Reached, itself, included_by, by_default, by_name, IsPieceOf, Each, WroteSuch, WritesOnly, WovenOf}
use Rattle.upon_meaning_spec.specs.Pieces.{TextPiece, raw_part, written, if_found, formatter_pieces, callable_pieces, call_pieces, value_pieces, emit_pieces, emit_base_pieces, pieces_on, then_pieces, BodyPieces, each_pieces, each_or_pieces, InclusionPieces, statement_pieces, statements_pieces, else_pieces, template_pieces, included_pieces, pieces_within, pieces_of}
use Rattle.upon_meaning_spec.proofs.PiecesJoined.{within_joined}

module _ (P : TextPiece → Type 0) where
  each_append : (ps qs : List TextPiece) → Each P ps → Each P qs → Each P (ps ++ qs)
  each_append [] qs h k = k
  each_append (p ∷ ps) qs h k = (h.0, each_append ps qs h.1 k)

  module _ {V : Type 0} (calls : Calls V) (default : (v : Val) → P (written calls.default_formatter v)) where
    -- the formatters of a name write so
    abbrev pub NamedWrites : List ℕ → Type 0
    NamedWrites name = (f : Formatter) → calls.callables name ≡ Some (formatter f) → (v : Val) → P (written f v)

    found_each : {A : Type 0} (x : Finding A) (go : A → List TextPiece) → ((a : A) → Each P (go a)) → Each P (if_found x go)
    found_each (found a) go h = h a
    found_each (at_fault f) go h = tt

    formatted_each : (f : Formatter) (given : List Operand) → ((v : Val) → P (written f v)) → Each P (formatter_pieces f given)
    formatted_each f [] h = tt
    formatted_each f (o ∷ []) h = (h o.value, tt)
    formatted_each f (o ∷ p ∷ given) h = tt

    called_each : (name : Ident) (given : List Operand) (callable : Option Callable) → calls.callables name.text ≡ callable → NamedWrites name.text → Each P (callable_pieces calls.default_formatter name given callable)
    called_each name given None is h = tt
    called_each name given (Some (formatter f)) is h = formatted_each f given (h f is)
    called_each name given (Some (function f)) is h = found_each (answer_value name name.span given (f (values_of given))) _ (λ v. (default v, tt))

    applied_each : (name : Ident) (x : Finding (List Operand)) → NamedWrites name.text → Each P (call_pieces calls name x)
    applied_each name x h = found_each x _ (λ given. called_each name given (calls.callables name.text) refl h)

    value_each : (x : Finding Operand) → Each P (value_pieces calls x)
    value_each x = found_each x _ (λ o. (default o.value, tt))

    mutual
      emission_each : (e : Expression) (env : Environment) (q : V) → ((name : List ℕ) → WritesBy name e → NamedWrites name) → Each P (emit_pieces calls e env q)
      emission_each (base b) env q h = base_each b env q h
      emission_each (filtered receiver name args span) env q h = applied_each name (append_operand (evaluate calls receiver env q) (evaluate_arguments calls args env)).answer (h name.text refl)

      base_each : (b : Base) (env : Environment) (q : V) → ((name : List ℕ) → BaseWritesBy name b → NamedWrites name) → Each P (emit_base_pieces calls b env q)
      base_each (paren e span) env q h = emission_each e env q h
      base_each (call name args span) env q h = applied_each name (evaluate_arguments calls args env q).answer (h name.text refl)
      base_each (var first rest) env q h = value_each (evaluate_base calls (var first rest) env q).answer
      base_each (literal v span) env q h = value_each (evaluate_base calls (literal v span) env q).answer
      base_each (list bases span) env q h = value_each (evaluate_base calls (list bases span) env q).answer
      base_each (mapping items span) env q h = value_each (evaluate_base calls (mapping items span) env q).answer

    -- one outcome after another
    on_each : {Q : Type 0} (ps : List TextPiece) (end : End) (q : Q) (go : Q → List TextPiece) → Each P ps → ((q : Q) → Each P (go q)) → Each P (pieces_on ps end q go)
    on_each ps good q go h k = each_append ps (go q) h (k q)
    on_each ps (fails f) q go h k = h
    on_each ps too_deep q go h k = h

    then_each : {Q : Type 0} (ps : List TextPiece) (o : Outcome Q) (go : Q → List TextPiece) → Each P ps → ((q : Q) → Each P (go q)) → Each P (then_pieces ps o go)
    then_each ps o go h k = on_each ps o.end o.next go h k

    abbrev BodyEach : {Q : Type 0} → BodyPieces Q → Type 0
    BodyEach {Q} pieces = (env : Environment) (q : Q) → Each P (pieces env q)

    turns_each : {Q : Type 0} (body : Body Q) (pieces : BodyPieces Q) → BodyEach pieces → (turns : List (List Binding)) (env : Environment) (q : Q) → Each P (each_pieces body pieces turns env q)
    turns_each body pieces h [] env q = tt
    turns_each body pieces h (bs ∷ turns) env q = then_each (pieces (bind_all bs env) q) (body (bind_all bs env) q) _ (h (bind_all bs env) q) (turns_each body pieces h turns env)

    turns_or_each : {Q : Type 0} (body : Body Q) (pieces other : BodyPieces Q) → BodyEach pieces → BodyEach other → (x : Finding (List (List Binding))) (env : Environment) (s : Q) → Each P (each_or_pieces body pieces other x env s)
    turns_or_each body pieces other h k (found []) env s = k env s
    turns_or_each body pieces other h k (found (bs ∷ turns)) env s = turns_each body pieces h (bs ∷ turns) env s
    turns_or_each body pieces other h k (at_fault f) env s = tt

    -- where includes of these names give such pieces
    module _ {T : Type 0} (i : Inclusion V T) (j : InclusionPieces V T) (from : RunningTemplate) where
      in_expression : (e : Expression) (env : Environment) (s : States V T) (go : Val → States V T → List TextPiece) → ((v : Val) (s : States V T) → Each P (go v s)) → Each P (if_found (evaluate calls e env s.values).answer (λ o. go o.value (states (evaluate calls e env s.values).next s.templates)))
      in_expression e env s go k = found_each (evaluate calls e env s.values).answer _ (λ o. k o.value (states (evaluate calls e env s.values).next s.templates))

      abbrev IncludeEach : List ℕ → Type 0
      IncludeEach name = (word : Ident) → word.text ≡ name → (env : Environment) (s : States V T) → Each P (j from word env s)

      mutual
        statement_each : (t : Statement) → ((at : Span) → StatementHasRaw at t → P (raw_part from at)) → ((name : List ℕ) → StatementNames name t → NamedWrites name) → ((name : List ℕ) → StatementIncludes name t → IncludeEach name) → BodyEach (statement_pieces calls i j from t)
        statement_each (raw span) r w c env s = (r span refl, tt)
        statement_each (inline_expr e span) r w c env s = emission_each e env s.values w
        statement_each (include word None) r w c env s = c word.text refl word refl env s
        statement_each (include word (Some e)) r w c env s = in_expression e env s _ (λ v s'. c word.text refl word refl (alone_over v) s')
        statement_each (block opening e body other) r w c env s =
            in_expression e env s _
            (λ v s'. turns_or_each (statements_mean calls i from body) _ _
            (statements_each body (λ at h. r at (inl h)) (λ m h. w m (inl h)) (λ m h. c m (inl h)))
            (else_each other (may_have_else (opened_kind opening)) (λ at h. r at (inr h)) (λ m h. w m (inr h)) (λ m h. c m (inr h)))
            (turns opening (expression_span e) v) env s')

        pub statements_each : (ts : Statements) → ((at : Span) → HasRaw at ts → P (raw_part from at)) → ((name : List ℕ) → NamesFormatter name ts → NamedWrites name) → ((name : List ℕ) → Includes name ts → IncludeEach name) → BodyEach (statements_pieces calls i j from ts)
        statements_each no_statements r w c env s = tt
        statements_each (statement_then t ts) r w c env s =
            then_each (statement_pieces calls i j from t env s) (statement_means calls i from t env s) _
            (statement_each t (λ at h. r at (inl h)) (λ m h. w m (inl h)) (λ m h. c m (inl h)) env s)
            (statements_each ts (λ at h. r at (inr h)) (λ m h. w m (inr h)) (λ m h. c m (inr h)) env)

        else_each : (t : Else) (may : Bool) → ((at : Span) → ElseHasRaw at t may → P (raw_part from at)) → ((name : List ℕ) → ElseNames name t may → NamedWrites name) → ((name : List ℕ) → ElseIncludes name t may → IncludeEach name) → BodyEach (else_pieces calls i j from t may)
        else_each no_else may r w c env s = tt
        else_each (otherwise body) false r w c env s = tt
        else_each (otherwise body) true r w c env s = statements_each body r w c env s

module _ {V T : Type 0} (calls : Calls V) (resolve : Resolver T) (t : Template) where
  abbrev Theirs : List TextPiece → Type 0
  Theirs ps = Each (IsPieceOf calls resolve t) ps

  -- a template that is reached, where its includes give such pieces
  body_theirs : (u : Template) → Reached resolve t u → (name : Option (List ℕ)) (i : Inclusion V T) (j : InclusionPieces V T) → ((n : List ℕ) → Includes n u.tree → (word : Ident) → word.text ≡ n → (env : Environment) (s : States V T) → Theirs (j (running u name) word env s)) → (env : Environment) (s : States V T) → Theirs (statements_pieces calls i j (running u name) u.tree env s)
  body_theirs u reached name i j c env s =
      statements_each (IsPieceOf calls resolve t) calls (λ v. by_default) i j (running u name) u.tree
      (λ at h. record { template = u; reached = reached; runs = refl; raw_at = h })
      (λ n h f is v. by_name u n f reached h is)
      c env s

  template_theirs : {Q : Type 0} (x : SourceAnswer Template) (q : Q) (go : Template → Q → List TextPiece) → ((w : Template) → x ≡ says w → Theirs (go w q)) → Theirs (template_pieces x q go)
  template_theirs (says w) q go k = k w refl
  template_theirs (refuses text) q go k = tt

  included_theirs : (left : ℕ) (u : Template) → Reached resolve t u → (name : Option (List ℕ)) (n : List ℕ) → Includes n u.tree → (word : Ident) → word.text ≡ n → (env : Environment) (s : States V T) → Theirs (included_pieces calls resolve left (running u name) word env s)
  included_theirs zero u reached name n h word same env s = tt
  included_theirs (suc left) u reached name n h word same env s =
      let r = resolve s.templates word.text in
      template_theirs r.answer (states s.values r.next) _
      (λ w e.
      let inside = included_by u w word.text s.templates reached (subst (λ m. Includes m u.tree) (sym same) h) e in
      body_theirs w inside (Some word.text) (included calls resolve left) (included_pieces calls resolve left) (included_theirs left w inside (Some word.text)) env (states s.values r.next))

  within_theirs : (left : ℕ) (name : Option (List ℕ)) (root : Root) (s : States V T) → Theirs (pieces_within calls resolve left t name root s)
  within_theirs left name root s = body_theirs t itself name (included calls resolve left) (included_pieces calls resolve left) (included_theirs left t itself name) (root_environment root) s

  pub within_woven : (left : ℕ) (name : Option (List ℕ)) (root : Root) (s : States V T) → WovenOf calls resolve t (pieces_within calls resolve left t name root s) (alone_within calls resolve left t name root s).text
  within_woven left name root s = record { joins = within_joined calls resolve left t name root s; parts = within_theirs left name root s }

  -- where formatters write only such texts
  writes_one : (P : List ℕ → Type 0) → WritesOnly calls resolve t P → (p : TextPiece) → IsPieceOf calls resolve t p → WroteSuch P p
  writes_one P only (raw_part from span) h = tt
  writes_one P only (written f v) h = only f h v

  pub writes_each : (P : List ℕ → Type 0) → WritesOnly calls resolve t P → (ps : List TextPiece) → Each (IsPieceOf calls resolve t) ps → Each (WroteSuch P) ps
  writes_each P only [] h = tt
  writes_each P only (p ∷ ps) h = (writes_one P only p h.0, writes_each P only ps h.1)

pub only_written : {V T : Type 0} (P : List ℕ → Type 0) (rendering : Rendering V T) (t : Template) (name : Option (List ℕ)) (root : Root) (s : States V T) → WritesOnly rendering.calls rendering.resolve t P → Each (WroteSuch P) (pieces_of rendering t name root s)
only_written P rendering t name root s only =
    writes_each rendering.calls rendering.resolve t P only (pieces_of rendering t name root s)
    (within_woven rendering.calls rendering.resolve t (includes_left rendering.limit) name root s).parts
