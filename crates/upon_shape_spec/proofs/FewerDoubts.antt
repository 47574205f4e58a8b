-- What is in doubt where more includes are known not to fail is in doubt where fewer are.
use Rattle.std.proofs.Common.{◌≡◌, inl, inr, ℕ, List, [], ◌++◌, Bool, true, false, Option, Some, None, refl}
use Rattle.std.proofs.lemmas.Bool.{false≢true}
use Rattle.upon_types.specs.BlockKinds.{opened_kind, may_have_else}
use Rattle.upon_types.specs.Expression.{expression_span}
use Rattle.upon_types.specs.Tree.{Statement, raw, inline_expr, include, block, Statements, no_statements, statement_then, Else, no_else, otherwise}
use Rattle.upon_meaning_spec.specs.MapOrder.{IsAmong}
use Rattle.upon_shape_spec.specs.Accepted.{Branches, branches}
use Rattle.upon_shape_spec.specs.Declared.{Declared}
use Rattle.upon_shape_spec.specs.Doubts.{Doubt, doubt, has_items, is_included, unless, if_none, if_some, expression_doubts, shown_doubts, or_never, or_names, statement_doubts, statements_doubts, else_doubts}
use Rattle.upon_shape_spec.specs.Doubted.{none_included}
use Rattle.upon_shape_spec.specs.ExpressionShapes.{expression_shape}
use Rattle.upon_shape_spec.specs.Scope.{Scope, scope_over}
use Rattle.upon_shape_spec.specs.Shape.{Shape, never}
use Rattle.upon_shape_spec.proofs.Among.{among_first, among_second, among_either}

-- each of the first is one of the others
abbrev pub AllAmong : List Doubt → List Doubt → Type 0
AllAmong ds es = (d : Doubt) → IsAmong d ds → IsAmong d es

themselves : (ds : List Doubt) → AllAmong ds ds
themselves ds d h = h

both_among : (ds es fs gs : List Doubt) → AllAmong ds es → AllAmong fs gs → AllAmong (ds ++ fs) (es ++ gs)
both_among ds es fs gs f g d h =
    elim (among_either d ds fs h) [ inl k ↦ among_first d es gs (f d k) | inr k ↦ among_second d es gs (g d k) ]

unless_among : (b c : Bool) (ds : List Doubt) → (c ≡ true → b ≡ true) → AllAmong (unless b ds) (unless c ds)
unless_among true c ds so d h = absurd h
unless_among false true ds so d h = absurd (false≢true (so refl))
unless_among false false ds so d h = h

some_among : {A : Type 0} (o : Option A) (go on : A → List Doubt) → ((a : A) → AllAmong (go a) (on a)) → AllAmong (if_some o go) (if_some o on)
some_among None go on f d h = h
some_among (Some a) go on f d h = f a d h

module _ (declared : Declared) (included fewer : List ℕ → Scope → Bool) (less : (name : List ℕ) (scope : Scope) → fewer name scope ≡ true → included name scope ≡ true) where
  mutual
    statement_among : (scope : Scope) (t : Statement) → AllAmong (statement_doubts declared included scope t) (statement_doubts declared fewer scope t)
    statement_among scope (raw span) = themselves []
    statement_among scope (inline_expr e span) = themselves (shown_doubts declared scope e)
    statement_among scope (include word None) = unless_among (included word.text scope) (fewer word.text scope) (doubt word.span (is_included word.text scope)) (less word.text scope)
    statement_among scope (include word (Some e)) =
        both_among (expression_doubts declared scope e) (expression_doubts declared scope e) _ _ (themselves (expression_doubts declared scope e))
        (some_among (expression_shape declared scope e)
        (λ s. unless (included word.text (scope_over s)) (doubt word.span (is_included word.text (scope_over s))))
        (λ s. unless (fewer word.text (scope_over s)) (doubt word.span (is_included word.text (scope_over s))))
        (λ s. unless_among (included word.text (scope_over s)) (fewer word.text (scope_over s)) (doubt word.span (is_included word.text (scope_over s))) (less word.text (scope_over s))))
    statement_among scope (block opening e body other) =
        let s : Shape = or_never (expression_shape declared scope e) in
        let b : Branches = branches opening e scope in
        let may : Bool = may_have_else (opened_kind opening) in
        let inner : Scope = b.body (or_names (b.names s) (b.names never)) in
        let items : List Doubt = if_none (b.names s) (doubt (expression_span e) (has_items s)) in
        both_among (expression_doubts declared scope e) (expression_doubts declared scope e) _ _ (themselves (expression_doubts declared scope e))
        (both_among items items _ _ (themselves items)
        (both_among (statements_doubts declared included inner body) (statements_doubts declared fewer inner body)
        (else_doubts declared included b.other may other) (else_doubts declared fewer b.other may other)
        (statements_among inner body) (else_among b.other may other)))

    pub statements_among : (scope : Scope) (ts : Statements) → AllAmong (statements_doubts declared included scope ts) (statements_doubts declared fewer scope ts)
    statements_among scope no_statements = themselves []
    statements_among scope (statement_then t ts) =
        both_among (statement_doubts declared included scope t) (statement_doubts declared fewer scope t)
        (statements_doubts declared included scope ts) (statements_doubts declared fewer scope ts)
        (statement_among scope t) (statements_among scope ts)

    else_among : (scope : Scope) (may : Bool) (t : Else) → AllAmong (else_doubts declared included scope may t) (else_doubts declared fewer scope may t)
    else_among scope false t = themselves []
    else_among scope true no_else = themselves []
    else_among scope true (otherwise body) = statements_among scope body

-- of any includes that are known, against none
pub none_known : (declared : Declared) (included : List ℕ → Scope → Bool) (scope : Scope) (ts : Statements) → AllAmong (statements_doubts declared included scope ts) (statements_doubts declared none_included scope ts)
none_known declared included scope ts = statements_among declared included none_included (λ name inner h. absurd (false≢true h)) scope ts
