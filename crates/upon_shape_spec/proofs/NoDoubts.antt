-- What is accepted is in no doubt, and what is in no doubt is accepted.
use Rattle.std.proofs.Common.{◌≡◌, ℕ, List, [], ◌∷◌, ◌++◌, Bool, true, false, ◌↔◌, Option, Some, None, option_map, option_and_then, refl}
use Rattle.upon_types.specs.declared.types.Span.{Span}
use Rattle.upon_types.specs.Expression.{Expression, base, filtered, Base, var, literal, list, mapping, paren, call, Bases, no_bases, base_then, Items, no_items, item_then, Arguments, no_arguments, arguments, expression_span}
use Rattle.upon_types.specs.Path.{Member}
use Rattle.upon_types.specs.BlockKinds.{opened_kind, may_have_else}
use Rattle.upon_types.specs.Tree.{Statement, raw, inline_expr, include, block, Statements, no_statements, statement_then, Else, no_else, otherwise}
use Rattle.upon_shape_spec.specs.Accepted.{OnSome, Branches, branches, StatementAccepted, StatementsAccepted, ElseAccepted}
use Rattle.upon_shape_spec.specs.Declared.{DeclaredCallable, gives_by, formats, Declared}
use Rattle.upon_shape_spec.specs.Doubts.{Unsure, Doubt, doubt, has_items, unless, if_none, if_some, after_found, walk_doubts, bound_doubts, bound_or_root_doubts, given_doubts, expression_doubts, base_doubts, bases_doubts, items_doubts, arguments_doubts, shown_value_doubts, shown_call_doubts, text_doubts, shown_doubts, base_shown_doubts, or_never, or_names, statement_doubts, statements_doubts, else_doubts}
use Rattle.upon_shape_spec.specs.ExpressionShapes.{join_all, value_given, call_shape, is_taken, is_formatted, shows_given, shows_call, shape_then, expression_shape, base_shape, arguments_shapes, bases_shapes, items_keys, is_shown, base_is_shown}
use Rattle.upon_shape_spec.specs.Paths.{MemberShape, may_fail, finds, may_miss, member_shape, after_member_shape, walk_shape}
use Rattle.upon_shape_spec.specs.Scope.{BoundShape, value_of, loop_key, a_loop, NameShape, Scope, scope_over, bound_shape_of, state_shape, bound_walk_shape, bound_or_root_shape}
use Rattle.upon_shape_spec.specs.Shape.{Shape, never, Keys, key_then, optional, list_of, map_of, no_others, keys_without}
use Rattle.upon_shape_spec.specs.Wider.{wider}

-- there is no doubt
abbrev Sure : List Doubt → Type 0
Sure [] = Unit {0}
Sure (d ∷ ds) = ⊥

abbrev Has : {A : Type 0} → Option A → Type 0
Has None = ⊥
Has (Some a) = Unit {0}

same : {A : Type 0} → A ↔ A
same = (λ x. x, λ x. x)

always : {A B : Type 0} → A → B → A ↔ B
always a b = (λ x. b, λ x. a)

-- ---- doubts joined
sure_both : (ds es : List Doubt) → Sure ds → Sure es → Sure (ds ++ es)
sure_both [] es h k = k
sure_both (d ∷ ds) es h k = absurd h

sure_first : (ds es : List Doubt) → Sure (ds ++ es) → Sure ds
sure_first [] es h = tt
sure_first (d ∷ ds) es h = absurd h

sure_second : (ds es : List Doubt) → Sure (ds ++ es) → Sure es
sure_second [] es h = h
sure_second (d ∷ ds) es h = absurd h

both_same : {A B : Type 0} (ds es : List Doubt) → (Sure ds ↔ A) → (Sure es ↔ B) → (Sure (ds ++ es) ↔ (A × B))
both_same ds es f g = (λ h. (f.0 (sure_first ds es h), g.0 (sure_second ds es h)), λ h. sure_both ds es (f.1 h.0) (g.1 h.1))

-- on with what is there
some_same : {A : Type 0} (ds : List Doubt) (o : Option A) (go : A → List Doubt) (P : A → Type 0) → (Sure ds ↔ Has o) → ((a : A) → Sure (go a) ↔ P a) → (Sure (ds ++ if_some o go) ↔ OnSome o P)
some_same ds None go P f g = (λ h. f.0 (sure_first ds [] h), λ h. absurd h)
some_same ds (Some a) go P f g = (λ h. (g a).0 (sure_second ds (go a) h), λ h. sure_both ds (go a) (f.1 tt) ((g a).1 h))

-- on with a part that has doubts of its own, which are told in any case
told_same : {A : Type 0} (ds : List Doubt) (o : Option A) (es : Option A → List Doubt) (P : A → Type 0) → (Sure ds ↔ Has o) → ((a : A) → Sure (es (Some a)) ↔ P a) → Sure (ds ++ es o) ↔ OnSome o P
told_same ds None es P f g = (λ h. f.0 (sure_first ds (es None) h), λ h. absurd h)
told_same ds (Some a) es P f g = (λ h. (g a).0 (sure_second ds (es (Some a)) h), λ h. sure_both ds (es (Some a)) (f.1 tt) ((g a).1 h))

unless_same : (b : Bool) (at : Span) (unsure : Unsure) → Sure (unless b (doubt at unsure)) ↔ (b ≡ true)
unless_same true at unsure = (λ h. refl, λ h. tt)
unless_same false at unsure = (λ h. absurd h, λ h. absurd (cc))

none_same : {A : Type 0} (o : Option A) (at : Span) (unsure : Unsure) → Sure (if_none o (doubt at unsure)) ↔ Has o
none_same None at unsure = same
none_same (Some a) at unsure = same

-- ---- paths
map_has : {A B : Type 0} (f : A → B) (o : Option A) → Has o ↔ Has (option_map f o)
map_has f None = same
map_has f (Some a) = same

through : {A B C : Type 0} → (A ↔ B) → (B ↔ C) → (A ↔ C)
through f g = (λ x. g.0 (f.0 x), λ x. f.1 (g.1 x))

found_same : (member : Member) (s : Shape) (m : MemberShape) (go : Shape → List Doubt) (shape : Shape → Option Shape) → ((t : Shape) → Sure (go t) ↔ Has (shape t)) → Sure (after_found member s m go) ↔ Has (after_member_shape m shape)
found_same member s may_fail go shape f = same
found_same member s (finds t) go shape f = f t
found_same member s (may_miss t) go shape f = through (f t) (map_has optional (shape t))

walk_same : (members : List Member) (s : Shape) → Sure (walk_doubts members s) ↔ Has (walk_shape members s)
walk_same [] s = same
walk_same (member ∷ members) s = found_same member s (member_shape member.op member.access s) (walk_doubts members) (walk_shape members) (walk_same members)

bound_same : (b : BoundShape) (members : List Member) → Sure (bound_doubts b members) ↔ Has (bound_walk_shape b members)
bound_same (value_of s) members = walk_same members s
bound_same loop_key [] = same
bound_same loop_key (member ∷ members) = same
bound_same a_loop [] = same
bound_same a_loop (member ∷ []) = none_same (state_shape member.op member.access) member.span _
bound_same a_loop (member ∷ next ∷ members) = same

root_same : (o : Option BoundShape) (root : Shape) (first : Member) (rest : List Member) → Sure (bound_or_root_doubts o root first rest) ↔ Has (bound_or_root_shape o root first rest)
root_same (Some b) root first rest = bound_same b rest
root_same None root first rest = walk_same (first ∷ rest) root

-- ---- expressions
then_has : (s : Option Shape) (ss : Option (List Shape)) → (Has s × Has ss) ↔ Has (shape_then s ss)
then_has None ss = (λ h. absurd h.0, λ h. absurd h)
then_has (Some s) None = (λ h. absurd h.1, λ h. absurd h)
then_has (Some s) (Some ss) = (λ h. tt, λ h. (tt, tt))

call_has : (callable : Option DeclaredCallable) (ss : Option (List Shape)) → OnSome ss (λ shapes. Has (value_given callable shapes)) ↔ Has (call_shape callable ss)
call_has callable None = same
call_has callable (Some ss) = same

call_shows : (default : Shape) (callable : Option DeclaredCallable) (ss : Option (List Shape)) → OnSome ss (λ shapes. shows_given default callable shapes ≡ true) ↔ (shows_call default callable ss ≡ true)
call_shows default callable None = (λ h. absurd h, λ h. absurd (cc))
call_shows default callable (Some ss) = same

taken_shows : (default : Shape) (o : Option Shape) → OnSome o (λ s. wider default s ≡ true) ↔ (is_taken default o ≡ true)
taken_shows default None = (λ h. absurd h, λ h. absurd (cc))
taken_shows default (Some s) = same

next_item : (o : Option Shape) (keys : Shape → Option Keys) (ds : List Doubt) → ((s : Shape) → Sure ds ↔ Has (keys s)) → (Has o × Sure ds) ↔ Has (option_and_then keys o)
next_item None keys ds f = (λ h. absurd h.0, λ h. absurd h)
next_item (Some s) keys ds f = (λ h. (f s).0 h.1, λ h. (tt, (f s).1 h))

module _ (declared : Declared) (scope : Scope) where
  given_same : (at : Span) (callable : Option DeclaredCallable) (ds : List Doubt) (ss : Option (List Shape)) → (Sure ds ↔ Has ss) → Sure (ds ++ if_some ss (given_doubts at callable)) ↔ Has (call_shape callable ss)
  given_same at callable ds ss f = through (some_same ds ss (given_doubts at callable) (λ shapes. Has (value_given callable shapes)) f (λ shapes. none_same (value_given callable shapes) at _)) (call_has callable ss)

  value_same : (at whole : Span) (shapes : List Shape) (o : Option Shape) → Sure (shown_value_doubts declared scope at whole shapes o) ↔ (is_taken declared.default_formats o ≡ true)
  value_same at whole shapes None = (λ h. absurd h, λ h. absurd (cc))
  value_same at whole shapes (Some s) = unless_same (wider declared.default_formats s) whole _

  shown_call_same : (at whole : Span) (callable : Option DeclaredCallable) (shapes : List Shape) → Sure (shown_call_doubts declared scope at whole callable shapes) ↔ (shows_given declared.default_formats callable shapes ≡ true)
  shown_call_same at whole None shapes = (λ h. absurd h, λ h. absurd (cc))
  shown_call_same at whole (Some (gives_by given)) shapes = value_same at whole shapes (given shapes)
  shown_call_same at whole (Some (formats s)) shapes = unless_same (is_formatted s shapes) at _

  call_same : (at whole : Span) (callable : Option DeclaredCallable) (ds : List Doubt) (ss : Option (List Shape)) → (Sure ds ↔ Has ss) → Sure (ds ++ if_some ss (shown_call_doubts declared scope at whole callable)) ↔ (shows_call declared.default_formats callable ss ≡ true)
  call_same at whole callable ds ss f = through (some_same ds ss (shown_call_doubts declared scope at whole callable) (λ shapes. shows_given declared.default_formats callable shapes ≡ true) f (shown_call_same at whole callable)) (call_shows declared.default_formats callable ss)

  text_same : (at : Span) (ds : List Doubt) (o : Option Shape) → (Sure ds ↔ Has o) → Sure (ds ++ if_some o (text_doubts declared scope at)) ↔ (is_taken declared.default_formats o ≡ true)
  text_same at ds o f = through (some_same ds o (text_doubts declared scope at) (λ s. wider declared.default_formats s ≡ true) f (λ s. unless_same (wider declared.default_formats s) at _)) (taken_shows declared.default_formats o)

  mutual
    pub expression_same : (e : Expression) → Sure (expression_doubts declared scope e) ↔ Has (expression_shape declared scope e)
    expression_same (base b) = base_same b
    expression_same (filtered receiver name args span) =
        given_same name.span (declared.callables name.text) (expression_doubts declared scope receiver ++ arguments_doubts declared scope args) (shape_then (expression_shape declared scope receiver) (arguments_shapes declared scope args))
        (through (both_same (expression_doubts declared scope receiver) (arguments_doubts declared scope args) (expression_same receiver) (arguments_same args)) (then_has (expression_shape declared scope receiver) (arguments_shapes declared scope args)))

    base_same : (b : Base) → Sure (base_doubts declared scope b) ↔ Has (base_shape declared scope b)
    base_same (var first rest) = root_same (bound_shape_of first.access scope.names) scope.root first rest
    base_same (literal v span) = same
    base_same (list bases span) = through (bases_same bases) (map_has (λ shapes. list_of (join_all shapes)) (bases_shapes declared scope bases))
    base_same (mapping items span) = through (items_same items no_others) (map_has map_of (items_keys declared scope items no_others))
    base_same (paren e span) = expression_same e
    base_same (call name args span) = given_same name.span (declared.callables name.text) (arguments_doubts declared scope args) (arguments_shapes declared scope args) (arguments_same args)

    bases_same : (bs : Bases) → Sure (bases_doubts declared scope bs) ↔ Has (bases_shapes declared scope bs)
    bases_same no_bases = same
    bases_same (base_then b bs) = through (both_same (base_doubts declared scope b) (bases_doubts declared scope bs) (base_same b) (bases_same bs)) (then_has (base_shape declared scope b) (bases_shapes declared scope bs))

    items_same : (items : Items) (ks : Keys) → Sure (items_doubts declared scope items) ↔ Has (items_keys declared scope items ks)
    items_same no_items ks = same
    items_same (item_then key b items) ks =
        through (both_same (base_doubts declared scope b) (items_doubts declared scope items) (base_same b) same)
        (next_item (base_shape declared scope b) (λ s. items_keys declared scope items (key_then key.text true s (keys_without key.text ks))) (items_doubts declared scope items) (λ s. items_same items (key_then key.text true s (keys_without key.text ks))))

    arguments_same : (args : Arguments) → Sure (arguments_doubts declared scope args) ↔ Has (arguments_shapes declared scope args)
    arguments_same no_arguments = same
    arguments_same (arguments bases span) = bases_same bases

  mutual
    pub shown_same : (e : Expression) → Sure (shown_doubts declared scope e) ↔ (is_shown declared scope e ≡ true)
    shown_same (base b) = base_shown_same b
    shown_same (filtered receiver name args span) =
        call_same name.span span (declared.callables name.text) (expression_doubts declared scope receiver ++ arguments_doubts declared scope args) (shape_then (expression_shape declared scope receiver) (arguments_shapes declared scope args))
        (through (both_same (expression_doubts declared scope receiver) (arguments_doubts declared scope args) (expression_same receiver) (arguments_same args)) (then_has (expression_shape declared scope receiver) (arguments_shapes declared scope args)))

    base_shown_same : (b : Base) → Sure (base_shown_doubts declared scope b) ↔ (base_is_shown declared scope b ≡ true)
    base_shown_same (paren e span) = shown_same e
    base_shown_same (call name args span) = call_same name.span span (declared.callables name.text) (arguments_doubts declared scope args) (arguments_shapes declared scope args) (arguments_same args)
    base_shown_same (var first rest) = text_same (expression_span (base (var first rest))) (base_doubts declared scope (var first rest)) (base_shape declared scope (var first rest)) (base_same (var first rest))
    base_shown_same (literal v span) = text_same span [] (base_shape declared scope (literal v span)) same
    base_shown_same (list bases span) = text_same span (base_doubts declared scope (list bases span)) (base_shape declared scope (list bases span)) (base_same (list bases span))
    base_shown_same (mapping items span) = text_same span (base_doubts declared scope (mapping items span)) (base_shape declared scope (mapping items span)) (base_same (mapping items span))

-- ---- statements
turns_same : {Q : Type 0} (at : Span) (s : Shape) (o others : Option (List NameShape)) (go : List NameShape → List Doubt) (es : List Doubt) (P : List NameShape → Type 0) → ((bs : List NameShape) → Sure (go bs) ↔ P bs) → (Sure es ↔ Q) → Sure (if_none o (doubt at (has_items s)) ++ (go (or_names o others) ++ es)) ↔ (OnSome o P × Q)
turns_same at s None others go es P f q = (λ h. absurd h, λ h. absurd h.0)
turns_same at s (Some bs) others go es P f q = both_same (go bs) es (f bs) q

module _ (declared : Declared) (included : List ℕ → Scope → Bool) where
  abbrev Included : List ℕ → Scope → Type 0
  Included name scope = included name scope ≡ true

  mutual
    statement_same : (scope : Scope) (t : Statement) → Sure (statement_doubts declared included scope t) ↔ StatementAccepted declared Included scope t
    statement_same scope (raw span) = same
    statement_same scope (inline_expr e span) = shown_same declared scope e
    statement_same scope (include word None) = unless_same (included word.text scope) word.span _
    statement_same scope (include word (Some e)) =
        some_same (expression_doubts declared scope e) (expression_shape declared scope e) _ (λ s. Included word.text (scope_over s)) (expression_same declared scope e)
        (λ s. unless_same (included word.text (scope_over s)) word.span _)
    statement_same scope (block opening e body other) =
        let b : Branches = branches opening e scope in
        let may : Bool = may_have_else (opened_kind opening) in
        let inner = λ (bs : List NameShape). statements_doubts declared included (b.body bs) body in
        let es : List Doubt = else_doubts declared included b.other may other in
        told_same (expression_doubts declared scope e) (expression_shape declared scope e)
        (λ o. if_none (b.names (or_never o)) (doubt (expression_span e) (has_items (or_never o))) ++ (inner (or_names (b.names (or_never o)) (b.names never)) ++ es))
        (λ s. OnSome (b.names s) (λ bs. StatementsAccepted declared Included (b.body bs) body) × ElseAccepted declared Included b.other may other) (expression_same declared scope e)
        (λ s. turns_same (expression_span e) s (b.names s) (b.names never) inner es (λ bs. StatementsAccepted declared Included (b.body bs) body) (λ bs. statements_same (b.body bs) body) (else_same b.other may other))

    pub statements_same : (scope : Scope) (ts : Statements) → Sure (statements_doubts declared included scope ts) ↔ StatementsAccepted declared Included scope ts
    statements_same scope no_statements = same
    statements_same scope (statement_then t ts) = both_same (statement_doubts declared included scope t) (statements_doubts declared included scope ts) (statement_same scope t) (statements_same scope ts)

    else_same : (scope : Scope) (may : Bool) (t : Else) → Sure (else_doubts declared included scope may t) ↔ ElseAccepted declared Included scope may t
    else_same scope false t = same
    else_same scope true no_else = same
    else_same scope true (otherwise body) = statements_same scope body

-- ---- no doubt, as an equation
none_is_sure : (ds : List Doubt) → (ds ≡ []) ↔ Sure ds
none_is_sure [] = (λ h. tt, λ h. refl)
none_is_sure (d ∷ ds) = (λ h. absurd (cc), λ h. absurd h)

pub accepted_undoubted : (declared : Declared) (included : List ℕ → Scope → Bool) (scope : Scope) (ts : Statements) → (statements_doubts declared included scope ts ≡ []) ↔ StatementsAccepted declared (λ name s. included name s ≡ true) scope ts
accepted_undoubted declared included scope ts = through (none_is_sure (statements_doubts declared included scope ts)) (statements_same declared included scope ts)
