-- Where a path is found true, the narrowed scope says what is known.
use Rattle.std.proofs.Common.{◌≡◌, ℕ, List, [], ◌∷◌, Bool, true, false, Option, Some, None, refl, sym, ◌∙◌, subst, bytes_eq, if◌then◌else◌}
use Rattle.std.proofs.lemmas.Slice.Eq.{bytes_eq-Decides}
use Rattle.upon_types.specs.declared.types.Span.{Span}
use Rattle.upon_types.specs.declared.types.ast.path.AccessOp.{AccessOp}
use Rattle.upon_types.specs.declared.types.ast.path.AccessOp.TheVariants.{Direct, Optional}
use Rattle.upon_types.specs.Expression.{Expression, base, filtered, Base, var, literal, list, mapping, paren, call}
use Rattle.upon_types.specs.Fault.{Fault}
use Rattle.upon_types.specs.Path.{Access, by_index, by_key, Member, path_span}
use Rattle.upon_types.specs.Truth.{truth}
use Rattle.upon_types.specs.Val.{Val, none_val, bool_val, int_val, text_val, list_val, map_val, Entries, entry_at}
use Rattle.upon_lookup.specs.Environment.{Bound, plain, key_text, loop_state, Binding, Root, context, value_source, nothing, Environment, first_bound, binding_of}
use Rattle.upon_lookup.specs.Finding.{Finding, found, at_fault, reply, on_found}
use Rattle.upon_lookup.specs.Lookup.{bound_value, maybe_bound, or_not_in_scope, or_root, lookup}
use Rattle.upon_lookup.specs.LookupFaults.{not_in_map}
use Rattle.upon_lookup.specs.Source.{Source}
use Rattle.upon_lookup.specs.Walk.{found_or_missed, member_by_access, lookup_member, after_member, after_first, walk, as_some}
use Rattle.upon_meaning_spec.specs.Engine.{Calls}
use Rattle.upon_meaning_spec.specs.Evaluation.{Operand, operand, evaluate, evaluate_base}
use Rattle.upon_shape_spec.specs.Fits.{Held, Fits, MapFits}
use Rattle.upon_shape_spec.specs.Found.{Finds}
use Rattle.upon_shape_spec.specs.Narrowed.{narrowed_at, not_none, narrowed, narrowed_bound, narrowed_names, narrowed_bindings, narrowed_root, narrowed_scope, true_scope, base_true_scope}
use Rattle.upon_shape_spec.specs.Scope.{BoundShape, value_of, loop_key, a_loop, NameShape, Scope, name_shape, BothFit, NamesFit, RootFits, ScopeFits, first_bound_shape, bound_shape_of}
use Rattle.upon_shape_spec.specs.Shape.{Shape, any_shape, one_of, no_map, maps_of, Keys, key_then, at_key, keys_without}
use Rattle.upon_shape_spec.proofs.PathsFit.{access_both}
use Rattle.upon_shape_spec.proofs.Tests.{beside, by_test, key_held}

-- something true is found
abbrev pub FindsTrue : Finding Val → Type 0
FindsTrue x = Finds (λ v. truth v ≡ true) x

-- ---- shapes
not_none_fits : (s : Shape) (v : Val) → Fits s v → truth v ≡ true → Fits (not_none s) v
not_none_fits any_shape v h t = tt
not_none_fits (one_of p l m) none_val h t = absurd (cc)
not_none_fits (one_of p l m) (bool_val b) h t = h
not_none_fits (one_of p l m) (int_val n) h t = h
not_none_fits (one_of p l m) (text_val bytes) h t = h
not_none_fits (one_of p l m) (list_val vs) h t = h
not_none_fits (one_of p l m) (map_val es) h t = h

there : (op : AccessOp) (required : Bool) (s t : Shape) (o : Option Val) (fault : Fault) (go : Val → Finding Val) → ((v : Val) → Fits s v → FindsTrue (go v) → Fits t v) → Held required (Fits s) o → FindsTrue (after_member (found_or_missed o op fault) go) → Held true (Fits t) o
there op required s t (Some v) fault go more h found_true = more v h found_true
there Direct required s t None fault go more h found_true = absurd found_true
there Optional required s t None fault go more h found_true = absurd (cc)

at_map : (op : AccessOp) (key : List ℕ) (at : Span) (ks : Keys) (es : Entries) (t : Shape) (go : Val → Finding Val) → MapFits (maps_of ks) es → ((v : Val) → Fits (at_key key ks).shape v → FindsTrue (go v) → Fits t v) → FindsTrue (after_member (found_or_missed (entry_at key es) op (not_in_map at)) go) → MapFits (maps_of (key_then key true t (keys_without key ks))) es
at_map op key at ks es t go h more found_true =
    let here = there op (at_key key ks).required (at_key key ks).shape t (entry_at key es) (not_in_map at) go more (key_held key ks (entry_at key es) (h.1 key)) found_true in
    (h.0, λ other. by_test (bytes_eq other key) (λ same. subst (λ (k : List ℕ). Held true (Fits t) (entry_at k es)) (sym ((bytes_eq-Decides other key).0 same)) here) (λ no. beside other key ks (entry_at other es) no (h.1 other)))

narrowed_one : (access : Access) (op : AccessOp) (at : Span) (s : Shape) (v : Val) (shape : Shape → Shape) (go : Val → Finding Val) → ((s : Shape) (v : Val) → Fits s v → FindsTrue (go v) → Fits (shape s) v) → Fits s v → FindsTrue (after_member (member_by_access v access op at) go) → Fits (narrowed_at access shape s) v
narrowed_one (by_index n span) op at s v shape go more h found_true = h
narrowed_one (by_key word) op at any_shape v shape go more h found_true = tt
narrowed_one (by_key word) op at (one_of p l no_map) v shape go more h found_true = h
narrowed_one (by_key word) op at (one_of p l (maps_of ks)) (map_val es) shape go more h found_true = at_map op word.text at ks es (shape (at_key word.text ks).shape) go h (more (at_key word.text ks).shape) found_true
narrowed_one (by_key word) op at (one_of p l (maps_of ks)) none_val shape go more h found_true = absurd found_true
narrowed_one (by_key word) op at (one_of p l (maps_of ks)) (bool_val b) shape go more h found_true = absurd found_true
narrowed_one (by_key word) op at (one_of p l (maps_of ks)) (int_val n) shape go more h found_true = absurd found_true
narrowed_one (by_key word) op at (one_of p l (maps_of ks)) (text_val bytes) shape go more h found_true = absurd found_true
narrowed_one (by_key word) op at (one_of p l (maps_of ks)) (list_val vs) shape go more h found_true = absurd found_true

pub narrowed_fits : (members : List Member) (s : Shape) (v : Val) → Fits s v → FindsTrue (walk members v) → Fits (narrowed members s) v
narrowed_fits [] s v h found_true = not_none_fits s v h found_true
narrowed_fits (member ∷ members) s v h found_true = narrowed_one member.access member.op member.span s v (narrowed members) (walk members) (narrowed_fits members) h found_true

-- ---- names
-- what is bound, if something is, answers with something true
abbrev TrueAt : Option Bound → List Member → Type 0
TrueAt None members = Unit {0}
TrueAt (Some c) members = FindsTrue (bound_value c members)

bound_narrowed : (members : List Member) (b : BoundShape) (r : Option Bound) → BothFit (Some b) r → TrueAt r members → BothFit (Some (narrowed_bound members b)) r
bound_narrowed members b None h k = absurd h
bound_narrowed members (value_of s) (Some (plain v)) h k = narrowed_fits members s v h k
bound_narrowed members (value_of s) (Some (key_text text)) h k = absurd h
bound_narrowed members (value_of s) (Some (loop_state index count)) h k = absurd h
bound_narrowed members loop_key (Some c) h k = h
bound_narrowed members a_loop (Some c) h k = h

pick : (u : Bool) (x y : Option BoundShape) (r : Option Bound) → (u ≡ true → BothFit x r) → (u ≡ false → BothFit y r) → BothFit (if u then x else y) r
pick true x y r f g = f refl
pick false x y r f g = g refl

picked : (u : Bool) (x y : Option BoundShape) (r : Option Bound) → u ≡ true → BothFit (if u then x else y) r → BothFit x r
picked true x y r e h = h
picked false x y r e h = absurd (cc)

passed : (u : Bool) (x y : Option BoundShape) (r : Option Bound) → u ≡ false → BothFit (if u then x else y) r → BothFit y r
passed true x y r e h = absurd (cc)
passed false x y r e h = h

one_list : (t : Bool) (other : List ℕ) (bs cs : List NameShape) (r : Option Bound) → (t ≡ true → BothFit (first_bound_shape other bs) r) → (t ≡ false → BothFit (first_bound_shape other cs) r) → BothFit (first_bound_shape other (if t then bs else cs)) r
one_list true other bs cs r f g = f refl
one_list false other bs cs r f g = g refl

names_narrowed : (name : List ℕ) (members : List Member) (bs : List NameShape) (other : List ℕ) (r : Option Bound) → BothFit (first_bound_shape other bs) r → (bytes_eq other name ≡ true → TrueAt r members) → BothFit (first_bound_shape other (narrowed_names name members bs)) r
names_narrowed name members [] other r h k = h
names_narrowed name members (b ∷ bs) other r h k =
    let u = bytes_eq other b.name in
    let inner = Some (narrowed_bound members b.bound) in
    one_list (bytes_eq name b.name) other (name_shape b.name (narrowed_bound members b.bound) ∷ bs) (b ∷ narrowed_names name members bs) r
    (λ same. pick u inner (first_bound_shape other bs) r
    (λ here. bound_narrowed members b.bound r (picked u (Some b.bound) (first_bound_shape other bs) r here h) (k ((bytes_eq-Decides other name).1 ((bytes_eq-Decides other b.name).0 here ∙ sym ((bytes_eq-Decides name b.name).0 same)))))
    (λ no. passed u (Some b.bound) (first_bound_shape other bs) r no h))
    (λ differs. pick u (Some b.bound) (first_bound_shape other (narrowed_names name members bs)) r
    (λ here. picked u (Some b.bound) (first_bound_shape other bs) r here h)
    (λ no. names_narrowed name members bs other r (passed u (Some b.bound) (first_bound_shape other bs) r no h) k))

bindings_narrowed : (access : Access) (members : List Member) (bs : List NameShape) (cs : List Binding) → NamesFit bs cs → TrueAt (binding_of access cs) members → NamesFit (narrowed_bindings access members bs) cs
bindings_narrowed (by_index n span) members bs cs h k = h
bindings_narrowed (by_key word) members bs cs h k =
    λ other. names_narrowed word.text members bs other (first_bound other cs) (h other) (λ same. subst (λ (n : List ℕ). TrueAt (first_bound n cs) members) (sym ((bytes_eq-Decides other word.text).0 same)) k)

-- ---- where a path is
in_context : (x : Finding (Option Val)) (go : Val → Finding Val) (at : Span) → FindsTrue (or_not_in_scope (after_first x go) at) → FindsTrue (after_member x go)
in_context (found (Some v)) go at h = carried (go v) h
  where
    carried : (y : Finding Val) → FindsTrue (or_not_in_scope (as_some y) at) → FindsTrue y
    carried (found w) h = h
    carried (at_fault f) h = h
in_context (found None) go at h = h
in_context (at_fault f) go at h = h

module _ {Q : Type 0} (ask : Source Q) (root : Root) (first : Member) (rest : List Member) (q : Q) where
  answered : (x : Finding Val) → FindsTrue (or_root (as_some x) ask root first rest q).answer → FindsTrue x
  answered (found v) h = h
  answered (at_fault f) h = h

  true_bound : (r : Option Bound) → FindsTrue (or_root (maybe_bound r rest) ask root first rest q).answer → TrueAt r rest
  true_bound None h = tt
  true_bound (Some c) h = answered (bound_value c rest) h

root_narrowed : {Q : Type 0} (ask : Source Q) (first : Member) (rest : List Member) (q : Q) (s : Shape) (root : Root) (o : Option BoundShape) (r : Option Bound) → BothFit o r → RootFits s root → FindsTrue (or_root (maybe_bound r rest) ask root first rest q).answer → RootFits (narrowed_root o (first ∷ rest) s) root
root_narrowed ask first rest q s root (Some b) r h k found_true = k
root_narrowed ask first rest q s root None (Some c) h k found_true = absurd h
root_narrowed ask first rest q s (context v) None None h k found_true = narrowed_fits (first ∷ rest) s v k (in_context (lookup_member v first) (walk rest) first.span found_true)
root_narrowed ask first rest q s value_source None None h k found_true = absurd k
root_narrowed ask first rest q s nothing None None h k found_true = absurd k

narrowed_scope_fits : {Q : Type 0} (ask : Source Q) (scope : Scope) (env : Environment) (first : Member) (rest : List Member) (q : Q) → ScopeFits scope env → FindsTrue (lookup ask env first rest q).answer → ScopeFits (narrowed_scope first rest scope) env
narrowed_scope_fits ask scope env first rest q h found_true =
    let r = binding_of first.access env.bindings in (
      bindings_narrowed first.access rest scope.names env.bindings h.0 (true_bound ask env.root first rest q r found_true),
      root_narrowed ask first rest q scope.root env.root (bound_shape_of first.access scope.names) r (access_both first.access scope.names env.bindings h.0) h.1 found_true,
    )

spanned : {Q : Type 0} (x : Finding Val) (q : Q) (at : Span) → Finds (λ (o : Operand). truth o.value ≡ true) (on_found x q (λ v q. reply (found (operand v at)) q)).answer → FindsTrue x
spanned (found v) q at h = h
spanned (at_fault f) q at h = h

mutual
  pub true_fits : {Q : Type 0} (calls : Calls Q) (scope : Scope) (env : Environment) (e : Expression) (q : Q) → ScopeFits scope env → Finds (λ (o : Operand). truth o.value ≡ true) (evaluate calls e env q).answer → ScopeFits (true_scope e scope) env
  true_fits calls scope env (base b) q h found_true = base_true calls scope env b q h found_true
  true_fits calls scope env (filtered receiver name args span) q h found_true = h

  base_true : {Q : Type 0} (calls : Calls Q) (scope : Scope) (env : Environment) (b : Base) (q : Q) → ScopeFits scope env → Finds (λ (o : Operand). truth o.value ≡ true) (evaluate_base calls b env q).answer → ScopeFits (base_true_scope b scope) env
  base_true calls scope env (var first rest) q h found_true = let r = lookup calls.ask env first rest q in narrowed_scope_fits calls.ask scope env first rest q h (spanned r.answer r.next (path_span first rest) found_true)
  base_true calls scope env (literal v span) q h found_true = h
  base_true calls scope env (list bases span) q h found_true = h
  base_true calls scope env (mapping items span) q h found_true = h
  base_true calls scope env (paren e span) q h found_true = true_fits calls scope env e q h found_true
  base_true calls scope env (call name args span) q h found_true = h
