-- A path that finds nothing is one of the stated faults, at an offset of the path.
use Rattle.std.proofs.Common.{◌≡◌, ℕ, List, [], ◌∷◌, length, Option, Some, None, Bool, true, false, refl, codes, bytes_eq, if◌then◌else◌}
use Rattle.std.specs.Prelude.{slice_get}
use Rattle.upon_types.specs.declared.types.Span.{Span}
use Rattle.upon_types.specs.declared.types.ast.path.AccessOp.{AccessOp}
use Rattle.upon_types.specs.declared.types.ast.path.AccessOp.TheVariants.{Direct, Optional}
use Rattle.upon_types.specs.Fault.{render, Fault}
use Rattle.upon_types.specs.Path.{Access, by_index, by_key, Member, path_span}
use Rattle.upon_types.specs.TreeSpans.{StepSpans, StepsSpans}
use Rattle.upon_types.specs.Val.{Val, none_val, bool_val, int_val, text_val, list_val, map_val, entry_at}
use Rattle.upon_types.proofs.ExpressionSpans.{Covers, path_place}
use Rattle.upon_lookup.specs.Environment.{Bound, plain, key_text, loop_state, Root, context, value_source, nothing, Environment, binding_of}
use Rattle.upon_lookup.specs.Finding.{Finding, found, at_fault}
use Rattle.upon_lookup.specs.Lookup.{key_walk, state_member, state_end, after_state, state_walk, bound_value, maybe_bound, bindings_walk, or_not_in_scope, source_value, root_value, or_root, lookup}
use Rattle.upon_lookup.specs.LookupFaults.{wrong, not_in_map, out_of_bounds}
use Rattle.upon_lookup.specs.Source.{SourceAnswer, says, refuses, value_members_of}
use Rattle.upon_lookup.specs.Vals.{val_list}
use Rattle.upon_lookup.specs.Walk.{miss, found_or_missed, index_in, key_in, member_by_access, lookup_member, after_member, walk, as_some, after_first, context_walk}
use Rattle.upon_meaning_spec.specs.Engine.{Calls, Resolver}
use Rattle.upon_meaning_spec.specs.RenderFaults.{IsStated, not_in_scope, no_index_access, no_key_access, index_into_string, integer_index, index_into, value_refused}
use Rattle.upon_meaning_spec.specs.RenderFaults.{not_in_map as no_such_key, out_of_bounds as no_such_index}

-- nothing is asked of what was found
abbrev pub Any : {A : Type 0} → A → Type 0
Any a = Unit {0}

module _ {V T : Type 0} (calls : Calls V) (resolve : Resolver T) (P : Span → Type 0) where
  -- one of the stated faults, at a span of which P holds
  pub record IsFine (f : Fault) : Type 0 where
    pub stated : IsStated calls resolve f.kind f.reason
    pub span : Span
    pub placed : f.span ≡ Some span
    pub lies : P span

  abbrev pub FoundFine : {A : Type 0} → (A → Type 0) → Finding A → Type 0
  FoundFine Q (found a) = Q a
  FoundFine Q (at_fault f) = IsFine f

  pub wrong_fine : (reason : List ℕ) (at : Span) → IsStated calls resolve render (Some reason) → P at → IsFine (wrong reason at)
  wrong_fine reason at stated lies = record { stated = stated; span = at; placed = refl; lies = lies }

  -- ---- members
  missed_fine : (op : AccessOp) (f : Fault) → IsFine f → FoundFine Any (miss op f)
  missed_fine Direct f h = h
  missed_fine Optional f h = tt

  found_or_missed_fine : (o : Option Val) (op : AccessOp) (f : Fault) → IsFine f → FoundFine Any (found_or_missed o op f)
  found_or_missed_fine (Some v) op f h = tt
  found_or_missed_fine None op f h = missed_fine op f h

  index_fine : (v : Val) (n : ℕ) (op : AccessOp) (at : Span) → P at → FoundFine Any (index_in v n op at)
  index_fine (list_val vs) n op at h = found_or_missed_fine (slice_get (val_list vs) n) op (out_of_bounds (length (val_list vs)) at) (wrong_fine _ at (no_such_index (length (val_list vs))) h)
  index_fine none_val n op at h = wrong_fine _ at (no_index_access none_val) h
  index_fine (bool_val b) n op at h = wrong_fine _ at (no_index_access (bool_val b)) h
  index_fine (int_val z) n op at h = wrong_fine _ at (no_index_access (int_val z)) h
  index_fine (text_val s) n op at h = wrong_fine _ at (no_index_access (text_val s)) h
  index_fine (map_val es) n op at h = wrong_fine _ at (no_index_access (map_val es)) h

  key_fine : (v : Val) (key : List ℕ) (op : AccessOp) (at : Span) → P at → FoundFine Any (key_in v key op at)
  key_fine (map_val es) key op at h = found_or_missed_fine (entry_at key es) op (not_in_map at) (wrong_fine _ at no_such_key h)
  key_fine none_val key op at h = wrong_fine _ at (no_key_access none_val) h
  key_fine (bool_val b) key op at h = wrong_fine _ at (no_key_access (bool_val b)) h
  key_fine (int_val z) key op at h = wrong_fine _ at (no_key_access (int_val z)) h
  key_fine (text_val s) key op at h = wrong_fine _ at (no_key_access (text_val s)) h
  key_fine (list_val vs) key op at h = wrong_fine _ at (no_key_access (list_val vs)) h

  selected_fine : (v : Val) (selector : Access) (op : AccessOp) (at : Span) → P at → FoundFine Any (member_by_access v selector op at)
  selected_fine v (by_index n span) op at h = index_fine v n op at h
  selected_fine v (by_key word) op at h = key_fine v word.text op at h

  member_fine : (v : Val) (step : Member) → StepSpans P step → FoundFine Any (lookup_member v step)
  member_fine v step h = selected_fine v step.access step.op step.span h.0

  after_member_fine : (x : Finding (Option Val)) (go : Val → Finding Val) → FoundFine Any x → ((v : Val) → FoundFine Any (go v)) → FoundFine Any (after_member x go)
  after_member_fine (found (Some v)) go h k = k v
  after_member_fine (found None) go h k = tt
  after_member_fine (at_fault f) go h k = h

  walk_fine : (steps : List Member) (v : Val) → StepsSpans P steps → FoundFine Any (walk steps v)
  walk_fine [] v h = tt
  walk_fine (step ∷ steps) v h = after_member_fine (lookup_member v step) (walk steps) (member_fine v step h.0) (λ w. walk_fine steps w h.1)

  as_some_fine : (x : Finding Val) → FoundFine Any x → FoundFine Any (as_some x)
  as_some_fine (found v) h = tt
  as_some_fine (at_fault f) h = h

  after_first_fine : (x : Finding (Option Val)) (go : Val → Finding Val) → ((v : Val) → FoundFine Any (go v)) → FoundFine Any (after_first x go)
  after_first_fine (found (Some v)) go k = as_some_fine (go v) (k v)
  after_first_fine (found None) go k = tt
  after_first_fine (at_fault f) go k = tt

  -- ---- bindings
  key_walk_fine : (text : List ℕ) (steps : List Member) → StepsSpans P steps → FoundFine Any (key_walk text steps)
  key_walk_fine text [] h = tt
  key_walk_fine text (step ∷ steps) h = wrong_fine _ step.span index_into_string h.0.0

  either : (x : Bool) (a b : Finding (Option Val)) → FoundFine Any a → FoundFine Any b → FoundFine Any (if x then a else b)
  either true a b h k = h
  either false a b h k = k

  state_member_fine : (i count : ℕ) (selector : Access) (op : AccessOp) (at : Span) → P at → FoundFine Any (state_member i count selector op at)
  state_member_fine i count (by_index n span) op at h = wrong_fine _ at integer_index h
  state_member_fine i count (by_key word) op at h =
      either (bytes_eq word.text (codes "index")) _ _ tt
      (either (bytes_eq word.text (codes "first")) _ _ tt (either (bytes_eq word.text (codes "last")) _ _ tt (missed_fine op (not_in_map at) (wrong_fine _ at no_such_key h))))

  state_end_fine : (v : Val) (steps : List Member) → StepsSpans P steps → FoundFine Any (state_end v steps)
  state_end_fine v [] h = tt
  state_end_fine v (step ∷ steps) h = wrong_fine _ step.span (index_into v) h.0.0

  after_state_fine : (x : Finding (Option Val)) (steps : List Member) → FoundFine Any x → StepsSpans P steps → FoundFine Any (after_state x steps)
  after_state_fine (found (Some v)) steps h k = state_end_fine v steps k
  after_state_fine (found None) steps h k = state_end_fine none_val steps k
  after_state_fine (at_fault f) steps h k = h

  state_walk_fine : (index count : ℕ) (steps : List Member) → StepsSpans P steps → FoundFine Any (state_walk index count steps)
  state_walk_fine index count [] h = tt
  state_walk_fine index count (step ∷ steps) h = after_state_fine (state_member index count step.access step.op step.span) steps (state_member_fine index count step.access step.op step.span h.0.0) h.1

  bound_fine : (b : Bound) (steps : List Member) → StepsSpans P steps → FoundFine Any (bound_value b steps)
  bound_fine (plain v) steps h = walk_fine steps v h
  bound_fine (key_text text) steps h = key_walk_fine text steps h
  bound_fine (loop_state index count) steps h = state_walk_fine index count steps h

  maybe_bound_fine : (b : Option Bound) (steps : List Member) → StepsSpans P steps → FoundFine Any (maybe_bound b steps)
  maybe_bound_fine None steps h = tt
  maybe_bound_fine (Some b) steps h = as_some_fine (bound_value b steps) (bound_fine b steps h)

  -- ---- the root
  in_scope_fine : (x : Finding (Option Val)) (at : Span) → FoundFine Any x → P at → FoundFine Any (or_not_in_scope x at)
  in_scope_fine (found (Some v)) at h k = tt
  in_scope_fine (found None) at h k = wrong_fine _ at not_in_scope k
  in_scope_fine (at_fault f) at h k = h

  said_fine : (x : SourceAnswer Val) (at : Span) → ((text : List ℕ) → x ≡ refuses text → IsStated calls resolve render (Some text)) → P at → FoundFine Any (source_value x at)
  said_fine (says v) at h k = tt
  said_fine (refuses text) at h k = wrong_fine text at (h text refl) k

  root_fine : Covers P → (root : Root) (first : Member) (rest : List Member) (q : V) → StepSpans P first → StepsSpans P rest → FoundFine Any (root_value calls.ask root first rest q).answer
  root_fine covers (context v) first rest q h k = in_scope_fine (context_walk first rest v) first.span (after_first_fine (lookup_member v first) (walk rest) (λ w. walk_fine rest w k)) h.0
  root_fine covers value_source first rest q h k =
      let path = value_members_of (first ∷ rest) in
      said_fine (calls.ask q path).answer (path_span first rest) (λ text e. value_refused q path text e) (path_place P covers first rest h k)
  root_fine covers nothing first rest q h k = wrong_fine _ first.span not_in_scope h.0

  or_root_fine : Covers P → (x : Finding (Option Val)) (root : Root) (first : Member) (rest : List Member) (q : V) → FoundFine Any x → StepSpans P first → StepsSpans P rest → FoundFine Any (or_root x calls.ask root first rest q).answer
  or_root_fine covers (found (Some v)) root first rest q x h k = tt
  or_root_fine covers (found None) root first rest q x h k = root_fine covers root first rest q h k
  or_root_fine covers (at_fault f) root first rest q x h k = x

  pub lookup_fine : Covers P → (env : Environment) (first : Member) (rest : List Member) (q : V) → StepSpans P first → StepsSpans P rest → FoundFine Any (lookup calls.ask env first rest q).answer
  lookup_fine covers env first rest q h k = or_root_fine covers (bindings_walk env.bindings first rest) env.root first rest q (maybe_bound_fine (binding_of first.access env.bindings) rest k) h k
