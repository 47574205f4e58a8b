-- Paths that are alike but for spans find the same, or end with the same fault but for its span.
use Rattle.std.proofs.Common.{◌≡◌, ℕ, List, [], ◌∷◌, length, Option, Some, None, Bool, true, false, refl, ap, ap₂, subst, codes, bytes_eq, if◌then◌else◌}
use Rattle.std.specs.Prelude.{slice_get}
use Rattle.upon_types.specs.declared.types.Span.{Span}
use Rattle.upon_types.specs.declared.types.ast.path.AccessOp.{AccessOp}
use Rattle.upon_types.specs.declared.types.ast.path.AccessOp.TheVariants.{Direct, Optional}
use Rattle.upon_types.specs.Fault.{Fault}
use Rattle.upon_types.specs.Path.{Access, by_index, by_key, Member, path_span}
use Rattle.upon_types.specs.Val.{Val, none_val, bool_val, int_val, text_val, list_val, map_val, entry_at}
use Rattle.upon_lookup.specs.Environment.{Bound, Binding, plain, key_text, loop_state, Root, context, value_source, nothing, Environment, first_bound, binding_of}
use Rattle.upon_lookup.specs.Finding.{Finding, found, at_fault, Reply}
use Rattle.upon_lookup.specs.Lookup.{key_walk, state_member, state_end, after_state, state_walk, bound_value, maybe_bound, bindings_walk, or_not_in_scope, source_value, reply_value, root_value, or_root, lookup}
use Rattle.upon_lookup.specs.LookupFaults.{not_in_map, out_of_bounds}
use Rattle.upon_lookup.specs.Source.{SourceAnswer, says, refuses, Source, ValueMember, index as of_index, key as of_key, is_optional_op, value_access_of, value_members_of}
use Rattle.upon_lookup.specs.Vals.{val_list}
use Rattle.upon_lookup.specs.Walk.{miss, found_or_missed, index_in, key_in, member_by_access, lookup_member, after_member, walk, as_some, after_first, context_walk}
use Rattle.upon_meaning_spec.specs.Alike.{SelectorsAlike, StepsAlike, without_span}

-- two look-ups found values that are related, or met faults that differ at most in their spans
abbrev pub FoundAlike : {A : Type 0} → (A → A → Type 0) → Finding A → Finding A → Type 0
FoundAlike R (found a) (found b) = R a b
FoundAlike R (at_fault f) (at_fault g) = without_span f ≡ without_span g
FoundAlike R _ _ = ⊥

abbrev pub One : {A : Type 0} → A → A → Type 0
One a b = a ≡ b

pub alike_itself : {A : Type 0} (x : Finding A) → FoundAlike One x x
alike_itself (found a) = refl
alike_itself (at_fault f) = refl

-- ---- members
missed_alike : (op : AccessOp) (f g : Fault) → without_span f ≡ without_span g → FoundAlike One (miss op f) (miss op g)
missed_alike Direct f g h = h
missed_alike Optional f g h = refl

found_or_missed_alike : (o : Option Val) (op : AccessOp) (f g : Fault) → without_span f ≡ without_span g → FoundAlike One (found_or_missed o op f) (found_or_missed o op g)
found_or_missed_alike (Some v) op f g h = refl
found_or_missed_alike None op f g h = missed_alike op f g h

index_alike : (v : Val) (n : ℕ) (op : AccessOp) (at at' : Span) → FoundAlike One (index_in v n op at) (index_in v n op at')
index_alike (list_val vs) n op at at' = found_or_missed_alike (slice_get (val_list vs) n) op (out_of_bounds (length (val_list vs)) at) (out_of_bounds (length (val_list vs)) at') refl
index_alike none_val n op at at' = refl
index_alike (bool_val b) n op at at' = refl
index_alike (int_val z) n op at at' = refl
index_alike (text_val s) n op at at' = refl
index_alike (map_val es) n op at at' = refl

key_alike : (v : Val) (key : List ℕ) (op : AccessOp) (at at' : Span) → FoundAlike One (key_in v key op at) (key_in v key op at')
key_alike (map_val es) key op at at' = found_or_missed_alike (entry_at key es) op (not_in_map at) (not_in_map at') refl
key_alike none_val key op at at' = refl
key_alike (bool_val b) key op at at' = refl
key_alike (int_val z) key op at at' = refl
key_alike (text_val s) key op at at' = refl
key_alike (list_val vs) key op at at' = refl

selected_alike : (v : Val) (a b : Access) (op : AccessOp) (at at' : Span) → SelectorsAlike a b → FoundAlike One (member_by_access v a op at) (member_by_access v b op at')
selected_alike v (by_index m span) (by_index n place) op at at' h = subst (λ k. FoundAlike One (index_in v m op at) (index_in v k op at')) h (index_alike v m op at at')
selected_alike v (by_key a) (by_key b) op at at' h = subst (λ k. FoundAlike One (key_in v a.text op at) (key_in v k op at')) h (key_alike v a.text op at at')
selected_alike v (by_index m span) (by_key b) op at at' h = absurd h
selected_alike v (by_key a) (by_index n place) op at at' h = absurd h

member_alike : (v : Val) (a b : Member) → a.op ≡ b.op → SelectorsAlike a.access b.access → FoundAlike One (lookup_member v a) (lookup_member v b)
member_alike v a b op h = subst (λ o. FoundAlike One (lookup_member v a) (member_by_access v b.access o b.span)) op (selected_alike v a.access b.access a.op a.span b.span h)

module _ (go go' : Val → Finding Val) (same : (v : Val) → FoundAlike One (go v) (go' v)) where
  member_itself : (o : Option Val) → FoundAlike One (after_member (found o) go) (after_member (found o) go')
  member_itself (Some v) = same v
  member_itself None = refl

  after_member_alike : (x y : Finding (Option Val)) → FoundAlike One x y → FoundAlike One (after_member x go) (after_member y go')
  after_member_alike (found o) (found p) h = subst (λ z. FoundAlike One (after_member (found o) go) (after_member (found z) go')) h (member_itself o)
  after_member_alike (at_fault f) (at_fault g) h = h
  after_member_alike (found o) (at_fault g) h = absurd h
  after_member_alike (at_fault f) (found p) h = absurd h

walk_alike : (as' bs : List Member) (v : Val) → StepsAlike as' bs → FoundAlike One (walk as' v) (walk bs v)
walk_alike [] [] v h = refl
walk_alike (a ∷ as') (b ∷ bs) v h = after_member_alike (walk as') (walk bs) (λ w. walk_alike as' bs w h.2) (lookup_member v a) (lookup_member v b) (member_alike v a b h.0 h.1)
walk_alike [] (b ∷ bs) v h = absurd h
walk_alike (a ∷ as') [] v h = absurd h

as_some_alike : (x y : Finding Val) → FoundAlike One x y → FoundAlike One (as_some x) (as_some y)
as_some_alike (found v) (found w) h = ap Some h
as_some_alike (at_fault f) (at_fault g) h = h
as_some_alike (found v) (at_fault g) h = absurd h
as_some_alike (at_fault f) (found w) h = absurd h

module _ (go go' : Val → Finding Val) (same : (v : Val) → FoundAlike One (go v) (go' v)) where
  first_itself : (o : Option Val) → FoundAlike One (after_first (found o) go) (after_first (found o) go')
  first_itself (Some v) = as_some_alike (go v) (go' v) (same v)
  first_itself None = refl

  after_first_alike : (x y : Finding (Option Val)) → FoundAlike One x y → FoundAlike One (after_first x go) (after_first y go')
  after_first_alike (found o) (found p) h = subst (λ z. FoundAlike One (after_first (found o) go) (after_first (found z) go')) h (first_itself o)
  after_first_alike (at_fault f) (at_fault g) h = refl
  after_first_alike (found o) (at_fault g) h = absurd h
  after_first_alike (at_fault f) (found p) h = absurd h

-- ---- bindings
key_walk_alike : (text : List ℕ) (as' bs : List Member) → StepsAlike as' bs → FoundAlike One (key_walk text as') (key_walk text bs)
key_walk_alike text [] [] h = refl
key_walk_alike text (a ∷ as') (b ∷ bs) h = refl
key_walk_alike text [] (b ∷ bs) h = absurd h
key_walk_alike text (a ∷ as') [] h = absurd h

either : (x : Bool) (a a' b b' : Finding (Option Val)) → FoundAlike One a a' → FoundAlike One b b' → FoundAlike One (if x then a else b) (if x then a' else b')
either true a a' b b' h k = h
either false a a' b b' h k = k

state_key_alike : (i count : ℕ) (word word' : _) (op : AccessOp) (at at' : Span) → FoundAlike One (state_member i count (by_key word) op at) (state_member i count (by_key (record word' { text = word.text })) op at')
state_key_alike i count word word' op at at' =
    either (bytes_eq word.text (codes "index")) _ _ _ _ refl
    (either (bytes_eq word.text (codes "first")) _ _ _ _ refl (either (bytes_eq word.text (codes "last")) _ _ _ _ refl (missed_alike op (not_in_map at) (not_in_map at') refl)))

state_member_alike : (i count : ℕ) (a b : Access) (op : AccessOp) (at at' : Span) → SelectorsAlike a b → FoundAlike One (state_member i count a op at) (state_member i count b op at')
state_member_alike i count (by_index m span) (by_index n place) op at at' h = refl
state_member_alike i count (by_key a) (by_key b) op at at' h = subst (λ t. FoundAlike One (state_member i count (by_key a) op at) (state_member i count (by_key (record b { text = t })) op at')) h (state_key_alike i count a b op at at')
state_member_alike i count (by_index m span) (by_key b) op at at' h = absurd h
state_member_alike i count (by_key a) (by_index n place) op at at' h = absurd h

state_end_alike : (v : Val) (as' bs : List Member) → StepsAlike as' bs → FoundAlike One (state_end v as') (state_end v bs)
state_end_alike v [] [] h = refl
state_end_alike v (a ∷ as') (b ∷ bs) h = refl
state_end_alike v [] (b ∷ bs) h = absurd h
state_end_alike v (a ∷ as') [] h = absurd h

state_itself : (o : Option Val) (as' bs : List Member) → StepsAlike as' bs → FoundAlike One (after_state (found o) as') (after_state (found o) bs)
state_itself (Some v) as' bs h = state_end_alike v as' bs h
state_itself None as' bs h = state_end_alike none_val as' bs h

after_state_alike : (x y : Finding (Option Val)) (as' bs : List Member) → FoundAlike One x y → StepsAlike as' bs → FoundAlike One (after_state x as') (after_state y bs)
after_state_alike (found o) (found p) as' bs h k = subst (λ z. FoundAlike One (after_state (found o) as') (after_state (found z) bs)) h (state_itself o as' bs k)
after_state_alike (at_fault f) (at_fault g) as' bs h k = h
after_state_alike (found o) (at_fault g) as' bs h k = absurd h
after_state_alike (at_fault f) (found p) as' bs h k = absurd h

state_walk_alike : (index count : ℕ) (as' bs : List Member) → StepsAlike as' bs → FoundAlike One (state_walk index count as') (state_walk index count bs)
state_walk_alike index count [] [] h = refl
state_walk_alike index count (a ∷ as') (b ∷ bs) h =
    after_state_alike (state_member index count a.access a.op a.span) (state_member index count b.access b.op b.span) as' bs
    (subst (λ o. FoundAlike One (state_member index count a.access a.op a.span) (state_member index count b.access o b.span)) h.0 (state_member_alike index count a.access b.access a.op a.span b.span h.1)) h.2
state_walk_alike index count [] (b ∷ bs) h = absurd h
state_walk_alike index count (a ∷ as') [] h = absurd h

bound_alike : (b : Bound) (as' bs : List Member) → StepsAlike as' bs → FoundAlike One (bound_value b as') (bound_value b bs)
bound_alike (plain v) as' bs h = walk_alike as' bs v h
bound_alike (key_text text) as' bs h = key_walk_alike text as' bs h
bound_alike (loop_state index count) as' bs h = state_walk_alike index count as' bs h

maybe_bound_alike : (b : Option Bound) (as' bs : List Member) → StepsAlike as' bs → FoundAlike One (maybe_bound b as') (maybe_bound b bs)
maybe_bound_alike None as' bs h = refl
maybe_bound_alike (Some b) as' bs h = as_some_alike (bound_value b as') (bound_value b bs) (bound_alike b as' bs h)

bound_to_same : (a b : Access) (bindings : List Binding) → SelectorsAlike a b → binding_of a bindings ≡ binding_of b bindings
bound_to_same (by_index m span) (by_index n place) bindings h = refl
bound_to_same (by_key a) (by_key b) bindings h = ap (λ t. first_bound t bindings) h
bound_to_same (by_index m span) (by_key b) bindings h = absurd h
bound_to_same (by_key a) (by_index n place) bindings h = absurd h

-- ---- the root
scope_itself : (o : Option Val) (at at' : Span) → FoundAlike One (or_not_in_scope (found o) at) (or_not_in_scope (found o) at')
scope_itself (Some v) at at' = refl
scope_itself None at at' = refl

in_scope_alike : (x y : Finding (Option Val)) (at at' : Span) → FoundAlike One x y → FoundAlike One (or_not_in_scope x at) (or_not_in_scope y at')
in_scope_alike (found o) (found p) at at' h = subst (λ z. FoundAlike One (or_not_in_scope (found o) at) (or_not_in_scope (found z) at')) h (scope_itself o at at')
in_scope_alike (at_fault f) (at_fault g) at at' h = h
in_scope_alike (found o) (at_fault g) at at' h = absurd h
in_scope_alike (at_fault f) (found p) at at' h = absurd h

said_alike : (x : SourceAnswer Val) (at at' : Span) → FoundAlike One (source_value x at) (source_value x at')
said_alike (says v) at at' = refl
said_alike (refuses text) at at' = refl

access_same : (a b : Access) → SelectorsAlike a b → value_access_of a ≡ value_access_of b
access_same (by_index m span) (by_index n place) h = ap of_index h
access_same (by_key a) (by_key b) h = ap of_key h
access_same (by_index m span) (by_key b) h = absurd h
access_same (by_key a) (by_index n place) h = absurd h

members_same : (as' bs : List Member) → StepsAlike as' bs → value_members_of as' ≡ value_members_of bs
members_same [] [] h = refl
members_same (a ∷ as') (b ∷ bs) h = ap₂ (λ (m : ValueMember) ms. m ∷ ms) (λ i. record { is_optional = is_optional_op (h.0 i); access = access_same a.access b.access h.1 i }) (members_same as' bs h.2)
members_same [] (b ∷ bs) h = absurd h
members_same (a ∷ as') [] h = absurd h

-- two replies with answers that are alike, and with one next state
pub record ReplyAlike {V A : Type 0} (R : A → A → Type 0) (r r' : Reply V (Finding A)) : Type 0 where
  pub answer : FoundAlike R r.answer r'.answer
  pub next : r.next ≡ r'.next

module _ {V : Type 0} (ask : Source V) (first first' : Member) (rest rest' : List Member) (h : StepsAlike (first ∷ rest) (first' ∷ rest')) where
  root_alike : (root : Root) (q : V) → ReplyAlike One (root_value ask root first rest q) (root_value ask root first' rest' q)
  root_alike (context v) q = record {
    answer = in_scope_alike (context_walk first rest v) (context_walk first' rest' v) first.span first'.span (after_first_alike (walk rest) (walk rest') (λ w. walk_alike rest rest' w h.2) (lookup_member v first) (lookup_member v first') (member_alike v first first' h.0 h.1));
    next = refl;
  }
  root_alike value_source q =
      let path = value_members_of (first ∷ rest) in
      subst (λ p. ReplyAlike One (reply_value (ask q path) (path_span first rest)) (reply_value (ask q p) (path_span first' rest'))) (members_same (first ∷ rest) (first' ∷ rest') h)
      (record { answer = said_alike (ask q path).answer (path_span first rest) (path_span first' rest'); next = refl })
  root_alike nothing q = record { answer = refl; next = refl }

  or_root_itself : (o : Option Val) (root : Root) (q : V) → ReplyAlike One (or_root (found o) ask root first rest q) (or_root (found o) ask root first' rest' q)
  or_root_itself (Some v) root q = record { answer = refl; next = refl }
  or_root_itself None root q = root_alike root q

  or_root_alike : (x y : Finding (Option Val)) (root : Root) (q : V) → FoundAlike One x y → ReplyAlike One (or_root x ask root first rest q) (or_root y ask root first' rest' q)
  or_root_alike (found o) (found p) root q k = subst (λ z. ReplyAlike One (or_root (found o) ask root first rest q) (or_root (found z) ask root first' rest' q)) k (or_root_itself o root q)
  or_root_alike (at_fault f) (at_fault g) root q k = record { answer = k; next = refl }
  or_root_alike (found o) (at_fault g) root q k = absurd k
  or_root_alike (at_fault f) (found p) root q k = absurd k

  pub lookup_alike : (env : Environment) (q : V) → ReplyAlike One (lookup ask env first rest q) (lookup ask env first' rest' q)
  lookup_alike env q =
      or_root_alike (bindings_walk env.bindings first rest) (bindings_walk env.bindings first' rest') env.root q
      (subst (λ b. FoundAlike One (bindings_walk env.bindings first rest) (maybe_bound b rest')) (bound_to_same first.access first'.access env.bindings h.1) (maybe_bound_alike (binding_of first.access env.bindings) rest rest' h.2))
