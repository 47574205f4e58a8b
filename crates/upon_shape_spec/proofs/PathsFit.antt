-- A path that is sure to find something finds what fits its shape.
use Rattle.std.proofs.Common.{◌≡◌, ℕ, zero, suc, List, [], ◌∷◌, Bool, true, false, ◌||◌, length, pos, Option, Some, None, option_map, refl, bytes_eq, codes, if◌then◌else◌}
use Rattle.std.specs.Prelude.{slice_get}
use Rattle.upon_types.specs.declared.types.Span.{Span}
use Rattle.upon_types.specs.declared.types.ast.path.AccessOp.{AccessOp}
use Rattle.upon_types.specs.declared.types.ast.path.AccessOp.TheVariants.{Direct, Optional}
use Rattle.upon_types.specs.Fault.{Fault}
use Rattle.upon_types.specs.Path.{Access, by_index, by_key, Member}
use Rattle.upon_types.specs.Val.{Val, none_val, bool_val, int_val, text_val, list_val, map_val, Vals, no_vals, val_then, Entries, entry_at}
use Rattle.upon_lookup.specs.Environment.{Bound, plain, key_text, loop_state, Binding, Root, context, value_source, nothing, Environment, binding_of}
use Rattle.upon_lookup.specs.Finding.{Finding, found, at_fault}
use Rattle.upon_lookup.specs.Lookup.{state_member, after_state, state_map, is_first, is_last, bound_value, maybe_bound, or_not_in_scope, root_value, or_root, lookup}
use Rattle.upon_lookup.specs.LookupFaults.{not_in_map, out_of_bounds}
use Rattle.upon_lookup.specs.Source.{Source}
use Rattle.upon_lookup.specs.Vals.{val_list}
use Rattle.upon_lookup.specs.Walk.{miss, found_or_missed, index_in, key_in, member_by_access, lookup_member, after_first, walk, as_some}
use Rattle.upon_lookup.specs.Walk.{after_member}
use Rattle.upon_shape_spec.specs.Fits.{EachValue, Held, Fits, ListFits, MapFits}
use Rattle.upon_shape_spec.specs.Found.{Finds, FindsShape}
use Rattle.upon_shape_spec.specs.Join.{shape_of}
use Rattle.upon_shape_spec.specs.Paths.{MemberShape, may_fail, finds, may_miss, takes_plain, takes_lists, takes_maps, if_there, by_known_key, key_in_map, index_in_list, member_shape, after_member_shape, walk_shape}
use Rattle.upon_shape_spec.specs.Scope.{BoundShape, value_of, loop_key, a_loop, NameShape, Scope, BoundFits, BothFit, NamesFit, RootFits, ScopeFits, bound_shape_of, no_state_shape, state_shape, bound_walk_shape, bound_or_root_shape, path_shape}
use Rattle.upon_shape_spec.specs.Shape.{Plain, Shape, any_shape, one_of, Lists, no_list, lists_of, Maps, no_map, maps_of, truth_shape, integer_shape, optional, at_key}
use Rattle.upon_shape_spec.proofs.Joins.{own_fits}
use Rattle.upon_shape_spec.proofs.Tests.{or_first, or_second, key_held}

-- ---- one member
-- what a member finds is so
abbrev MemberFinds : MemberShape → Finding (Option Val) → Type 0
MemberFinds may_fail x = Unit {0}
MemberFinds (finds s) x = Finds (Held true (Fits s)) x
MemberFinds (may_miss s) x = Finds (Held false (Fits s)) x

known_finds : (op : AccessOp) (required : Bool) (s : Shape) (o : Option Val) (fault : Fault) → Held required (Fits s) o → MemberFinds (by_known_key op required s) (found_or_missed o op fault)
known_finds op true s (Some v) fault h = h
known_finds op true s None fault h = absurd h
known_finds Direct false s o fault h = tt
known_finds Optional false s (Some v) fault h = h
known_finds Optional false s None fault h = tt

item_held : (s : Shape) (vs : Vals) (n : ℕ) → EachValue (Fits s) vs → Held false (Fits s) (slice_get (val_list vs) n)
item_held s no_vals n h = tt
item_held s (val_then v vs) zero h = h.0
item_held s (val_then v vs) (suc n) h = item_held s vs n h.1

there_finds : (op : AccessOp) (s : Shape) (o : Option Val) (fault : Fault) → Held false (Fits s) o → MemberFinds (if_there op s) (found_or_missed o op fault)
there_finds Direct s o fault h = tt
there_finds Optional s (Some v) fault h = h
there_finds Optional s None fault h = tt

map_finds : (op : AccessOp) (key : List ℕ) (m : Maps) (es : Entries) (at : Span) → MapFits m es → MemberFinds (key_in_map op key m) (found_or_missed (entry_at key es) op (not_in_map at))
map_finds op key no_map es at h = absurd h
map_finds op key (maps_of ks) es at h = known_finds op (at_key key ks).required (at_key key ks).shape (entry_at key es) (not_in_map at) (key_held key ks (entry_at key es) (h.1 key))

list_finds : (op : AccessOp) (l : Lists) (n : ℕ) (vs : Vals) (fault : Fault) → ListFits l vs → MemberFinds (index_in_list op l) (found_or_missed (slice_get (val_list vs) n) op fault)
list_finds op no_list n vs fault h = absurd h
list_finds op (lists_of s) n vs fault h = there_finds op s (slice_get (val_list vs) n) fault (item_held s vs n h)

-- what is excluded is not there
excluded : (test : Bool) (x : MemberShape) (y : Finding (Option Val)) → (test ≡ false → MemberFinds x y) → MemberFinds (if test then may_fail else x) y
excluded true x y h = tt
excluded false x y h = h refl

-- a kind that is there is taken
pub taken : (p : Plain) (c : Bool) → (takes_plain p || c) ≡ false → ((takes_plain p ≡ true) → ⊥)
taken p c e h = clash (takes_plain p || c) (or_first (takes_plain p) c h) e
  where
    clash : (b : Bool) → b ≡ true → b ≡ false → ⊥
    clash true h e = cc
    clash false h e = cc

pub none_taken : (p : Plain) → p.none ≡ true → takes_plain p ≡ true
none_taken p h = or_first p.none _ h

pub truth_taken : (p : Plain) → p.truth ≡ true → takes_plain p ≡ true
truth_taken p h = or_second p.none _ (or_first p.truth _ h)

pub integer_taken : (p : Plain) → p.integer ≡ true → takes_plain p ≡ true
integer_taken p h = or_second p.none _ (or_second p.truth _ (or_first p.integer _ h))

pub text_taken : (p : Plain) → p.text ≡ true → takes_plain p ≡ true
text_taken p h = or_second p.none _ (or_second p.truth _ (or_second p.integer _ h))

-- an end of the search where lists, or maps, are not taken
pub no_list_there : (a : Bool) (l : Lists) (vs : Vals) → (a || takes_lists l) ≡ false → ListFits l vs → ⊥
no_list_there a no_list vs e h = h
no_list_there true (lists_of s) vs e h = cc
no_list_there false (lists_of s) vs e h = cc

pub no_map_there : (a : Bool) (m : Maps) (es : Entries) → (a || takes_maps m) ≡ false → MapFits m es → ⊥
no_map_there a no_map es e h = h
no_map_there true (maps_of ks) es e h = cc
no_map_there false (maps_of ks) es e h = cc

key_finds : (op : AccessOp) (key : List ℕ) (p : Plain) (l : Lists) (m : Maps) (v : Val) (at : Span) → Fits (one_of p l m) v → (takes_plain p || takes_lists l) ≡ false → MemberFinds (key_in_map op key m) (key_in v key op at)
key_finds op key p l m none_val at h e = absurd (taken p (takes_lists l) e (none_taken p h))
key_finds op key p l m (bool_val b) at h e = absurd (taken p (takes_lists l) e (truth_taken p h))
key_finds op key p l m (int_val n) at h e = absurd (taken p (takes_lists l) e (integer_taken p h))
key_finds op key p l m (text_val bytes) at h e = absurd (taken p (takes_lists l) e (text_taken p h))
key_finds op key p l m (list_val vs) at h e = absurd (no_list_there (takes_plain p) l vs e h)
key_finds op key p l m (map_val es) at h e = map_finds op key m es at h

index_finds : (op : AccessOp) (n : ℕ) (p : Plain) (l : Lists) (m : Maps) (v : Val) (at : Span) → Fits (one_of p l m) v → (takes_plain p || takes_maps m) ≡ false → MemberFinds (index_in_list op l) (index_in v n op at)
index_finds op n p l m none_val at h e = absurd (taken p (takes_maps m) e (none_taken p h))
index_finds op n p l m (bool_val b) at h e = absurd (taken p (takes_maps m) e (truth_taken p h))
index_finds op n p l m (int_val z) at h e = absurd (taken p (takes_maps m) e (integer_taken p h))
index_finds op n p l m (text_val bytes) at h e = absurd (taken p (takes_maps m) e (text_taken p h))
index_finds op n p l m (list_val vs) at h e = list_finds op l n vs (out_of_bounds (length (val_list vs)) at) h
index_finds op n p l m (map_val es) at h e = absurd (no_map_there (takes_plain p) m es e h)

pub member_finds : (op : AccessOp) (access : Access) (s : Shape) (v : Val) (at : Span) → Fits s v → MemberFinds (member_shape op access s) (member_by_access v access op at)
member_finds op (by_key word) any_shape v at h = tt
member_finds op (by_index n span) any_shape v at h = tt
member_finds op (by_key word) (one_of p l m) v at h = excluded (takes_plain p || takes_lists l) (key_in_map op word.text m) (key_in v word.text op at) (key_finds op word.text p l m v at h)
member_finds op (by_index n span) (one_of p l m) v at h = excluded (takes_plain p || takes_maps m) (index_in_list op l) (index_in v n op at) (index_finds op n p l m v at h)

-- ---- from member to member
optional_none : (s : Shape) → Fits (optional s) none_val
optional_none any_shape = tt
optional_none (one_of p l m) = refl

optional_fits : (s : Shape) (v : Val) → Fits s v → Fits (optional s) v
optional_fits any_shape v h = tt
optional_fits (one_of p l m) none_val h = refl
optional_fits (one_of p l m) (bool_val b) h = h
optional_fits (one_of p l m) (int_val n) h = h
optional_fits (one_of p l m) (text_val bytes) h = h
optional_fits (one_of p l m) (list_val vs) h = h
optional_fits (one_of p l m) (map_val es) h = h

optional_found : (s : Shape) (x : Finding Val) → Finds (Fits s) x → Finds (Fits (optional s)) x
optional_found s (found v) h = optional_fits s v h
optional_found s (at_fault f) h = absurd h

-- a miss finds none
missed : (o : Option Shape) → FindsShape (option_map optional o) (found none_val)
missed None = tt
missed (Some s) = optional_none s

not_missed : (o : Option Shape) (x : Finding Val) → FindsShape o x → FindsShape (option_map optional o) x
not_missed None x h = tt
not_missed (Some s) x h = optional_found s x h

on_member : (m : MemberShape) (x : Finding (Option Val)) (go_shape : Shape → Option Shape) (go : Val → Finding Val) → MemberFinds m x → ((s : Shape) (v : Val) → Fits s v → FindsShape (go_shape s) (go v)) → FindsShape (after_member_shape m go_shape) (after_member x go)
on_member may_fail x go_shape go h k = tt
on_member (finds s) (found (Some v)) go_shape go h k = k s v h
on_member (finds s) (found None) go_shape go h k = absurd h
on_member (finds s) (at_fault f) go_shape go h k = absurd h
on_member (may_miss s) (found (Some v)) go_shape go h k = not_missed (go_shape s) (go v) (k s v h)
on_member (may_miss s) (found None) go_shape go h k = missed (go_shape s)
on_member (may_miss s) (at_fault f) go_shape go h k = absurd h

pub walk_finds : (members : List Member) (s : Shape) (v : Val) → Fits s v → FindsShape (walk_shape members s) (walk members v)
walk_finds [] s v h = h
walk_finds (member ∷ members) s v h = on_member (member_shape member.op member.access s) (lookup_member v member) (walk_shape members) (walk members) (member_finds member.op member.access s v member.span h) (walk_finds members)

-- ---- where a path is
-- in a context, what the walk finds is found
context_finds : (o : Option Shape) (x : Finding (Option Val)) (go : Val → Finding Val) (at : Span) → FindsShape o (after_member x go) → FindsShape o (or_not_in_scope (after_first x go) at)
context_finds None x go at h = tt
context_finds (Some s) (found (Some v)) go at h = carried s (go v) at h
  where
    carried : (s : Shape) (x : Finding Val) (at : Span) → Finds (Fits s) x → Finds (Fits s) (or_not_in_scope (as_some x) at)
    carried s (found v) at h = h
    carried s (at_fault f) at h = absurd h
context_finds (Some s) (found None) go at h = h
context_finds (Some s) (at_fault f) go at h = absurd h

-- ---- a loop's state
state_rises : (index count : ℕ) → Fits (shape_of (state_map 0 1)) (state_map index count)
state_rises index count = own_fits (state_map index count) (refl, (tt, (tt, (tt, tt))))

if_finds : (b : Bool) (s : Shape) (o : Option Shape) (v : Val) (x : Finding (Option Val)) → Fits s v → FindsShape o (after_state x []) → FindsShape (if b then Some s else o) (after_state (if b then found (Some v) else x) [])
if_finds true s o v x h k = h
if_finds false s o v x h k = k

no_state_finds : (op : AccessOp) (fault : Fault) → FindsShape (no_state_shape op) (after_state (miss op fault) [])
no_state_finds Direct fault = tt
no_state_finds Optional fault = refl

state_finds : (index count : ℕ) (op : AccessOp) (access : Access) (at : Span) → FindsShape (state_shape op access) (after_state (state_member index count access op at) [])
state_finds index count op (by_index n span) at = tt
state_finds index count op (by_key word) at =
    if_finds (bytes_eq word.text (codes "index")) integer_shape _ (int_val (pos index)) _ refl
    (if_finds (bytes_eq word.text (codes "first")) truth_shape _ (is_first index) _ refl
    (if_finds (bytes_eq word.text (codes "last")) truth_shape _ (is_last index count) _ refl (no_state_finds op (not_in_map at))))

pub bound_finds : (b : BoundShape) (c : Bound) (members : List Member) → BoundFits b c → FindsShape (bound_walk_shape b members) (bound_value c members)
bound_finds (value_of s) (plain v) members h = walk_finds members s v h
bound_finds (value_of s) (key_text text) members h = absurd h
bound_finds (value_of s) (loop_state index count) members h = absurd h
bound_finds loop_key (key_text text) [] h = refl
bound_finds loop_key (key_text text) (member ∷ members) h = tt
bound_finds loop_key (plain v) members h = absurd h
bound_finds loop_key (loop_state index count) members h = absurd h
bound_finds a_loop (loop_state index count) [] h = state_rises index count
bound_finds a_loop (loop_state index count) (member ∷ []) h = state_finds index count member.op member.access member.span
bound_finds a_loop (loop_state index count) (member ∷ next ∷ members) h = tt
bound_finds a_loop (plain v) members h = absurd h
bound_finds a_loop (key_text text) members h = absurd h

-- ---- names
pub access_both : (access : Access) (bs : List NameShape) (cs : List Binding) → NamesFit bs cs → BothFit (bound_shape_of access bs) (binding_of access cs)
access_both (by_index n span) bs cs h = tt
access_both (by_key word) bs cs h = h word.text

module _ {Q : Type 0} (ask : Source Q) (root : Root) (first : Member) (rest : List Member) (q : Q) where
  answered : (o : Option Shape) (x : Finding Val) → FindsShape o x → FindsShape o (or_root (as_some x) ask root first rest q).answer
  answered None x h = tt
  answered (Some s) (found v) h = h
  answered (Some s) (at_fault f) h = absurd h

  root_finds : (s : Shape) (r : Root) → RootFits s r → FindsShape (walk_shape (first ∷ rest) s) (root_value ask r first rest q).answer
  root_finds s (context v) h = context_finds (walk_shape (first ∷ rest) s) (lookup_member v first) (walk rest) first.span (walk_finds (first ∷ rest) s v h)
  root_finds s value_source h = absurd h
  root_finds s nothing h = absurd h

  by_binding : (s : Shape) (o : Option BoundShape) (r : Option Bound) → BothFit o r → RootFits s root → FindsShape (bound_or_root_shape o s first rest) (or_root (maybe_bound r rest) ask root first rest q).answer
  by_binding s (Some b) (Some c) h k = answered (bound_walk_shape b rest) (bound_value c rest) (bound_finds b c rest h)
  by_binding s (Some b) None h k = absurd h
  by_binding s None (Some c) h k = absurd h
  by_binding s None None h k = root_finds s root k

pub path_finds : {Q : Type 0} (ask : Source Q) (scope : Scope) (env : Environment) (first : Member) (rest : List Member) (q : Q) → ScopeFits scope env → FindsShape (path_shape scope first rest) (lookup ask env first rest q).answer
path_finds ask scope env first rest q h = by_binding ask env.root first rest q scope.root (bound_shape_of first.access scope.names) (binding_of first.access env.bindings) (access_both first.access scope.names env.bindings h.0) h.1
