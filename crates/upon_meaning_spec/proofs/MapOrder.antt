-- A loop over a map goes over each entry once, in ascending order of the keys' bytes; and of a literal's equal keys the last counts.
use Rattle.std.proofs.Common.{◌≡◌, inl, inr, ℕ, List, [], ◌∷◌, map, Bool, true, false, Option, Some, None, Less, nat_cmp, refl, sym, ap, ◌∙◌, subst, bytes_eq, if◌then◌else◌}
use Rattle.std.proofs.lemmas.Bool.{and_parts, false≢true}
use Rattle.std.proofs.lemmas.Map.Text.{is_eq-slice_cmp}
use Rattle.std.proofs.lemmas.Slice.Eq.{bytes_eq-Decides}
use Rattle.std.specs.Cmp.Lexicographic.{slice_cmp}
use Rattle.std.specs.FinMap as fin
use Rattle.std.specs.FinMap.Entries.{below_all}
use Rattle.std.specs.List.{AllByRecursion}
use Rattle.std.specs.List.Sorted.{IsStrictlySortedBy}
use Rattle.std.specs.Map.{keys_of}
use Rattle.std.specs.Ordering.{is_lt, is_eq}
use Rattle.upon_types.specs.declared.types.Span.{Span}
use Rattle.upon_types.specs.Expression.{Items, no_items, item_then, mapping}
use Rattle.upon_types.specs.Path.{Ident, key_value}
use Rattle.upon_types.specs.Val.{Val, Entries, no_entries, entry_then, map_val, entry_at, key_of, entry_list, rises}
use Rattle.upon_types.specs.Conversions.{or_else, last_at}
use Rattle.upon_types.proofs.Copies.{is_less}
use Rattle.upon_lookup.specs.Environment.{Environment}
use Rattle.upon_lookup.specs.Finding.{Finding, found, at_fault, reply, on_found}
use Rattle.upon_lookup.specs.Items.{items_of, entry_binds}
use Rattle.upon_meaning_spec.specs.Engine.{Calls}
use Rattle.upon_meaning_spec.specs.Entries.{with_entry}
use Rattle.upon_meaning_spec.specs.Evaluation.{Operand, operand, prepend, as_map, evaluate_base, evaluate_bases, evaluate_items}
use Rattle.upon_meaning_spec.specs.MapOrder.{IsAmong, GoesInOrder, item_bases, item_values}
use Rattle.upon_meaning_spec.proofs.MapLiterals.{literal_rises}
use Rattle.upon_meaning_spec.proofs.RisingEntries.{entry_more}

-- ---- the keys ascend
above_all : (k : List ℕ) (xs : List (List ℕ × Val)) → below_all (slice_cmp nat_cmp) k xs ≡ true → AllByRecursion (λ l. slice_cmp nat_cmp k l ≡ Less) (keys_of xs)
above_all k [] h = tt
above_all k (x ∷ xs) h =
    let parts = and_parts (is_lt (slice_cmp nat_cmp k x.0)) (below_all (slice_cmp nat_cmp) k xs) h in
    (is_less (slice_cmp nat_cmp k x.0) parts.0, above_all k xs parts.1)

ascend : (xs : List (List ℕ × Val)) → fin.is_sorted (slice_cmp nat_cmp) xs ≡ true → IsStrictlySortedBy (slice_cmp nat_cmp) (keys_of xs)
unfolding IsStrictlySortedBy
ascend [] h = tt
ascend (x ∷ xs) h =
    let parts = and_parts (below_all (slice_cmp nat_cmp) x.0 xs) (fin.is_sorted (slice_cmp nat_cmp) xs) h in
    (above_all x.0 xs parts.0, ascend xs parts.1)

-- ---- and the entries are those of the map
key_above : (k : List ℕ) (xs : List (List ℕ × Val)) (l : List ℕ) (v : Val) → AllByRecursion (λ l. slice_cmp nat_cmp k l ≡ Less) (keys_of xs) → IsAmong (l, v) xs → slice_cmp nat_cmp k l ≡ Less
key_above k [] l v all h = absurd h
key_above k (x ∷ xs) l v all (inl same) = subst (λ (e : List ℕ × Val). slice_cmp nat_cmp k e.0 ≡ Less) same all.0
key_above k (x ∷ xs) l v all (inr later) = key_above k xs l v all.1 later

-- a key that is less than another is not the same
apart : (k l : List ℕ) → slice_cmp nat_cmp k l ≡ Less → bytes_eq l k ≡ true → ⊥
apart k l less same =
    let one : l ≡ k = (bytes_eq-Decides l k).0 same in
    let itself : bytes_eq k l ≡ true = (bytes_eq-Decides k l).1 (sym one) in
    false≢true (sym (ap is_eq less) ∙ is_eq-slice_cmp k l ∙ itself)

holds_by : (x : Bool) (k l : List ℕ) (v w : Val) (es : Entries) → bytes_eq l k ≡ x → ((entry_at l es ≡ Some v) → IsAmong (l, v) (entry_list es)) → (if x then Some w else entry_at l es) ≡ Some v → IsAmong (l, v) ((k, w) ∷ entry_list es)
holds_by true k l v w es is go h = let same : w ≡ v = cc in inl (λ i. (sym ((bytes_eq-Decides l k).0 is) i, same i))
holds_by false k l v w es is go h = inr (go h)

among : (es : Entries) (l : List ℕ) (v : Val) → entry_at l es ≡ Some v → IsAmong (l, v) (entry_list es)
among no_entries l v h = absurd (cc)
among (entry_then k w es) l v h = holds_by (bytes_eq l k) k l v w es refl (among es l v) h

not_here : (x : Bool) (w : Val) (o : Option Val) → (x ≡ true → ⊥) → (if x then Some w else o) ≡ o
not_here true w o no_way = absurd (no_way refl)
not_here false w o no_way = refl

holds : (es : Entries) (l : List ℕ) (v : Val) → rises es ≡ true → IsAmong (l, v) (entry_list es) → entry_at l es ≡ Some v
holds no_entries l v h x = absurd x
holds (entry_then k w es) l v h (inl same) =
    let key : l ≡ k = ap (λ (e : List ℕ × Val). e.0) (sym same) in
    ap (λ y. if y then Some w else entry_at l es) ((bytes_eq-Decides l k).1 key) ∙ ap (λ (e : List ℕ × Val). Some e.1) same
holds (entry_then k w es) l v h (inr later) =
    let parts = and_parts (below_all (slice_cmp nat_cmp) k (entry_list es)) (rises es) h in
    let less = key_above k (entry_list es) l v (above_all k (entry_list es) parts.0) later in
    not_here (bytes_eq l k) w (entry_at l es) (apart k l less) ∙ holds es l v parts.1 later

pub goes_in_order : (key value : Ident) (es : Entries) → rises es ≡ true → GoesInOrder key value es (map (entry_binds key value) (entry_list es))
goes_in_order key value es h = record { entries = entry_list es; bound = refl; ascending = ascend (entry_list es) h; all = λ k v. (among es k v, holds es k v h) }

-- ---- what a literal holds
add : (x : Bool) (a : Option Val) (v : Val) (o : Option Val) → or_else a (if x then Some v else o) ≡ or_else (or_else a (if x then Some v else None)) o
add x (Some w) v o = refl
add true None v o = refl
add false None v o = refl

-- entries that were found beside values that were found
abbrev Holds : Items → Entries → Finding Entries → Finding (List Operand) → Type 0
Holds items es (found more) (found os) = (key : List ℕ) → entry_at key more ≡ or_else (last_at key (item_values items os)) (entry_at key es)
Holds items es (found more) (at_fault f) = ⊥
Holds items es (at_fault f) y = Unit {0}

module _ {V : Type 0} (calls : Calls V) (env : Environment) where
  one_more : (key : Ident) (b : _) (items : Items) (es : Entries) (o : Operand) (x : Finding Entries) (y : Finding (List Operand)) (q : V) → Holds items (with_entry key.text o.value es) x y → Holds (item_then key b items) es x (prepend o (reply y q)).answer
  one_more key b items es o (found more) (found os) q h = λ k.
      h k
      ∙ ap (or_else (last_at k (item_values items os))) (entry_more key.text k o.value es)
      ∙ add (bytes_eq k key.text) (last_at k (item_values items os)) o.value (entry_at k es)
  one_more key b items es o (found more) (at_fault f) q h = absurd h
  one_more key b items es o (at_fault f) y q h = tt

  after_value : (key : Ident) (b : _) (items : Items) (es : Entries) → ((more : Entries) (q : V) → Holds items more (evaluate_items calls items more env q).answer (evaluate_bases calls (item_bases items) env q).answer) → (x : Finding Operand) (q : V) →
      Holds (item_then key b items) es (on_found x q (λ o q'. evaluate_items calls items (with_entry key.text o.value es) env q')).answer (on_found x q (λ o q'. prepend o (evaluate_bases calls (item_bases items) env q'))).answer
  after_value key b items es rest (found o) q =
      let y = evaluate_bases calls (item_bases items) env q in
      one_more key b items es o (evaluate_items calls items (with_entry key.text o.value es) env q).answer y.answer y.next (rest (with_entry key.text o.value es) q)
  after_value key b items es rest (at_fault f) q = tt

  items_hold : (items : Items) (es : Entries) (q : V) → Holds items es (evaluate_items calls items es env q).answer (evaluate_bases calls (item_bases items) env q).answer
  items_hold no_items es q = λ key. refl
  items_hold (item_then key b items) es q = after_value key b items es (items_hold items) (evaluate_base calls b env q).answer (evaluate_base calls b env q).next

  held : (items : Items) (span : Span) (o : Operand) (x : Finding Entries) (y : Finding (List Operand)) (q : V) → Holds items no_entries x y → (as_map (reply x q) span).answer ≡ found o → (os : List Operand) × (y ≡ found os) × ((key : List ℕ) → key_of key o.value ≡ last_at key (item_values items os))
  held items span o (found es) (found os) q h e =
      let same : operand (map_val es) span ≡ o = cc in
      (os, refl, λ key. ap (λ (x : Operand). key_of key x.value) (sym same) ∙ h key ∙ none_behind (last_at key (item_values items os)))
    where
      none_behind : (a : Option Val) → or_else a None ≡ a
      none_behind (Some v) = refl
      none_behind None = refl
  held items span o (found es) (at_fault f) q h e = absurd h
  held items span o (at_fault f) y q h e = absurd (cc)

  pub last_stands : (items : Items) (span : Span) (q : V) (o : Operand) → (evaluate_base calls (mapping items span) env q).answer ≡ found o → (os : List Operand) × ((evaluate_bases calls (item_bases items) env q).answer ≡ found os) × ((key : List ℕ) → key_of key o.value ≡ last_at key (item_values items os))
  last_stands items span q o e =
      let r = evaluate_items calls items no_entries env q in
      held items span o r.answer (evaluate_bases calls (item_bases items) env q).answer r.next (items_hold items no_entries q) e

  pub literal_goes_in_order : (items : Items) (span : Span) (q : V) (o : Operand) (key value : Ident) (both at : Span) → (evaluate_base calls (mapping items span) env q).answer ≡ found o → (es : Entries) × (o.value ≡ map_val es) × (items_of (key_value key value both) o.value at ≡ found (map (entry_binds key value) (entry_list es))) × GoesInOrder key value es (map (entry_binds key value) (entry_list es))
  literal_goes_in_order items span q o key value both at e =
      let literal = literal_rises calls env items span q o e in
      (literal.0, literal.1, ap (λ v. items_of (key_value key value both) v at) literal.1, goes_in_order key value literal.0 literal.2)
