-- The value of one pair of a key and a text is a map of one text.
use Rattle.std.proofs.Common.{◌≡◌, ℕ, List, [], ◌∷◌, Bool, true, false, Option, Some, None, codes, refl, sym, ap, ◌∙◌, subst, if◌then◌else◌, IsTrue, String, string_bytes}
use Rattle.std.specs.Str.{bytes_eq}
use Rattle.std.proofs.lemmas.Slice.Eq.{bytes_eq-Decides}
use Rattle.std.specs.declared.alloc.Global.{Global}
use Rattle.upon_types.specs.Conversions.{HoldsLast, last_at, EachConverts, converts_entry, pairs_of, IsMapOf}
use Rattle.upon_types.specs.View.{view}
use Rattle.upon_types.specs.declared.value.Value.{Value}
use Rattle.upon_types.specs.Val.{Val, none_val, bool_val, int_val, text_val, list_val, map_val, Entries, no_entries, entry_then, entry_at, rises}
use Rattle.upon_users.specs.Greeting.{names}

-- equal texts are one
decide : (k x : List ℕ) → bytes_eq k x ≡ true → k ≡ x
decide k x h = (bytes_eq-Decides k x).0 h

-- the one pair, by what is at a key
at_pair : (k x : List ℕ) (v w : Val) (here : Bool) → bytes_eq x k ≡ here → Some w ≡ (if here then Some v else None) → (x ≡ k) × (w ≡ v)
at_pair k x v w true same is = (decide x k same, cc)
at_pair k x v w false same is = absurd cc

first_at : (k : List ℕ) (v : Val) (es : Entries) → entry_at k (entry_then k v es) ≡ Some v
first_at k v es = ap (λ b. if b then Some v else entry_at k es) ((bytes_eq-Decides k k).1 refl)

pair_at : (k x : List ℕ) (v w : Val) (es : Entries) → ((key : List ℕ) → entry_at key (entry_then x w es) ≡ last_at key ((k, v) ∷ [])) → (x ≡ k) × (w ≡ v)
pair_at k x v w es each = at_pair k x v w (bytes_eq x k) refl (sym (first_at x w es) ∙ each x)

-- whatever stands before, something is at the key of an entry
some_at : (key k x : List ℕ) (v w : Val) (here : Bool) (es : Entries) (o : Option Val) → (if here then Some w else entry_at x (entry_then x v es)) ≡ o → o ≡ None → ⊥
some_at key k x v w true es o is none = let no : Some w ≡ None = is ∙ none in absurd cc
some_at key k x v w false es o is none = let no : Some v ≡ None = sym (first_at x v es) ∙ is ∙ none in absurd cc

second_key : (k x : List ℕ) (v : Val) (here : Bool) → bytes_eq x k ≡ here → ((if here then Some v else None) ≡ None → ⊥) → x ≡ k
second_key k x v true same some = decide x k same
second_key k x v false same some = absurd (some refl)

no_second : (x y : List ℕ) (v w z : Val) (es : Entries) → x ≡ codes "name" → y ≡ codes "name" → IsTrue (rises (entry_then x w (entry_then y z es))) → ⊥
no_second x y v w z es first second up =
    let at_names : IsTrue (rises (entry_then (codes "name") w (entry_then (codes "name") z es))) = subst (λ a. IsTrue (rises (entry_then a w (entry_then (codes "name") z es)))) first (subst (λ b. IsTrue (rises (entry_then x w (entry_then b z es)))) second up) in
    absurd cc

pub one_entry : (v w : Val) → HoldsLast ((codes "name", v) ∷ []) w → w ≡ map_val (entry_then (codes "name") v no_entries)
one_entry v none_val holds = absurd holds
one_entry v (bool_val b) holds = absurd holds
one_entry v (int_val z) holds = absurd holds
one_entry v (text_val s) holds = absurd holds
one_entry v (list_val vs) holds = absurd holds
one_entry v (map_val no_entries) holds = let no : None ≡ Some v = holds.1 (codes "name") in absurd cc
one_entry v (map_val (entry_then x w no_entries)) holds =
    let is = pair_at (codes "name") x v w no_entries holds.1 in
    λ i. map_val (entry_then (is.0 i) (is.1 i) no_entries)
one_entry v (map_val (entry_then x w (entry_then y z es))) holds =
    let is = pair_at (codes "name") x v w (entry_then y z es) holds.1 in
    let other = second_key (codes "name") y v (bytes_eq y (codes "name")) refl (some_at y x y z w (bytes_eq y x) es (last_at y ((codes "name", v) ∷ [])) (holds.1 y)) in
    absurd (no_second x y v w z es is.0 other holds.0)

-- the value of one pair of a key and a text
map_of_one : (key : String Global) (a : Value) (v : Val) (x : List ℕ) → string_bytes key ≡ codes "name" → view a ≡ text_val x → (vs : List Value)
    → EachConverts (converts_entry (λ x y. y ≡ x)) ((key, a) ∷ []) vs → HoldsLast (pairs_of ((key, a) ∷ []) vs) v → v ≡ names x
map_of_one key a v x k t [] each holds = absurd each
map_of_one key a v x k t (b ∷ []) each holds =
    let pair : (string_bytes key, view b) ≡ (codes "name", text_val x) = λ i. (k i, (ap view each.0 ∙ t) i) in
    one_entry (text_val x) v (subst (λ p. HoldsLast (p ∷ []) v) pair holds)
map_of_one key a v x k t (b ∷ d ∷ bs) each holds = absurd each.1

pub map_is : (key : String Global) (a : Value) (v : Val) (x : List ℕ) → string_bytes key ≡ codes "name" → view a ≡ text_val x
    → IsMapOf (λ x y. y ≡ x) ((key, a) ∷ []) v → v ≡ names x
map_is key a v x k t is = map_of_one key a v x k t is.0 is.1 is.2
