-- Rows of what items and entries become, as one more is appended.
use Rattle.std.proofs.Common.{◌≡◌, ℕ, List, [], ◌∷◌, ◌++◌, Bool, true, false, Option, Some, None, cond, option_map, String, Global, BTreeMap, string_bytes, string_cmp, refl, sym, ap, ◌∙◌}
use Rattle.std.proofs.lemmas.Map.Text.{btree_map_updates_text}
use Rattle.std.specs.BTreeMap.{Updates, get_by_text}
use Rattle.std.specs.Prelude.{bytes_eq, if◌then◌else◌}
use Rattle.std.specs.Cmp.Lexicographic.{nat_list_eq_equiv}
use Rattle.upon_types.specs.Conversions.{EachConverts, pairs_of, or_else, last_at}
use Rattle.upon_types.specs.Val.{Val, entry_at}
use Rattle.upon_types.specs.View.{view, entries_view}
use Rattle.upon_types.specs.declared.value.Value.{Value}
use Rattle.upon_types.proofs.Views.{view-lookup}

pub EachConverts-append : {A : Type 0} (converts : A → Value → Type 0) (xs : List A) (vs : List Value) (x : A) (v : Value) → EachConverts converts xs vs → converts x v → EachConverts converts (xs ++ x ∷ []) (vs ++ v ∷ [])
EachConverts-append converts [] [] x v each one = (one, tt)
EachConverts-append converts [] (w ∷ vs) x v each one = absurd each
EachConverts-append converts (y ∷ xs) [] x v each one = absurd each
EachConverts-append converts (y ∷ xs) (w ∷ vs) x v each one = (each.0, EachConverts-append converts xs vs x v each.1 one)

pub pairs_of-append : {A : Type 0} (converts : String Global × A → Value → Type 0) (es : List (String Global × A)) (vs : List Value) (e : String Global × A) (v : Value) → EachConverts converts es vs
    → pairs_of (es ++ e ∷ []) (vs ++ v ∷ []) ≡ pairs_of es vs ++ (string_bytes e.0, view v) ∷ []
pairs_of-append converts [] [] e v each = refl
pairs_of-append converts [] (w ∷ vs) e v each = absurd each
pairs_of-append converts (f ∷ es) [] e v each = absurd each
pairs_of-append converts (f ∷ es) (w ∷ vs) e v each = ap (λ ps. (string_bytes f.0, view w) ∷ ps) (pairs_of-append converts es vs e v each.1)

-- ---- the last value of a key
or_else-none : {A : Type 0} (a : Option A) → a ≡ or_else a None
or_else-none (Some x) = refl
or_else-none None = refl

or_else-assoc : {A : Type 0} (a b c : Option A) → or_else (or_else a b) c ≡ or_else a (or_else b c)
or_else-assoc (Some x) b c = refl
or_else-assoc None b c = refl

abbrev at_pair : List ℕ → List ℕ × Val → Option Val
at_pair key p = if bytes_eq key p.0 then Some p.1 else None

pub last_at-append : (key : List ℕ) (ps : List (List ℕ × Val)) (p : List ℕ × Val) → last_at key (ps ++ p ∷ []) ≡ or_else (at_pair key p) (last_at key ps)
last_at-append key [] p = or_else-none (at_pair key p)
last_at-append key (q ∷ ps) p = ap (λ o. or_else o (at_pair key q)) (last_at-append key ps p) ∙ or_else-assoc (at_pair key p) (last_at key ps) (at_pair key q)

put_or_kept : (here : Bool) (v : Value) (old : Option Value) → option_map view (cond here (Some v) old) ≡ or_else (if here then Some (view v) else None) (option_map view old)
put_or_kept true v old = refl
put_or_kept false v old = refl

-- what is at a key where an entry has been put into a map
pub entry_at-insert : (m n : BTreeMap (String Global) Value) (k : String Global) (v : Value) → Updates string_cmp m n k (Some v) → (key : List ℕ)
    → entry_at key (entries_view n.entries) ≡ or_else (at_pair key (string_bytes k, view v)) (entry_at key (entries_view m.entries))
entry_at-insert m n k v updates key =
    sym (view-lookup key n.entries)
    ∙ ap (option_map view) (btree_map_updates_text (string_bytes k) m n (Some v) updates key)
    ∙ put_or_kept (bytes_eq (string_bytes k) key) v (get_by_text m key)
    ∙ ap (λ b. or_else (if b then Some (view v) else None) (option_map view (get_by_text m key))) (nat_list_eq_equiv.symm (string_bytes k) key)
    ∙ ap (or_else (at_pair key (string_bytes k, view v))) (view-lookup key m.entries)

-- so the last of equal keys is, as one more entry is put
pub last_at-insert : {A : Type 0} (converts : String Global × A → Value → Type 0) (m n : BTreeMap (String Global) Value) (es : List (String Global × A)) (vs : List Value) (e : String Global × A) (v : Value) → EachConverts converts es vs
    → ((key : List ℕ) → entry_at key (entries_view m.entries) ≡ last_at key (pairs_of es vs)) → Updates string_cmp m n e.0 (Some v)
    → (key : List ℕ) → entry_at key (entries_view n.entries) ≡ last_at key (pairs_of (es ++ e ∷ []) (vs ++ v ∷ []))
last_at-insert converts m n es vs e v each so_far updates key =
    entry_at-insert m n e.0 v updates key
    ∙ ap (or_else (at_pair key (string_bytes e.0, view v))) (so_far key)
    ∙ sym (last_at-append key (pairs_of es vs) (string_bytes e.0, view v))
    ∙ ap (last_at key) (sym (pairs_of-append converts es vs e v each))
