-- What values are, one after the other.
use Rattle.std.proofs.Common.{◌≡◌, ◌<◌, ◌≤◌, ◌+◌, ◌∙◌, ◌∷◌, ◌++◌, [], ℕ, List, Option, Some, None, drop, get_or, length, option_map, map, Bor, refl, sym, ap, append-nil, append_assoc}
use Rattle.std.specs.Prelude.{option_and_then}
use Rattle.std.proofs.lemmas.List.{drop_all, drop_more, map-append}
use Rattle.upon_types.specs.Val.{Val}
use Rattle.upon_types.specs.View.{view, vals_view}
use Rattle.upon_types.specs.declared.value.Value.{Value}
use Rattle.upon_needs.specs.Names.{texts}
use Rattle.upon_calls.specs.Contexts.{read_each}

-- what was read, before what is left
abbrev pub read_before : {A : Type 0} → List A → Option (List A) → Option (List A)
read_before done left = option_map (λ rest. done ++ rest) left

pub none_read : {A : Type 0} (left : Option (List A)) → left ≡ read_before [] left
none_read None = refl
none_read (Some rest) = refl

one_read : {A : Type 0} (done : List A) (a : A) (left : Option (List A)) → read_before done (option_map (λ rest. a ∷ rest) left) ≡ read_before (done ++ a ∷ []) left
one_read done a None = refl
one_read done a (Some rest) = ap Some (sym (append_assoc done (a ∷ []) rest))

-- one value more
pub each_more : {A : Type 0} (read : Val → Option A) (whole : Option (List A)) (items : List Value) (i : ℕ) (d : Value) (old new : List A) (a : A) → i < length items → read (view (get_or items i d)) ≡ Some a → new ≡ old ++ a ∷ []
    → whole ≡ read_before old (read_each read (vals_view (drop i items))) → whole ≡ read_before new (read_each read (vals_view (drop (i + 1) items)))
each_more read whole items i d old new a inside is pushed so_far =
    so_far
    ∙ ap (λ items. read_before old (read_each read (vals_view items))) (drop_more items i d inside)
    ∙ ap (λ o. read_before old (option_and_then (λ a. option_map (λ rest. a ∷ rest) (read_each read (vals_view (drop (i + 1) items)))) o)) is
    ∙ one_read old a (read_each read (vals_view (drop (i + 1) items)))
    ∙ ap (λ done. read_before done (read_each read (vals_view (drop (i + 1) items)))) (sym pushed)

-- one that is nothing
pub each_none : {A : Type 0} (read : Val → Option A) (whole : Option (List A)) (items : List Value) (i : ℕ) (d : Value) (old : List A) → i < length items → read (view (get_or items i d)) ≡ None
    → whole ≡ read_before old (read_each read (vals_view (drop i items))) → whole ≡ None
each_none read whole items i d old inside none so_far =
    so_far
    ∙ ap (λ items. read_before old (read_each read (vals_view items))) (drop_more items i d inside)
    ∙ ap (λ o. read_before old (option_and_then (λ a. option_map (λ rest. a ∷ rest) (read_each read (vals_view (drop (i + 1) items)))) o)) none

-- the last one
pub each_whole : {A : Type 0} (read : Val → Option A) (whole : Option (List A)) (items : List Value) (i : ℕ) (all : List A) → length items ≤ i → whole ≡ read_before all (read_each read (vals_view (drop i items))) → whole ≡ Some all
each_whole read whole items i all done so_far =
    so_far
    ∙ ap (λ items. read_before all (read_each read (vals_view items))) (drop_all i items done)
    ∙ ap Some (append-nil all)

-- ---- as they are lent, or owned
pub texts_pushed : (old new : List (Bor (List ℕ))) (one : Bor (List ℕ)) (name : List ℕ) → one.now ≡ name → new ≡ old ++ one ∷ [] → texts new ≡ texts old ++ name ∷ []
texts_pushed old new one name is pushed =
    ap texts pushed ∙ map-append (λ name. name.now) old (one ∷ []) ∙ ap (λ name. texts old ++ name ∷ []) is

pub views_pushed : (old new : List Value) (one : Value) (v : Val) → view one ≡ v → new ≡ old ++ one ∷ [] → map view new ≡ map view old ++ v ∷ []
views_pushed old new one v is pushed =
    ap (map view) pushed ∙ map-append view old (one ∷ []) ∙ ap (λ v. map view old ++ v ∷ []) is
