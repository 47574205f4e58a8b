-- What the items of lists and the entries of maps denote.
use Rattle.std.proofs.Common.{◌≡◌, ℕ, ◌-◌, List, [], ◌∷◌, ◌++◌, map, length, Option, option_map, string_bytes, String, Global, refl, ap, sym, ◌∙◌}
use Rattle.std.specs.Prelude.{reverse, slice_get, unwrap_or}
use Rattle.std.proofs.lemmas.List.{append-nil, map-append, length-map, reverse-append, reverse-reverse}
use Rattle.std.proofs.lemmas.Option.{slice_get-map}
use Rattle.upon_types.specs.Val.{Val, Vals, no_vals, val_then, none_val, text_val, entry_list}
use Rattle.upon_types.specs.View.{view, vals_of, vals_view, entries_view}
use Rattle.upon_types.specs.declared.value.Value.{Value}
use Rattle.upon_std.specs.Basic.Items.{vals_in_list, reversed, last_val}

-- the values that were put into a list
pub val_list-vals_of : (vs : List Val) → vals_in_list (vals_of vs) ≡ vs
val_list-vals_of [] = refl
val_list-vals_of (v ∷ vs) = ap (λ ws. v ∷ ws) (val_list-vals_of vs)

-- how many there are
pub length-val_list : (vs : List Value) → length (vals_in_list (vals_view vs)) ≡ length vs
length-val_list vs = ap length (val_list-vals_of (map view vs)) ∙ length-map vs view

abbrev pub Entry : Type 0
Entry = String Global × Value

-- an entry, key and value
abbrev pub seen : Entry → List ℕ × Val
seen e = (string_bytes e.0, view e.1)

-- the entries that a map denotes
pub entry_list-entries_view : (es : List Entry) → entry_list (entries_view es) ≡ map seen es
entry_list-entries_view [] = refl
entry_list-entries_view (e ∷ es) = ap (λ fs. seen e ∷ fs) (entry_list-entries_view es)

pub length-entry_list : (es : List Entry) → length (entry_list (entries_view es)) ≡ length es
length-entry_list es = ap length (entry_list-entries_view es) ∙ length-map es seen

map-reverse : {A B : Type 0} (f : A → B) (xs : List A) → map f (reverse xs) ≡ reverse (map f xs)
map-reverse f [] = refl
map-reverse f (x ∷ xs) =
    ap (map f) (reverse-append (x ∷ []) xs) ∙ map-append f (reverse xs) (x ∷ [])
    ∙ ap (λ ys. ys ++ (f x ∷ [])) (map-reverse f xs) ∙ sym (reverse-append (f x ∷ []) (map f xs))

-- a list that is reversed denotes the values reversed
pub vals_view-reverse : (vs : List Value) → vals_view (reverse vs) ≡ reversed (vals_view vs)
vals_view-reverse vs = ap vals_of (map-reverse view vs ∙ ap reverse (sym (val_list-vals_of (map view vs))))

-- the list of what was put there
vals_of-val_list : (vs : Vals) → vals_of (vals_in_list vs) ≡ vs
vals_of-val_list no_vals = refl
vals_of-val_list (val_then v vs) = ap (val_then v) (vals_of-val_list vs)

-- reversed twice, a list is as it was
pub reversed-reversed : (vs : Vals) → reversed (reversed vs) ≡ vs
reversed-reversed vs =
    ap (λ x. vals_of (reverse x)) (val_list-vals_of (reverse (vals_in_list vs)))
    ∙ ap vals_of (reverse-reverse (vals_in_list vs)) ∙ vals_of-val_list vs

-- where none is left, all are copied
pub copied_all : {A : Type 0} (f : A → Val) (copies : List Value) (left : List A) (whole : List Val) → left ≡ [] → map view copies ++ map f left ≡ whole → map view copies ≡ whole
copied_all f copies left whole none so_far = sym (append-nil (map view copies)) ∙ ap (λ x. map view copies ++ map f x) (sym none) ∙ so_far

-- the keys of the entries, as values
pub key_list : (es : List Entry) → map (λ e. text_val e.0) (entry_list (entries_view es)) ≡ map (λ e. text_val (string_bytes e.0)) es
key_list [] = refl
key_list (e ∷ es) = ap (λ vs. text_val (string_bytes e.0) ∷ vs) (key_list es)

-- the values of the entries
pub value_list : (es : List Entry) → map (λ e. e.1) (entry_list (entries_view es)) ≡ map (λ e. view e.1) es
value_list [] = refl
value_list (e ∷ es) = ap (λ vs. view e.1 ∷ vs) (value_list es)

-- the last item, or none
last_seen : (xs : List Value) → last_val (vals_view xs) ≡ unwrap_or (option_map view (slice_get xs (length xs - 1))) none_val
last_seen xs =
    ap (λ vs. unwrap_or (slice_get vs (length vs - 1)) none_val) (val_list-vals_of (map view xs))
    ∙ ap (λ n. unwrap_or (slice_get (map view xs) (n - 1)) none_val) (length-map xs view)
    ∙ ap (λ o. unwrap_or o none_val) (slice_get-map view xs (length xs - 1))

pub last_val-is : (xs : List Value) (last : Option Value) → last ≡ slice_get xs (length xs - 1) → last_val (vals_view xs) ≡ unwrap_or (option_map view last) none_val
last_val-is xs last e = last_seen xs ∙ ap (λ o. unwrap_or (option_map view o) none_val) (sym e)
