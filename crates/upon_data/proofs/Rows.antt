-- The fields of a record, as far as they were put at their keys, and the records of a table, as far as they were read.
use Rattle.std.proofs.Common.{◌≡◌, ℕ, zero, suc, ◌+◌, List, [], ◌∷◌, ◌++◌, drop, length, true, false, None, Some, refl, sym, ap, ◌∙◌, add-one}
use Rattle.csv.specs.Records.{field_at}
use Rattle.upon_types.specs.Val.{text_val, list_val, Entries}
use Rattle.upon_types.specs.View.{view, vals_view}
use Rattle.upon_types.specs.declared.value.Value.{Value}
use Rattle.upon_json.specs.Value.{put}
use Rattle.upon_data.specs.Table.{all_have, fields_over, row_val, rows_vals, under_head}

-- ---- a record
drop_field : (fields : List (List ℕ)) (at : ℕ) (field : List ℕ) → Some field ≡ field_at fields at → drop at fields ≡ field ∷ drop (suc at) fields
unfolding field_at
drop_field [] at field is = absurd (cc is)
drop_field (f ∷ fields) zero field is = let same : field ≡ f = cc is in ap (λ first. first ∷ fields) (sym same)
drop_field (f ∷ fields) (suc at) field is = drop_field fields at field is

drop_none : (fields : List (List ℕ)) (at : ℕ) → None ≡ field_at fields at → drop at fields ≡ []
unfolding field_at
drop_none [] zero is = refl
drop_none [] (suc at) is = refl
drop_none (f ∷ fields) zero is = absurd (cc is)
drop_none (f ∷ fields) (suc at) is = drop_none fields at is

-- one more field is put at its key
pub field_next : (keys fields : List (List ℕ)) (at : ℕ) (key field : List ℕ) (es : Entries) → Some key ≡ field_at keys at → Some field ≡ field_at fields at
    → fields_over (drop at keys) (drop at fields) es ≡ fields_over (drop (at + 1) keys) (drop (at + 1) fields) (put key (text_val field) es)
field_next keys fields at key field es k f = rw (drop_field keys at key k, drop_field fields at field f, add-one at) refl

-- no key is left, or no field
pub no_key : (keys fields : List (List ℕ)) (at : ℕ) (es : Entries) → None ≡ field_at keys at → fields_over (drop at keys) (drop at fields) es ≡ es
no_key keys fields at es none = rw (drop_none keys at none) refl

over_none : (keys : List (List ℕ)) (es : Entries) → fields_over keys [] es ≡ es
over_none [] es = refl
over_none (key ∷ keys) es = refl

pub no_field : (keys fields : List (List ℕ)) (at : ℕ) (es : Entries) → None ≡ field_at fields at → fields_over (drop at keys) (drop at fields) es ≡ es
no_field keys fields at es none = rw (drop_none fields at none) (over_none (drop at keys) es)

-- ---- a table
pub rows_more : (head : List (List ℕ)) (rows : List (List (List ℕ))) (fields : List (List ℕ)) (vs : List Value) (v : Value) → vals_view vs ≡ rows_vals head rows → view v ≡ row_val head fields
    → vals_view (vs ++ v ∷ []) ≡ rows_vals head (rows ++ fields ∷ [])
rows_more head [] fields [] v are is = rw is refl
rows_more head [] fields (w ∷ vs) v are is = absurd (cc are)
rows_more head (r ∷ rows) fields [] v are is = absurd (cc are)
rows_more head (r ∷ rows) fields (w ∷ vs) v are is =
    let first : view w ≡ row_val head r = cc are in
    let others : vals_view vs ≡ rows_vals head rows = cc are in
    rw (first, rows_more head rows fields vs v others is) refl

-- the value of a table whose records have the head's length, and of one that has another
pub of_rows : (all : List (List (List ℕ))) (head : List (List ℕ)) (rows : List (List (List ℕ))) → all ≡ head ∷ rows → all_have (length head) rows ≡ true → under_head all ≡ Some (list_val (rows_vals head rows))
of_rows all head rows are same = ap under_head are ∙ rw same refl

pub of_ragged : (all : List (List (List ℕ))) (head : List (List ℕ)) (rows : List (List (List ℕ))) → all ≡ head ∷ rows → all_have (length head) rows ≡ false → under_head all ≡ None
of_ragged all head rows are unlike = ap under_head are ∙ rw unlike refl
