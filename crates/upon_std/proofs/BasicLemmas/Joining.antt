-- How the texts of a list are joined one by one.
use Rattle.std.proofs.Common.{◌≡◌, ℕ, ◌+◌, ◌<◌, ◌≤◌, List, [], ◌∷◌, ◌++◌, map, length, drop, get_or, Some, None, Result, Ok, Err, String, Global, string_bytes, refl, ap, sym, ◌∙◌, append_assoc}
use Rattle.std.proofs.lemmas.List.{append-nil, at_drop_more, at_drop_all}
use Rattle.std.specs.Result.{IfOk}
use Rattle.upon_functions.specs.Outcome.{value, Gives, result_outcome}
use Rattle.upon_types.specs.Val.{Val, text_val}
use Rattle.upon_types.specs.View.{view, vals_view}
use Rattle.upon_types.specs.declared.value.Value.{Value}
use Rattle.upon_std.specs.Basic.Items.{vals_in_list}
use Rattle.upon_std.specs.Basic.Joined.{text_in, prefixed, piece_then, joined_from, joined_result, IsJoined}
use Rattle.upon_std.proofs.BasicLemmas.Items.{val_list-vals_of}

-- nothing before a text changes nothing
prefixed-nil : (r : Result (List ℕ) Val) → prefixed [] r ≡ r
prefixed-nil (Ok text) = refl
prefixed-nil (Err v) = refl

pub begun : (text : List ℕ) (r : Result (List ℕ) Val) → text ≡ [] → prefixed text r ≡ r
begun text r e = ap (λ t. prefixed t r) e ∙ prefixed-nil r

-- two texts before another
prefixed-prefixed : (a b : List ℕ) (r : Result (List ℕ) Val) → prefixed a (prefixed b r) ≡ prefixed (a ++ b) r
prefixed-prefixed a b (Ok text) = ap Ok (sym (append_assoc a b text))
prefixed-prefixed a b (Err v) = refl

-- what is made of the items from an index on, by the first of them
by_item : (items : List Value) (i : ℕ) (x : Value) (done before separator : List ℕ) → i < length items → x ≡ get_or items i x
    → prefixed done (joined_from before separator (map view (drop i items)))
    ≡ prefixed done (piece_then before (text_in (view x)) (view x) (joined_from separator separator (map view (drop (i + 1) items))))
by_item items i x done before separator within is =
    at_drop_more (λ xs. prefixed done (joined_from before separator (map view xs))) items i x within
    ∙ ap (λ y. prefixed done (joined_from before separator (map view (y ∷ drop (i + 1) items)))) (sym is)

-- one more text
pub one_more_piece : (items : List Value) (i : ℕ) (x : Value) (piece done new before separator : List ℕ) (whole : Result (List ℕ) Val)
    → i < length items → x ≡ get_or items i x → Some piece ≡ text_in (view x) → new ≡ done ++ (before ++ piece)
    → prefixed done (joined_from before separator (map view (drop i items))) ≡ whole
    → prefixed new (joined_from separator separator (map view (drop (i + 1) items))) ≡ whole
one_more_piece items i x piece done new before separator whole within is has_text of_new so_far =
    let rest = joined_from separator separator (map view (drop (i + 1) items)) in
    ap (λ t. prefixed t rest) of_new ∙ sym (prefixed-prefixed done (before ++ piece) rest)
    ∙ ap (λ o. prefixed done (piece_then before o (view x) rest)) has_text
    ∙ sym (by_item items i x done before separator within is) ∙ so_far

-- a value that is no text
pub stops : (items : List Value) (i : ℕ) (x : Value) (done before separator : List ℕ) (whole : Result (List ℕ) Val)
    → i < length items → x ≡ get_or items i x → None ≡ text_in (view x)
    → prefixed done (joined_from before separator (map view (drop i items))) ≡ whole → whole ≡ Err (view x)
stops items i x done before separator whole within is no_text so_far =
    let rest = joined_from separator separator (map view (drop (i + 1) items)) in
    sym so_far ∙ by_item items i x done before separator within is
    ∙ ap (λ o. prefixed done (piece_then before o (view x) rest)) (sym no_text)

-- no item is left
pub all_joined : (items : List Value) (i : ℕ) (done before separator : List ℕ) (whole : Result (List ℕ) Val) → length items ≤ i
    → prefixed done (joined_from before separator (map view (drop i items))) ≡ whole → whole ≡ Ok done
all_joined items i done before separator whole past so_far =
    sym so_far ∙ at_drop_all (λ xs. prefixed done (joined_from before separator (map view xs))) items i past ∙ ap Ok (append-nil done)

-- what is made of the texts is what the callable returns
pub gives_joined : {E : Type 0} (made : Result (Result (String Global) (String Global)) E) (items : List Value) (separator : List ℕ)
    → IfOk made (λ r. IsJoined r (joined_from [] separator (map view items)))
    → Gives (result_outcome (result_outcome (λ t. Some (value (text_val (string_bytes t)))) (λ t. Some (string_bytes t))) (λ e. None) made)
    (joined_result (joined_from [] separator (vals_in_list (vals_view items))))
gives_joined (Ok (Ok text)) items separator h =
    sym (ap (λ vs. joined_result (joined_from [] separator vs)) (val_list-vals_of (map view items)) ∙ ap joined_result h)
gives_joined (Ok (Err text)) items separator h =
    sym (ap (λ vs. joined_result (joined_from [] separator vs)) (val_list-vals_of (map view items)) ∙ h)
gives_joined (Err e) items separator h = tt
