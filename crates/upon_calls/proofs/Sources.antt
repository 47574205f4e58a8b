-- The templates of an object, entry after entry.
use Rattle.std.proofs.Common.{◌≡◌, ◌∙◌, ◌++◌, ◌∷◌, [], ℕ, List, Option, Some, None, option_map, Bor, BTreeMap, String, Global, map, string_bytes, refl, sym, ap, subst, append-nil, append_assoc}
use Rattle.std.proofs.lemmas.List.{map-append}
use Rattle.upon_types.specs.Val.{Val, none_val, bool_val, int_val, text_val, list_val, map_val, Entries, entry_then}
use Rattle.upon_types.specs.View.{view, entries_view}
use Rattle.upon_types.specs.declared.value.Value.{Value}
use Rattle.upon_types.specs.declared.value.Value.TheVariants.{Map as MapValue}
use Rattle.upon_types.proofs.Views.{view-Map}
use Rattle.upon_calls.specs.Arguments.{its_text}
use Rattle.upon_calls.specs.Asked.{are_keys, has_keys}
use Rattle.upon_calls.specs.Templates.{lent_pairs, sources_in, texts_in}
use Rattle.upon_calls.specs.declared.options.Known.{Known}

-- templates before those that are left
abbrev pub before : List (List ℕ × List ℕ) → Option (List (List ℕ × List ℕ)) → Option (List (List ℕ × List ℕ))
before done left = option_map (λ rest. done ++ rest) left

pub none_before : (left : Option (List (List ℕ × List ℕ))) → before [] left ≡ left
none_before None = refl
none_before (Some rest) = refl

one_before : (done : List (List ℕ × List ℕ)) (s : List ℕ × List ℕ) (left : Option (List (List ℕ × List ℕ))) → before done (option_map (λ rest. s ∷ rest) left) ≡ before (done ++ s ∷ []) left
one_before done s None = refl
one_before done s (Some rest) = ap Some (sym (append_assoc done (s ∷ []) rest))

-- a text, or none
text_source : (v : Val) (source key : List ℕ) (es : Entries) → its_text v ≡ Some source → texts_in (entry_then key v es) ≡ option_map (λ rest. (key, source) ∷ rest) (texts_in es)
text_source none_val source key es is = absurd cc
text_source (bool_val b) source key es is = absurd cc
text_source (int_val n) source key es is = absurd cc
text_source (text_val text) source key es is =
    let same : text ≡ source = cc in ap (λ s. option_map (λ rest. (key, s) ∷ rest) (texts_in es)) same
text_source (list_val vs) source key es is = absurd cc
text_source (map_val fs) source key es is = absurd cc

other_source : (v : Val) (key : List ℕ) (es : Entries) → its_text v ≡ None → texts_in (entry_then key v es) ≡ None
other_source none_val key es is = refl
other_source (bool_val b) key es is = refl
other_source (int_val n) key es is = refl
other_source (text_val text) key es is = absurd cc
other_source (list_val vs) key es is = refl
other_source (map_val fs) key es is = refl

-- one template more
pub source_more : (whole : Option (List (List ℕ × List ℕ))) (old new : List (Bor (List ℕ) × Bor (List ℕ))) (pair : Bor (List ℕ) × Bor (List ℕ)) (entry : String Global × Value) (items rest : List (String Global × Value)) (source : List ℕ)
    → items ≡ entry ∷ rest → its_text (view entry.1) ≡ Some source → pair.0.now ≡ string_bytes entry.0 → pair.1.now ≡ source → new ≡ old ++ pair ∷ []
    → whole ≡ before (lent_pairs old) (texts_in (entries_view items)) → whole ≡ before (lent_pairs new) (texts_in (entries_view rest))
source_more whole old new pair entry items rest source is text named sourced pushed so_far =
    so_far
    ∙ ap (λ items. before (lent_pairs old) (texts_in (entries_view items))) is
    ∙ ap (before (lent_pairs old)) (text_source (view entry.1) source (string_bytes entry.0) (entries_view rest) text)
    ∙ one_before (lent_pairs old) (string_bytes entry.0, source) (texts_in (entries_view rest))
    ∙ (λ i. before (lent_pairs old ++ (sym named i, sym sourced i) ∷ []) (texts_in (entries_view rest)))
    ∙ ap (λ pairs. before pairs (texts_in (entries_view rest))) (sym (map-append (λ pair. (pair.0.now, pair.1.now)) old (pair ∷ [])))
    ∙ ap (λ pairs. before (lent_pairs pairs) (texts_in (entries_view rest))) (sym pushed)

-- the last one
pub sources_whole : (whole : Option (List (List ℕ × List ℕ))) (all : List (Bor (List ℕ) × Bor (List ℕ))) (items : List (String Global × Value)) → items ≡ [] → whole ≡ before (lent_pairs all) (texts_in (entries_view items)) → whole ≡ Some (lent_pairs all)
sources_whole whole all items none so_far =
    so_far
    ∙ ap (λ items. before (lent_pairs all) (texts_in (entries_view items))) none
    ∙ ap Some (append-nil (lent_pairs all))

-- an entry that is none
pub no_source : (whole : Option (List (List ℕ × List ℕ))) (old : List (Bor (List ℕ) × Bor (List ℕ))) (entry : String Global × Value) (items rest : List (String Global × Value)) → items ≡ entry ∷ rest → its_text (view entry.1) ≡ None → whole ≡ before (lent_pairs old) (texts_in (entries_view items)) → whole ≡ None
no_source whole old entry items rest is none so_far =
    so_far
    ∙ ap (λ items. before (lent_pairs old) (texts_in (entries_view items))) is
    ∙ ap (before (lent_pairs old)) (other_source (view entry.1) (string_bytes entry.0) (entries_view rest) none)

-- ---- of the value
pub of_map : (v : Value) (m : BTreeMap (String Global) Value) (items : List (String Global × Value)) → v ≡ MapValue m → items ≡ m.entries → sources_in (view v) ≡ texts_in (entries_view items)
of_map v m items is same = ap sources_in (ap view is ∙ view-Map m) ∙ ap (λ items. texts_in (entries_view items)) (sym same)

pub keys_of_map : (known : Known) (v : Value) (m : BTreeMap (String Global) Value) (items : List (String Global × Value)) → v ≡ MapValue m → items ≡ m.entries → has_keys known (view v) ≡ are_keys known (entries_view items)
keys_of_map known v m items is same = ap (has_keys known) (ap view is ∙ view-Map m) ∙ ap (λ items. are_keys known (entries_view items)) (sym same)
