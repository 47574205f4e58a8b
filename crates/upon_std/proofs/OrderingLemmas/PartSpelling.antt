-- The spelling of a value is that of its parts, one after the other.
use Rattle.std.proofs.Common.{◌≡◌, Bool, true, false, ◌∷◌, ◌++◌, flat_map, refl, ap, ap₂, ◌∙◌}
use Rattle.std.proofs.lemmas.Grind.{flat_map-append}
use Rattle.std.proofs.lemmas.List.{append-nil}
use Rattle.upon_types.specs.Val.{Val, none_val, bool_val, int_val, text_val, list_val, map_val, Vals, no_vals, val_then, Entries, no_entries, entry_then}
use Rattle.upon_types.specs.Walk.{parts_of_value, parts_of_items, parts_of_entries}
use Rattle.upon_std.specs.Ordering.Spelling.{text_spelling, spelling, items_spelling, entries_spelling}
use Rattle.upon_std.specs.Ordering.PartSpelling.{part_spelling}

mutual
  items_by_parts : (vs : Vals) (is_first : Bool) → flat_map part_spelling (parts_of_items vs is_first) ≡ items_spelling vs
  items_by_parts no_vals is_first = refl
  items_by_parts (val_then v vs) is_first =
      ap (λ t. 1 ∷ t)
      (flat_map-append part_spelling (parts_of_value v) (parts_of_items vs false) ∙ ap₂ ◌++◌ (spelling_by_parts v) (items_by_parts vs false))

  entries_by_parts : (es : Entries) (is_first : Bool) → flat_map part_spelling (parts_of_entries es is_first) ≡ entries_spelling es
  entries_by_parts no_entries is_first = refl
  entries_by_parts (entry_then key v es) is_first =
      ap (λ t. 1 ∷ (text_spelling key ++ t))
      (flat_map-append part_spelling (parts_of_value v) (parts_of_entries es false) ∙ ap₂ ◌++◌ (spelling_by_parts v) (entries_by_parts es false))

  -- the spellings of the parts of a value are its spelling
  pub spelling_by_parts : (v : Val) → flat_map part_spelling (parts_of_value v) ≡ spelling v
  spelling_by_parts none_val = refl
  spelling_by_parts (bool_val b) = refl
  spelling_by_parts (int_val z) = append-nil (spelling (int_val z))
  spelling_by_parts (text_val text) = append-nil (spelling (text_val text))
  spelling_by_parts (list_val vs) = ap (λ t. 4 ∷ t) (items_by_parts vs true)
  spelling_by_parts (map_val es) = ap (λ t. 5 ∷ t) (entries_by_parts es true)
