-- The text of a value is that of its parts, one after the other.
use Rattle.std.proofs.Common.{◌≡◌, Bool, true, false, [], ◌∷◌, ◌++◌, flat_map, refl, ap, ap₂, ◌∙◌, sym, append_assoc}
use Rattle.std.proofs.lemmas.Grind.{flat_map-append}
use Rattle.std.proofs.lemmas.List.{append-nil}
use Rattle.upon_types.specs.Val.{Val, none_val, bool_val, int_val, text_val, list_val, map_val, Vals, no_vals, val_then, Entries, no_entries, entry_then}
use Rattle.upon_types.specs.Walk.{parts_of_value, parts_of_items, parts_of_entries}
use Rattle.upon_std.specs.Encoding.JsonText.{before, entry_name_text, json_text, json_items, json_entries}
use Rattle.upon_std.specs.Encoding.JsonParts.{part_text}

mutual
  items_by_parts : (vs : Vals) (is_first : Bool) → flat_map part_text (parts_of_items vs is_first) ≡ json_items vs is_first ++ (93 ∷ [])
  items_by_parts no_vals is_first = refl
  items_by_parts (val_then v vs) is_first =
      ap (λ t. before is_first ++ t)
      (flat_map-append part_text (parts_of_value v) (parts_of_items vs false)
      ∙ ap₂ ◌++◌ (text_by_parts v) (items_by_parts vs false)
      ∙ sym (append_assoc (json_text v) (json_items vs false) (93 ∷ [])))
      ∙ sym (append_assoc (before is_first) (json_text v ++ json_items vs false) (93 ∷ []))

  entries_by_parts : (es : Entries) (is_first : Bool) → flat_map part_text (parts_of_entries es is_first) ≡ json_entries es is_first ++ (125 ∷ [])
  entries_by_parts no_entries is_first = refl
  entries_by_parts (entry_then key v es) is_first =
      ap (λ t. (before is_first ++ entry_name_text key) ++ t)
      (flat_map-append part_text (parts_of_value v) (parts_of_entries es false)
      ∙ ap₂ ◌++◌ (text_by_parts v) (entries_by_parts es false)
      ∙ sym (append_assoc (json_text v) (json_entries es false) (125 ∷ [])))
      ∙ append_assoc (before is_first) (entry_name_text key) ((json_text v ++ json_entries es false) ++ (125 ∷ []))
      ∙ ap (λ t. before is_first ++ t) (sym (append_assoc (entry_name_text key) (json_text v ++ json_entries es false) (125 ∷ [])))
      ∙ sym (append_assoc (before is_first) (entry_name_text key ++ (json_text v ++ json_entries es false)) (125 ∷ []))

  -- the texts of the parts of a value are its text
  pub text_by_parts : (v : Val) → flat_map part_text (parts_of_value v) ≡ json_text v
  text_by_parts none_val = append-nil (json_text none_val)
  text_by_parts (bool_val b) = append-nil (json_text (bool_val b))
  text_by_parts (int_val z) = append-nil (json_text (int_val z))
  text_by_parts (text_val text) = append-nil (json_text (text_val text))
  text_by_parts (list_val vs) = ap (λ t. 91 ∷ t) (items_by_parts vs true)
  text_by_parts (map_val es) = ap (λ t. 123 ∷ t) (entries_by_parts es true)
