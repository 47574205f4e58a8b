-- What definitions of this crate say of samples, by computing.
use Rattle.std.proofs.Common.{◌≡◌, pos, negsuc, ◌∷◌, true, None, Some, refl, codes}
use Rattle.json.specs.Json.{null, boolean, number, string, array, object, no_items, item, no_members, member}
use Rattle.upon_types.specs.Val.{none_val, bool_val, int_val, text_val, list_val, map_val, no_vals, val_then, no_entries, entry_then}
use Rattle.upon_json.specs.Context.{entries_in, without_mark}
use Rattle.upon_json.specs.Value.{number_val, value_of_json}

-- ---- numbers
small : number_val (codes "-42") ≡ int_val (negsuc 41)
small = refl

minus_zero : number_val (codes "-0") ≡ int_val (pos 0)
minus_zero = refl

largest : number_val (codes "9223372036854775807") ≡ int_val (pos 9223372036854775807)
largest = refl

too_large : number_val (codes "9223372036854775808") ≡ text_val (codes "9223372036854775808")
too_large = refl

least : number_val (codes "-9223372036854775808") ≡ int_val (negsuc 9223372036854775807)
least = refl

price : number_val (codes "19.90") ≡ text_val (codes "19.90")
price = refl

exponent : number_val (codes "1e3") ≡ text_val (codes "1e3")
exponent = refl

-- ---- `{"b": 1, "a": null, "b": true}`: the last `b` counts, and `a` comes first
last_counts : value_of_json (object (member (codes "b") (number (codes "1")) (member (codes "a") null (member (codes "b") (boolean true) no_members))))
    ≡ map_val (entry_then (codes "a") none_val (entry_then (codes "b") (bool_val true) no_entries))
last_counts = refl

-- ---- `[2.5]` at the top, and `"x"`
at_items : entries_in (value_of_json (array (item (number (codes "2.5")) no_items))) ≡ Some (entry_then (codes "items") (list_val (val_then (text_val (codes "2.5")) no_vals)) no_entries)
at_items = refl

no_context : entries_in (value_of_json (string (codes "x"))) ≡ None
no_context = refl

-- ---- a byte order mark
marked : without_mark (239 ∷ 187 ∷ 191 ∷ codes "{}") ≡ codes "{}"
marked = refl
