use Rattle.std.proofs.Common.{[], ◌∷◌, refl}
use Rattle.upon_std.specs.Encoding.JsonParts.{entry_begin_text}
use Rattle.upon_std.specs.Encoding.JsonText.{before, entry_name_text, json_string}
use Rattle.upon_std.proofs.EncodingLemmas.JsonWriting.{adds, begins, ends, formatted}
use Rattle.upon_std.proofs.encoding.json_text.write_key.Goals as goal

pub returns : goal.returns
returns c =
    let key = c.args.key.now in
    let is_first = c.args.is_first in
    let first = c.args.f.now in
    let parted = c.write_separator.new.f in
    let named = c.write_copy.new.f in
    let whole = entry_begin_text key is_first in
    let one = adds first first parted (before is_first) whole (entry_name_text key) whole c.in_ok-write_separator.ensures refl (begins first whole) in
    let two = adds first parted named (json_string key) (entry_name_text key) (58 ∷ []) whole c.in_ok-write_copy.ensures refl one in
    let colon = formatted named c.write_str.new.self c.write_str.result (58 ∷ []) c.write_str.ensures in
    ends first named c.write_str.new.self c.write_str.result (58 ∷ []) whole colon two
