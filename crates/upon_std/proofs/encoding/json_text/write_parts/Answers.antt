use Rattle.std.proofs.Common.{◌≡◌, [], ◌∷◌, ap, ◌∙◌, flat_map}
use Rattle.upon_types.specs.View.{view}
use Rattle.upon_types.specs.Walked.{part_of, parts_left}
use Rattle.upon_std.specs.Encoding.JsonParts.{part_text}
use Rattle.upon_std.specs.Encoding.JsonText.{json_text}
use Rattle.upon_std.proofs.EncodingLemmas.JsonWriting.{adds, begins, done}
use Rattle.upon_std.proofs.EncodingLemmas.JsonParts.{text_by_parts}
use Rattle.upon_std.proofs.encoding.json_text.write_parts.Goals as goal

pub parts-init : goal.parts-init
parts-init c = begins c.args.f.now (flat_map part_text (parts_left c.over-walk.result))

pub parts-preserved : goal.parts-preserved
parts-preserved c =
    let part = part_of c.in-Ok-Some.part in
    let left = parts_left c.parts.walk in
    let rest = parts_left c.next_part.new.self in
    let whole = flat_map part_text (parts_left c.over-walk.result) in
    let more : left ≡ part ∷ rest = rw c.in-Ok-Some.field-0-is at c.in-Ok-Some.ensures in
    adds c.args.f.now c.parts.f c.write_part.new.f (part_text part) (flat_map part_text left) (flat_map part_text rest) whole
    c.in_ok-write_part-in-Ok-Some.ensures (ap (λ ps. flat_map part_text ps) more) c.parts.invariant

pub returns-in-Ok-None : goal.returns-in-Ok-None
returns-in-Ok-None c =
    let left = parts_left c.parts.walk in
    let all = parts_left c.over-walk.result in
    let none : left ≡ [] = rw c.in-Ok-None.field-0-is at c.in-Ok-None.ensures in
    let v = view c.args.value.now in
    let is = ap (λ ps. flat_map part_text ps) c.over-walk.ensures ∙ text_by_parts v in
    done c.args.f.now c.parts.f (flat_map part_text left) (flat_map part_text all) (json_text v) (ap (λ ps. flat_map part_text ps) none) is c.parts.invariant
