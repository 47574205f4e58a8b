use Rattle.std.proofs.Common.{flat_map, length}
use Rattle.upon_types.specs.Walked.{parts_left}
use Rattle.upon_std.specs.Encoding.JsonParts.{part_text}
use Rattle.upon_std.proofs.EncodingLemmas.JsonWriting.{Keeps}
use Rattle.upon_std.proofs.encoding.json_text.write_parts.Given as goal

-- the parts that are left are still to be written
abbrev pub invariant-parts : goal.invariant-parts
invariant-parts l =
    Keeps l.initial.f l.f (flat_map part_text (parts_left l.walk)) (flat_map part_text (parts_left l.initial.walk))

abbrev pub decreases-parts : goal.decreases-parts
decreases-parts l = length (parts_left l.walk)
