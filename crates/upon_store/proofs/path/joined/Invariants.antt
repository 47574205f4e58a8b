use Rattle.std.proofs.Common.{◌≡◌, ◌∷◌, take, string_bytes}
use Rattle.std.specs.List.{join_with_byte}
use Rattle.upon_store.specs.Paths.{path_texts}
use Rattle.upon_store.proofs.path.joined.Given as goal

abbrev pub invariant-loop-segment : goal.invariant-loop-segment
invariant-loop-segment l = string_bytes l.text ≡ join_with_byte 47 (l.fn.first ∷ path_texts (take l.segment-index l.others))
