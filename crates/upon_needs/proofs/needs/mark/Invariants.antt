use Rattle.std.proofs.Common.{◌≡◌, ◌||◌, ℕ, List, take, bytes_eq}
use Rattle.std.specs.List.{list_any}
use Rattle.upon_needs.specs.Names.{texts, has_name}
use Rattle.upon_needs.proofs.SearchSteps.{Marking}
use Rattle.upon_needs.proofs.needs.mark.Given as goal

abbrev pub invariant-loop-name : goal.invariant-loop-name
invariant-loop-name l = record {
  seen : (name : List ℕ) → has_name l.seen name ≡ (has_name l.fn.seen name || list_any (bytes_eq name) (texts (take l.name-index l.names)));
  marking : Marking l.templates l.fn.seen l.seen l.fn.waiting.items l.waiting.items;
}
