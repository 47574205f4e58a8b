use Rattle.std.proofs.Common.{◌≡◌, ◌||◌, ℕ, List, bytes_eq}
use Rattle.std.specs.List.{list_any}
use Rattle.std.specs.Vec.Iter.{into_iter_items}
use Rattle.upon_needs.specs.Names.{texts, has_name}
use Rattle.upon_needs.proofs.template_names.insert_all.Given as goal

abbrev pub invariant-loop-name : goal.invariant-loop-name
invariant-loop-name l = (name : List ℕ) → (has_name l.names name || list_any (bytes_eq name) (texts (into_iter_items l.name-iterator))) ≡ (has_name l.fn.names name || list_any (bytes_eq name) (texts l.fn.more.items))
