use Rattle.std.proofs.Common.{◌≡◌, ◌||◌, ℕ, List, bytes_eq, drop}
use Rattle.std.specs.List.{list_any}
use Rattle.upon_needs.specs.Names.{has_name, texts}
use Rattle.upon_needs.proofs.places.set_of.Given as goal

-- a name is in the set or among those that are left exactly if it is one of the names
abbrev pub invariant-loop-name : goal.invariant-loop-name
invariant-loop-name l = (name : List ℕ) → (has_name l.set name || list_any (bytes_eq name) (texts (drop l.name-index l.names))) ≡ list_any (bytes_eq name) (texts l.fn.names)
