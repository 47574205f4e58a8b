use Rattle.std.proofs.Common.{◌≡◌, ◌++◌, map, drop}
use Rattle.serde_json.specs.Data.{string}
use Rattle.serde_json.specs.View.{view}
use Rattle.upon_needs.specs.Names.{texts}
use Rattle.upon_calls.proofs.names.strings.Given as goal

-- the values so far, with those of the names that are left, are all
abbrev pub invariant-loop-name : goal.invariant-loop-name
invariant-loop-name l = map view l.items.items ++ map string (texts (drop l.name-index l.names)) ≡ map string (texts l.names)
