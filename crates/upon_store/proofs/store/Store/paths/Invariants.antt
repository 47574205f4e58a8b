use Rattle.std.proofs.Common.{◌≡◌, ◌++◌, map, string_bytes}
use Rattle.upon_store.specs.Paths.{path_texts}
use Rattle.upon_store.specs.Stored.{paths}
use Rattle.upon_store.proofs.store.Store.paths.Given as goal

abbrev pub invariant-loop-path : goal.invariant-loop-path
invariant-loop-path l = path_texts l.paths.items ++ map string_bytes l.path-iterator ≡ paths l.self
