use Rattle.std.proofs.Common.{rules, ◌<◌, ◌+◌, ℕ, List, [], Bor, bytes_eq, drop, get_or, length}
use Rattle.std.specs.List.{list_any}
use Rattle.std.proofs.lemmas.List.{drop_more}
use Rattle.upon_needs.specs.Names.{texts}
use Rattle.upon_needs.proofs.SetsOfNames.{insert_step}
use Rattle.upon_needs.proofs.places.set_of.Goals as goal

pub loop-name-preserved : goal.loop-name-preserved
loop-name-preserved c = λ name.
    let names = c.args.names.now in
    let at = c.loop-name.name-index in
    let none : Bor (List ℕ) = record { ref_ptr = (0, 0); now = [] } in
    let inside : at < length names = search rules in
    insert_step c.loop-name.set c.insert.new.self (get_or names at none) (drop (at + 1) names) (drop at names) name (list_any (bytes_eq name) (texts names)) c.in_ok-insert.ensures.updates (drop_more names at none inside) (c.loop-name.invariant name)
