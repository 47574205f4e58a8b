use Rattle.std.proofs.Common.{◌≡◌}
use Rattle.upon_types.specs.View.{entries_view}
use Rattle.upon_shape.specs.View.{keys_view}
use Rattle.upon_schema.specs.Written.{required_in, vals_ahead}
use Rattle.upon_schema.proofs.write.required_of.Given as goal

-- the names so far, ahead of those to come, are all
abbrev pub invariant-loop-name : goal.invariant-loop-name
invariant-loop-name l =
    vals_ahead l.names.items (required_in (keys_view l.keys) (entries_view l.name-iterator)) ≡ required_in (keys_view l.keys) (entries_view l.properties.entries)
