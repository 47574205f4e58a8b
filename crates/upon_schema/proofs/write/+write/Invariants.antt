use Rattle.std.proofs.Common.{◌≡◌, drop}
use Rattle.upon_types.specs.View.{entries_view}
use Rattle.upon_shape_spec.specs.Shape.{other_keys}
use Rattle.upon_shape.specs.View.{shape_view, ahead}
use Rattle.upon_schema.specs.Written.{properties_value}
use Rattle.upon_schema.proofs.write.+write.Given as goal

-- the schemas are those of the keys behind
abbrev pub invariant-add_keys-loop-index : goal.invariant-add_keys-loop-index
invariant-add_keys-loop-index l =
    entries_view l.properties.entries ≡ properties_value (ahead (drop l.index l.keys.named.items) (other_keys (shape_view l.keys.others.value)))
