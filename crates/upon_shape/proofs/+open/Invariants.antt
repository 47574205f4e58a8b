use Rattle.std.proofs.Common.{◌≡◌, drop}
use Rattle.upon_shape_spec.specs.Join.{opened_keys}
use Rattle.upon_shape_spec.specs.Shape.{any_others}
use Rattle.upon_shape.specs.View.{ahead}
use Rattle.upon_shape.proofs.+open.Given as goal

-- the keys so far, ahead of those to come, are all
abbrev pub invariant-open::opened_keys-loop-key : goal.invariant-open::opened_keys-loop-key
invariant-open::opened_keys-loop-key l =
    ahead l.named.items (opened_keys (ahead (drop l.key-index l.key-items) any_others)) ≡ opened_keys (ahead l.key-items any_others)
