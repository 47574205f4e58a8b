use Rattle.std.proofs.Common.{◌≡◌, drop, map}
use Rattle.upon_shape_spec.specs.Declared as spec
use Rattle.upon_shape.specs.View.{shape_view}
use Rattle.upon_shape_check.specs.Callables.{signature_view}
use Rattle.upon_shape_check.proofs.declared.given_by.Given as goal

abbrev pub invariant-loop-signature : goal.invariant-loop-signature
invariant-loop-signature l = spec.given_by (map signature_view l.signatures) (map shape_view l.shapes) ≡ spec.given_by (map signature_view (drop l.signature-index l.signatures)) (map shape_view l.shapes)
