use Rattle.std.proofs.Common.{◌≡◌}
use Rattle.upon_types.specs.View.{view}
use Rattle.upon_shape_spec.specs.Cut.{cut_to, RiseTo}
use Rattle.upon_shape_spec.specs.Fits.{Fits}
use Rattle.upon_shape_spec.specs.Join.{shape_of}
use Rattle.upon_shape.specs.View.{shape_view}
use Rattle.upon_shape.specs.declared.shape.Shape.{Shape}
use Rattle.upon_shape.proofs.Samples.{from_both, own}
use Rattle.upon_shape.proofs.shape.Shape.of.Goals as goal

pub returns-clause-fits : goal.returns-clause-fits
returns-clause-fits c =
    let v = view c.args.value.now in
    from_both c.value_shape.result (λ (s : Shape). shape_view s ≡ cut_to 128 (shape_of v)) (λ (s : Shape). RiseTo 128 v) (λ (s : Shape). Fits (shape_view s) v) (λ s. own 128 (shape_view s) v) c.value_shape.ensures.shape c.value_shape.ensures.rises
