use Rattle.upon_types.specs.Val.{Val}
use Rattle.upon_types.specs.View.{view}
use Rattle.upon_shape_spec.specs.Fits.{Fits, MapsRise}
use Rattle.upon_shape.specs.View.{shape_view}
use Rattle.upon_shape.specs.declared.shape.Shape.{Shape}
use Rattle.upon_schema.specs.Covers.{Covers}
use Rattle.upon_schema.specs.Valid.{Valid, ValidWithin}
use Rattle.upon_schema.proofs.Fitting.{ok_more}
use Rattle.upon_schema.proofs.read.shape_of_schema.Goals as goal

pub returns-clause-fits : goal.returns-clause-fits
returns-clause-fits c =
    let schema = view c.args.schema.now in
    ok_more c.read.result (λ (s : Shape). Covers (shape_view s) (ValidWithin 128 schema schema)) (λ (s : Shape). (v : Val) → MapsRise v → Valid schema v → Fits (shape_view s) v)
    (λ s f v rise h. f v rise (h 128)) c.read.ensures.covers
