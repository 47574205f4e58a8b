-- What a path of a program finds.
use Rattle.std.specs.Prelude.{List, [], ◌∷◌, Option, Some, None}
use Rattle.upon_shape_spec.specs.Doubts.{Doubt}
use Rattle.upon_shape_spec.specs.Shape.{Shape}
use Rattle.upon_shape.specs.View.{shape_view}
use Rattle.upon_shape_check.specs.Doubt.{doubt_view}
use Rattle.upon_shape_check.specs.declared.found.Found.{Found}
use Rattle.upon_shape_check.specs.declared.found.Found.TheVariants.{Surely, InDoubt}

-- its shape, if something is sure to be there
abbrev pub found_shape : Found → Option Shape
found_shape (Surely shape) = Some (shape_view shape)
found_shape (InDoubt d) = None

-- what is in doubt
abbrev pub found_doubts : Found → List Doubt
found_doubts (Surely shape) = []
found_doubts (InDoubt d) = doubt_view d ∷ []
