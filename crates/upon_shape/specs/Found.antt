-- What a `MemberShape` of a program denotes.
use Rattle.upon_shape_spec.specs.Paths as spec
use Rattle.upon_shape_spec.specs.Shape.{never}
use Rattle.upon_shape.specs.View.{shape_view}
use Rattle.upon_shape.specs.declared.paths.MemberShape.{MemberShape}
use Rattle.upon_shape.specs.declared.paths.MemberShape.TheVariants.{MayFail, Never, Finds, MayMiss}

-- what a member finds
abbrev pub found_view : MemberShape → spec.MemberShape
found_view MayFail = spec.may_fail
found_view Never = spec.finds never
found_view (Finds s) = spec.finds (shape_view s.now)
found_view (MayMiss s) = spec.may_miss (shape_view s.now)
