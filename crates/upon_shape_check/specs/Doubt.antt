-- What a doubt of a program denotes.
use Rattle.std.specs.Prelude.{List, [], ◌∷◌, map, Option, Some, None}
use Rattle.upon_shape_spec.specs.Doubts as spec
use Rattle.upon_shape.specs.View.{shape_view}
use Rattle.upon_shape_check.specs.Scope.{scope_view}
use Rattle.upon_shape_check.specs.declared.doubt.Doubt.{Doubt}
use Rattle.upon_shape_check.specs.declared.doubt.Unsure.{Unsure}
use Rattle.upon_shape_check.specs.declared.doubt.Unsure.TheVariants.{HasMember, LoopHasMember, TakesValues, HasText, HasItems, IsIncluded}

-- what is not sure
abbrev pub unsure_view : Unsure → spec.Unsure
unsure_view (HasMember shape) = spec.has_member (shape_view shape)
unsure_view LoopHasMember = spec.loop_has_member
unsure_view (TakesValues shapes) = spec.takes_values (map shape_view shapes.items)
unsure_view (HasText shape) = spec.has_text (shape_view shape)
unsure_view (HasItems shape) = spec.has_items (shape_view shape)
unsure_view (IsIncluded name scope) = spec.is_included name.now (scope_view scope)

-- a doubt
abbrev pub doubt_view : Doubt → spec.Doubt
doubt_view d = record { place = d.place; unsure = unsure_view d.unsure }

-- doubts, in their order
abbrev pub doubts_view : List Doubt → List spec.Doubt
doubts_view ds = map doubt_view ds

-- a doubt, or none
abbrev pub maybe_doubt : Option Doubt → List spec.Doubt
maybe_doubt None = []
maybe_doubt (Some d) = doubt_view d ∷ []
