-- Paths in no value at all, and which values a shape takes.
use Rattle.std.proofs.Common.{◌≡◌, List, [], ◌∷◌, Option, Some, None, Box, Global, refl, ap, ◌∙◌}
use Rattle.std.specs.Option.{is_some}
use Rattle.upon_types.specs.declared.types.ast.path.AccessOp.{AccessOp}
use Rattle.upon_types.specs.Path.{Access, by_index, by_key, Member}
use Rattle.upon_shape_spec.specs.Paths.{finds, takes_lists, takes_maps, member_shape, after_member_shape, walk_shape}
use Rattle.upon_shape_spec.specs.Shape.{never}
use Rattle.upon_shape.specs.View.{lists_view, maps_view}
use Rattle.upon_shape.specs.declared.shape.Keys.{Keys}
use Rattle.upon_shape.specs.declared.shape.Shape.{Shape}

pub takes_lists-view : (l : Option (Box Shape Global)) → takes_lists (lists_view l) ≡ is_some l
takes_lists-view None = refl
takes_lists-view (Some s) = refl

pub takes_maps-view : (m : Option (Keys Shape)) → takes_maps (maps_view m) ≡ is_some m
takes_maps-view None = refl
takes_maps-view (Some ks) = refl

member-never : (op : AccessOp) (access : Access) → member_shape op access never ≡ finds never
member-never op (by_index n span) = refl
member-never op (by_key word) = refl

pub walk-never : (members : List Member) → walk_shape members never ≡ Some never
walk-never [] = refl
walk-never (m ∷ ms) = ap (λ f. after_member_shape f (walk_shape ms)) (member-never m.op m.access) ∙ walk-never ms
