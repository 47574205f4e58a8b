-- Shapes in rows, and what loops go over.
use Rattle.std.proofs.Common.{◌≡◌, ◌≢◌, suc, List, [], ◌∷◌, length, Option, Some, None, Bool, true, false, ◌&&◌, ◌||◌, cond, Box, Global, refl, sym, ap, ◌∙◌}
use Rattle.upon_types.specs.AstPath.{loop_vars_of}
use Rattle.upon_types.specs.declared.types.ast.KeyValue.{KeyValue as AstKeyValue}
use Rattle.upon_types.specs.declared.types.ast.LoopVars.{LoopVars as AstLoopVars}
use Rattle.upon_types.specs.declared.types.ast.LoopVars.TheVariants.{KeyValue as KeyValueVars}
use Rattle.upon_shape_spec.specs.Accepted.{value_shape}
use Rattle.upon_shape_spec.specs.Paths.{takes_plain}
use Rattle.upon_shape_spec.specs.Shape.{Shape, no_list, one_of}
use Rattle.upon_shape_spec.specs.Wider.{wider, all_wider}
use Rattle.upon_shape.specs.View.{lists_view, maps_view, plain_view, shape_view}
use Rattle.upon_shape.specs.declared.shape.Keys.{Keys as CodeKeys}
use Rattle.upon_shape.specs.declared.shape.Plain.{Plain as CodePlain}
use Rattle.upon_shape.specs.declared.shape.Shape.{Shape as CodeShape, OneOf}
use Rattle.upon_shape.proofs.ShapeViews.{view-OneOf}
use Rattle.upon_shape_check.specs.Loops.{looped}

and_false : (b : Bool) → b && false ≡ false
and_false true = refl
and_false false = refl

-- there are as many
pub all_wider-lengths : (ss ts : List Shape) → length ss ≢ length ts → all_wider ss ts ≡ false
all_wider-lengths [] [] differ = absurd (differ refl)
all_wider-lengths [] (t ∷ ts) differ = refl
all_wider-lengths (s ∷ ss) [] differ = refl
all_wider-lengths (s ∷ ss) (t ∷ ts) differ = ap (λ b. wider s t && b) (all_wider-lengths ss ts (λ e. differ (ap suc e))) ∙ and_false (wider s t)

-- ---- loops
pub looped_pair : (names : AstLoopVars) (both : AstKeyValue) (shape : CodeShape) (p : CodePlain) (l : Option (Box CodeShape Global)) (m : Option (CodeKeys CodeShape)) (v : CodeShape) → names ≡ KeyValueVars both → shape ≡ OneOf p l m → l ≡ None
    → takes_plain (plain_view p) ≡ false → shape_view v ≡ value_shape (maps_view m) → Some (shape_view v) ≡ looped (loop_vars_of names) (shape_view shape)
looped_pair names both shape p l m v vars is none plain e =
    let seen : shape_view shape ≡ one_of (plain_view p) no_list (maps_view m) = ap shape_view is ∙ (view-OneOf p l m ∙ ap (λ k. one_of (plain_view p) (lists_view k) (maps_view m)) none) in
    ap Some e
    ∙ sym
    (ap (λ n. looped (loop_vars_of n) (shape_view shape)) vars
    ∙ (ap (looped (loop_vars_of (KeyValueVars both))) seen ∙ ap (λ b. cond (b || false) None (Some (value_shape (maps_view m)))) plain))
