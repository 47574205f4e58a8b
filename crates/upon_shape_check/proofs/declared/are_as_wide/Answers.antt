use Rattle.std.proofs.Common.{map, sym, ◌∙◌, arith}
use Rattle.std.proofs.lemmas.Grind.{common_steps}
use Rattle.std.proofs.lemmas.List.{length-map}
use Rattle.upon_shape.specs.View.{shape_view}
use Rattle.upon_shape_check.proofs.Shaping.{all_wider-lengths}
use Rattle.upon_shape_check.proofs.declared.are_as_wide.Goals as goal

pub returns-then-wide-shapes : goal.returns-then-wide-shapes
returns-then-wide-shapes c =
    sym
    (all_wider-lengths (map shape_view c.args.wide.now) (map shape_view c.args.shapes.now)
    (λ e. c.if-wide-shapes.true (sym (length-map c.args.wide.now shape_view) ∙ (e ∙ length-map c.args.shapes.now shape_view))))

-- the search finds no proof of these, and takes long
pub returns-then-not-is_as_wide_as : goal.returns-then-not-is_as_wide_as
returns-then-not-is_as_wide_as = grind (arith, common_steps)

pub loop-index-preserved : goal.loop-index-preserved
loop-index-preserved = grind (arith, common_steps)

pub returns : goal.returns
returns = grind (arith, common_steps)
