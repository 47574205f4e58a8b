use Rattle.std.proofs.Common.{◌≡◌, true, take}
use Rattle.upon_shape.specs.View.{shape_view}
use Rattle.upon_calls.specs.Templates.{lent_pairs}
use Rattle.upon_tool.specs.Fitting.{EachFits}
use Rattle.upon_tool.proofs.fitting.each_fits.Given as goal

-- the files so far fit, if none of them was said not to
abbrev pub invariant-loop-name : goal.invariant-loop-name
invariant-loop-name g l = l.each ≡ true → EachFits (g.R.Sources.world l.rt) l.on.escape l.on.standard (lent_pairs l.on.folder.now) (shape_view l.on.shape.now) (take l.name-index l.names)
