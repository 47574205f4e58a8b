use Rattle.upon_shape_spec.proofs.CutShapes.{cut_not_deeper, cut_wider, own_cut_fits}
use Rattle.upon_shape_spec.proofs.laws.shapes.cut_shape_fits.Goals as goal

pub returns-clause-as_wide : goal.returns-clause-as_wide
returns-clause-as_wide c = cut_wider

pub returns-clause-no_deeper : goal.returns-clause-no_deeper
returns-clause-no_deeper c = cut_not_deeper

pub returns-clause-fits : goal.returns-clause-fits
returns-clause-fits c = own_cut_fits
