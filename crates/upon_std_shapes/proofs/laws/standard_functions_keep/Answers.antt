use Rattle.upon_std_shapes.proofs.Kept.{all_kept, giving_kept}
use Rattle.upon_std_shapes.proofs.laws.standard_functions_keep.Goals as goal

pub returns : goal.returns
returns c = record { signatures = all_kept; giving = giving_kept }
