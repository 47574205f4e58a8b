use Rattle.upon_std_shapes.proofs.Added.{added_kept, all_added_kept}
use Rattle.upon_std_shapes.proofs.laws.what_is_added_is_kept.Goals as goal

pub returns : goal.returns
returns c = record { each = added_kept; all = all_added_kept }
