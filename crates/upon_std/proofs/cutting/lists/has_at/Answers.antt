use Rattle.std.proofs.Common.{ap, ◌∙◌}
use Rattle.std.specs.Prelude.{unwrap_or}
use Rattle.upon_types.specs.Same.{val_eq}
use Rattle.upon_types.specs.Val.{none_val}
use Rattle.upon_types.specs.View.{view}
use Rattle.upon_types.proofs.Views.{view-None}
use Rattle.upon_std.proofs.cutting.lists.has_at.Goals as goal

pub returns-in-None : goal.returns-in-None
returns-in-None c =
    c.eq.ensures ∙ ap (λ v. val_eq v (view c.args.wanted.now)) (view-None ∙ ap (λ o. unwrap_or o none_val) c.in-None.ensures)
