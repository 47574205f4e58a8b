use Rattle.std.proofs.Common.{◌∙◌, sym}
use Rattle.upon_types.proofs.ValueEquality.{val_eq-Decides}
use Rattle.upon_types.specs.View.{view}
use Rattle.upon_types.proofs.value.same.is_same.Goals as goal

pub returns : goal.returns
returns c =
    let decided = val_eq-Decides (view c.args.a.now) (view c.args.b.now) in
    (λ h. decided.0 (sym c.eq.ensures ∙ h), λ one. c.eq.ensures ∙ decided.1 one)
