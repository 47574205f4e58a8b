use Rattle.std.proofs.Common.{rules, ◌<◌, List, ℕ, ap, ◌∙◌, option_map}
use Rattle.upon_types.specs.Pretty.{pretty}
use Rattle.upon_shape_check.specs.Pictures.{hinted, spot_fault, shown}
use Rattle.upon_shape_check.proofs.Showing.{ok_then}
use Rattle.upon_shape_check.proofs.pictures.show.Goals as goal

pub returns : goal.returns
returns c = λ e is.
    let left : ℕ = c.args.pictures.now.left in
    let some : 0 < left = search rules in
    let hint = option_map (λ hint. hint.now) c.args.hint in
    let picture = c.as_str.result.now in
    ok_then c.add.result _ _ c.add.ensures (λ shows. shown picture (record {
      reason = c.args.reason.now;
      hint = hint;
      is = c.as_str.ensures.value ∙ c.in_ok-picture.ensures ∙ ap (λ (text : List ℕ). hinted hint (pretty (spot_fault c.args.place.template.now text c.args.place.span c.args.reason.now))) is;
    }) some shows)
