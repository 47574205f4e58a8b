use Rattle.std.proofs.Common.{◌≡◌, IfOk, ap, subst, ◌∙◌}
use Rattle.std.proofs.lemmas.Int.{to_z-of_z}
use Rattle.std.specs.Int.{w64}
use Rattle.upon_types.specs.Val.{int_val}
use Rattle.upon_types.specs.View.{view}
use Rattle.upon_types.proofs.Views.{view-Integer}
use Rattle.upon_json.proofs.Numbers.{fits_read, read_integer, read_text}
use Rattle.upon_json.proofs.value.number.Goals as goal

pub returns-in-Ok : goal.returns-in-Ok
returns-in-Ok c =
    let text = c.args.text.now in
    let n = c.in-Ok.integer in
    let fits = fits_read text c.parse.result n c.parse.ensures.value.0 c.in-Ok.is in
    view-Integer _ ∙ ap int_val (to_z-of_z w64 n fits) ∙ read_integer text c.parse.result n c.parse.ensures.value.0 c.in-Ok.is

pub returns-in-Err : goal.returns-in-Err
returns-in-Err c =
    let text = c.args.text.now in
    let is = read_text text c.parse.result c.in-Err.field-0 c.parse.ensures.value.0 c.in-Err.is in
    subst (λ v. IfOk c.from_text.result (λ value. view value ≡ v)) is c.from_text.ensures
