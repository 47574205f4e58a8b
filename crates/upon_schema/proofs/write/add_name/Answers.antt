use Rattle.std.proofs.Common.{List, Bool, sym, ap, ◌∙◌}
use Rattle.upon_types.specs.Val.{Val, val_then}
use Rattle.upon_types.specs.declared.value.Value.{Value}
use Rattle.upon_schema.specs.Written.{name_if, vals_ahead}
use Rattle.upon_schema.proofs.Writing.{vals_ahead-push}
use Rattle.upon_schema.proofs.write.add_name.Goals as goal

pub returns-in_ok-push : goal.returns-in_ok-push
returns-in_ok-push c =
    let names = c.args.names.now.items in
    λ rest. ap (λ (vs : List Value). vals_ahead vs rest) c.in_ok-push.ensures.items
    ∙ vals_ahead-push names c.in_ok-from_text.field-0 rest
    ∙ ap (λ (v : Val). vals_ahead names (val_then v rest)) c.in_ok-from_text.ensures
    ∙ ap (λ (b : Bool). vals_ahead names (name_if b c.args.name.now rest)) (sym c.if-is_there.true)
