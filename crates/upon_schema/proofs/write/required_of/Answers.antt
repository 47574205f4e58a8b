use Rattle.std.proofs.Common.{List, sym, ap, ◌∙◌}
use Rattle.upon_types.specs.View.{entries_view}
use Rattle.upon_types.proofs.Views.{Entry}
use Rattle.upon_shape.specs.View.{keys_view}
use Rattle.upon_schema.specs.Written.{required_in, vals_ahead}
use Rattle.upon_schema.proofs.Writing.{vals_ahead-none}
use Rattle.upon_schema.proofs.write.required_of.Goals as goal

pub returns : goal.returns
returns c =
    let names = c.loop-name.names.items in
    sym (vals_ahead-none names)
    ∙ ap (λ (es : List Entry). vals_ahead names (required_in (keys_view c.args.keys.now) (entries_view es))) (sym c.in-None.ensures.steps.0)
    ∙ c.loop-name.invariant
