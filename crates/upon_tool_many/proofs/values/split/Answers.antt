use Rattle.upon_types.specs.View.{vals_view}
use Rattle.upon_tool_many.proofs.Keys.{no_list_there, none_there, split_at}
use Rattle.upon_tool_many.proofs.values.split.Goals as goal

pub returns-in_err-remove-clause-none : goal.returns-in_err-remove-clause-none
returns-in_err-remove-clause-none c = λ none items listed. none_there c.args.context c.in-Ok.others c.args.key.now items c.in-Ok.ensures.entries c.in_err-remove.ensures.value listed

pub returns-in_err-items-clause-none : goal.returns-in_err-items-clause-none
returns-in_err-items-clause-none c = λ none items listed.
    no_list_there c.args.context c.in-Ok.others c.args.key.now c.in_ok-remove.field-0 items c.in-Ok.ensures.entries c.in_ok-remove.ensures.value c.in_err-items.ensures listed

pub returns-clause-split : goal.returns-clause-split
returns-clause-split c =
    split_at c.args.context c.in-Ok.others c.remove.new.self c.args.key.now c.in_ok-remove.field-0 (vals_view c.in_ok-items.items.items) c.in-Ok.ensures.entries c.in_ok-remove.ensures.value c.in_ok-items.ensures c.in_ok-remove.ensures.updates
