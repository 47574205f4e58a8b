use Rattle.std.proofs.Common.{◌≡◌, ap, subst, ◌∙◌, replicate, arith}
use Rattle.upon_functions.specs.Says.{arguments_view, Says}
use Rattle.upon_std.specs.Table.{standard_answer}
use Rattle.upon_types.specs.Val.{none_val}
use Rattle.upon_tool_messages.proofs.judge.expected.Goals as goal

pub returns : goal.returns
returns c =
    let whole : c.loop.counter ≡ c.args.arguments = omega arith in
    let values : arguments_view c.as_slice.result.now ≡ replicate c.args.arguments none_val =
    ap arguments_view c.as_slice.ensures.value ∙ c.loop.invariant ∙ ap (λ n. replicate n none_val) whole in
    c.wanted_by.ensures (standard_answer c.args.function (replicate c.args.arguments none_val))
    (subst (λ vs. Says c.call.result (standard_answer c.args.function vs)) values c.call.ensures.says)
