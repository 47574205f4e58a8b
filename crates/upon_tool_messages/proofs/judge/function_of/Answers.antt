use Rattle.std.proofs.Common.{◌<◌, bytes_eq, length, arith, ap, sym, ◌∙◌}
use Rattle.upon_std.specs.Table.{standard_name}
use Rattle.upon_std.specs.declared.table.StandardFunction.{StandardFunction}
use Rattle.upon_tool_messages.proofs.Found.{first_found, none_more}
use Rattle.upon_tool_messages.proofs.judge.function_of.Goals as goal

pub returns-then-eq : goal.returns-then-eq
returns-then-eq c =
    let inside : c.loop-function.function-index < length c.args.functions.now = omega arith in
    sym (first_found (λ (function : StandardFunction). bytes_eq (standard_name function) c.args.name.now) c.args.functions.now c.loop-function.function-index _ inside c.loop-function.invariant
    (ap (λ name. bytes_eq name c.args.name.now) (sym c.name.ensures) ∙ sym c.eq.ensures ∙ c.if-eq.true))

pub loop-function-preserved : goal.loop-function-preserved
loop-function-preserved c =
    let inside : c.loop-function.function-index < length c.args.functions.now = omega arith in
    none_more (λ (function : StandardFunction). bytes_eq (standard_name function) c.args.name.now) c.args.functions.now c.loop-function.function-index _ inside c.loop-function.invariant
    (ap (λ name. bytes_eq name c.args.name.now) (sym c.name.ensures) ∙ sym c.eq.ensures ∙ c.if-eq.false)
