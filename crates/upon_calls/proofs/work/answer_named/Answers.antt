use Rattle.std.proofs.Common.{Some, true, false, sym, ◌∙◌}
use Rattle.upon_types.specs.View.{view}
use Rattle.upon_vm.specs.Limits.{is_limited}
use Rattle.upon_calls.proofs.Rendering.{some_answered}
use Rattle.upon_calls.proofs.work.answer_named.Goals as goal

pub returns-then-is_limited-clause-means : goal.returns-then-is_limited-clause-means
returns-then-is_limited-clause-means g c = λ held tree there has.
    some_answered c.args.limits.now _ (Some c.args.name.now) held.text tree (view c.args.value.now) (is_limited c.args.limits.now) true c.render_template_within.result (sym c.is_limited.ensures ∙ c.if-is_limited.true) (c.render_template_within.ensures.means held tree there has)

pub returns-else-is_limited-clause-means : goal.returns-else-is_limited-clause-means
returns-else-is_limited-clause-means g c = λ held tree there has.
    some_answered c.args.limits.now _ (Some c.args.name.now) held.text tree (view c.args.value.now) (is_limited c.args.limits.now) false c.render_template.result (sym c.is_limited.ensures ∙ c.if-is_limited.false) (c.render_template.ensures.means held tree there has)
