use Rattle.std.proofs.Common.{Some}
use Rattle.upon_types.specs.View.{view}
use Rattle.upon_tool_many.proofs.Texts.{some_whole, some_within}
use Rattle.upon_tool_many.proofs.pages.answer_of_held.Goals as goal

pub returns-in-Some-clause-means : goal.returns-in-Some-clause-means
returns-in-Some-clause-means g c = λ held tree there has.
    some_within c.args.limits c.in-Some.limits _ (Some c.args.name.now) held.text tree (view c.args.value.now) c.render_template_within.result c.in-Some.is (c.render_template_within.ensures.means held tree there has)

pub returns-in-None-clause-means : goal.returns-in-None-clause-means
returns-in-None-clause-means g c = λ held tree there has.
    some_whole c.args.limits _ (Some c.args.name.now) held.text tree (view c.args.value.now) c.render_template.result c.in-None.is (c.render_template.ensures.means held tree there has)
