use Rattle.std.proofs.Common.{None}
use Rattle.upon_types.specs.View.{view}
use Rattle.upon_tool_many.proofs.Texts.{answers_whole, answers_within}
use Rattle.upon_tool_many.proofs.pages.answer_of_source.Goals as goal

pub returns-in-Some-clause-means : goal.returns-in-Some-clause-means
returns-in-Some-clause-means g c = λ tree has.
    answers_within c.args.limits c.in-Some.limits _ None c.args.source.now tree (view c.args.value.now) c.render_text_within.result c.in-Some.is (c.render_text_within.ensures.means tree has)

pub returns-in-None-clause-means : goal.returns-in-None-clause-means
returns-in-None-clause-means g c = λ tree has.
    answers_whole c.args.limits _ None c.args.source.now tree (view c.args.value.now) c.render_text.result c.in-None.is (c.render_text.ensures.means tree has)
