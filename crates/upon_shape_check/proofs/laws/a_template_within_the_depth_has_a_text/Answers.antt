use Rattle.upon_shape_check.proofs.Ends.{text_within_depth}
use Rattle.upon_shape_check.proofs.laws.a_template_within_the_depth_has_a_text.Goals as goal

pub returns : goal.returns
returns g c = λ declared name s depth held tree v result ends less here has keeps fits said.
    text_within_depth _ _ c.args.engine.now declared name s depth held tree v result ends less here has keeps fits said
