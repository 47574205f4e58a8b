use Rattle.upon_shape_check.proofs.Ends.{text_unless_deep}
use Rattle.upon_shape_check.proofs.laws.an_accepted_template_has_a_text.Goals as goal

pub returns : goal.returns
returns g c = λ declared name s held tree v result ends here has keeps fits said.
    text_unless_deep _ _ c.args.engine.now declared name s held tree v result ends here has keeps fits said
