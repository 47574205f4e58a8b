use Rattle.std.proofs.Common.{◌∙◌, sym}
use Rattle.upon_shape_check.proofs.Stepping.{none_popped, pushed}
use Rattle.upon_shape_check.proofs.known.Known.pop.Goals as goal

pub returns-in-Some : goal.returns-in-Some
returns-in-Some c = pushed _ _ _ _ _ c.in-Some.ensures.items

pub returns-in-None : goal.returns-in-None
returns-in-None c = none_popped _ _ _ _ (sym c.args.self.now.operands.ok.0 ∙ c.in-None.ensures.cases.0) (sym c.pop.new.self.ok.0 ∙ c.in-None.ensures.cases.1)
