use Rattle.std.proofs.Common.{◌∙◌, sym}
use Rattle.upon_shape_check.proofs.Stepping.{left, none_left}
use Rattle.upon_shape_check.proofs.known.Known.leave.Goals as goal

pub returns-in-Some : goal.returns-in-Some
returns-in-Some c = left _ _ _ _ _ _ c.in-Some.ensures.items c.go_outside.ensures

pub returns-in-None : goal.returns-in-None
returns-in-None c = none_left _ _ _ _ (sym c.args.self.now.blocks.ok.0 ∙ c.in-None.ensures.cases.0) (sym c.pop.new.self.ok.0 ∙ c.in-None.ensures.cases.1)
