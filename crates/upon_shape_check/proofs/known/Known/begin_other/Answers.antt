use Rattle.std.proofs.Common.{[], ◌∷◌, ◌++◌, ap, ◌∙◌, sym}
use Rattle.upon_shape_check.specs.declared.known.Block.{Block}
use Rattle.upon_shape_check.proofs.Stepping.{begun, kept_names, kept_other, none_open}
use Rattle.upon_shape_check.proofs.known.Known.begin_other.Goals as goal

pub returns-in_ok-push-in-Some-Body : goal.returns-in_ok-push-in-Some-Body
returns-in_ok-push-in-Some-Body c =
    let arm = λ (b : Block). c.pop.new.self.items ++ b ∷ [] in
    begun _ _ _ _ _ c.pop.new.self.items _ _ _ c.in-Some-Body.change _ c.in-Some-Body.other (c.in-Some-Body.ensures.items ∙ ap arm c.in-Some-Body.field-0-is) c.go_back.ensures c.in_ok-change-in-Some-Body.ensures.narrowed
    c.in_ok-change-in-Some-Body.ensures.undo c.in_ok-push-in-Some-Body.ensures.items

pub returns-in_ok-push-in-Some-Other : goal.returns-in_ok-push-in-Some-Other
returns-in_ok-push-in-Some-Other c =
    let arm = λ (b : Block). c.pop.new.self.items ++ b ∷ [] in
    kept_other _ _ _ _ _ _ _ _ (c.in-Some-Other.ensures.items ∙ ap arm c.in-Some-Other.field-0-is) c.in_ok-push-in-Some-Other.ensures.items

pub returns-in_ok-push-in-Some-Names : goal.returns-in_ok-push-in-Some-Names
returns-in_ok-push-in-Some-Names c =
    let arm = λ (b : Block). c.pop.new.self.items ++ b ∷ [] in
    kept_names _ _ _ _ _ _ _ (c.in-Some-Names.ensures.items ∙ ap arm c.in-Some-Names.field-0-is) c.in_ok-push-in-Some-Names.ensures.items

pub returns-in-None : goal.returns-in-None
returns-in-None c = none_open _ _ _ _ _ (sym c.args.self.now.blocks.ok.0 ∙ c.in-None.ensures.cases.0) (sym c.pop.new.self.ok.0 ∙ c.in-None.ensures.cases.1)
