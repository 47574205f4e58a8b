use Rattle.std.proofs.Common.{arith, ◌≡◌, ◌∷◌, ℕ, suc, ◌+◌, inl, inr, refl, subst}
use Rattle.upon_shape_check.specs.Callables.{declared_view}
use Rattle.upon_shape_check.specs.Plan.{plan_view, planned_view}
use Rattle.upon_engine.specs.Engine.{engine_templates}
use Rattle.upon_shape_check.specs.Levels.{IncludeWithin}
use Rattle.upon_shape_check.specs.Verdict.{IsUntoldAmong}
use Rattle.upon_shape_check.proofs.Reaching.{if_err_same, untold_among, untold_more}
use Rattle.upon_shape_check.proofs.levels.how_it_ends.Goals as goal

pub loop-level-preserved : goal.loop-level-preserved
loop-level-preserved g c =
    let declared = declared_view c.args.declared.now in
    let table = engine_templates c.args.engine.now in
    let level = c.loop-level.level in
    let next : suc level ≡ level + 1 = omega arith in
    record {
      within = subst (λ (n : ℕ). IncludeWithin declared table n (plan_view c.settle.new.settled)) next
          (plan_view c.loop-level.settled, c.loop-level.invariant.within, c.in_ok-left.ensures.added);
      left = λ p h. c.loop-level.invariant.left p (c.in_ok-left.ensures.others p h);
    }

pub returns-in_err-is_accepted-clause-untold : goal.returns-in_err-is_accepted-clause-untold
returns-in_err-is_accepted-clause-untold g c =
    let declared = declared_view c.args.declared.now in
    let table = engine_templates c.args.engine.now in
    let asked = planned_view c.args.asked.now in
    let all = asked ∷ plan_view c.args.plan in
    if_err_same c.from_residual.result c.in_err-is_accepted.field-0.0 (IsUntoldAmong declared table all) c.from_residual.ensures.1
    (untold_among declared table all asked c.in_err-is_accepted.field-0.0 (inl refl) c.in_err-is_accepted.ensures.untold)

pub returns-in_err-left-clause-untold : goal.returns-in_err-left-clause-untold
returns-in_err-left-clause-untold g c =
    let declared = declared_view c.args.declared.now in
    let table = engine_templates c.args.engine.now in
    let all = planned_view c.args.asked.now ∷ plan_view c.args.plan in
    if_err_same c.from_residual-in_err-left.result c.in_err-left.field-0.0 (IsUntoldAmong declared table all) c.from_residual-in_err-left.ensures.1
    (untold_more declared table (plan_view c.loop-level.left) all c.in_err-left.field-0.0 (λ p h. inr (c.loop-level.invariant.left p h)) c.in_err-left.ensures.untold)
