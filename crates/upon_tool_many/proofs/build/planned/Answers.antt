use Rattle.std.proofs.Common.{sym, subst}
use Rattle.upon_tool_many.specs.Build.{IsPageOf}
use Rattle.upon_tool_many.proofs.Rows.{each_begun, each_ended, each_more, EachSoFar}
use Rattle.upon_tool_many.proofs.build.planned.Goals as goal

pub loop-path-init : goal.loop-path-init
loop-path-init c =
    subst (λ left. EachSoFar IsPageOf left c.args.files.entries c.in_ok-pages.pages.items) (sym c.into_iter-path-iterator.ensures.into_iter_gives.0)
    (each_begun IsPageOf c.args.files.entries c.in_ok-pages.pages.items c.in_ok-pages.ensures.items)

pub loop-path-preserved : goal.loop-path-preserved
loop-path-preserved c =
    each_more IsPageOf _ _ c.args.files.entries c.loop-path.pages.items c.push.new.self.items (c.in-Some.path, c.in-Some.fault) c.in_ok-page_of.field-0 c.in-Some.ensures.steps c.in_ok-push.ensures.items c.in_ok-page_of.ensures c.loop-path.invariant

pub returns : goal.returns
returns c = each_ended IsPageOf _ c.args.files.entries c.loop-path.pages.items c.in-None.ensures.steps.0 c.loop-path.invariant
