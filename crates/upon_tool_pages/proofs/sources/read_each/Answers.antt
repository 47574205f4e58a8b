use Rattle.std.proofs.Common.{sym, subst}
use Rattle.upon_tool_many.proofs.Rows.{each_begun, each_ended, each_more, EachSoFar}
use Rattle.upon_tool_pages.specs.Sources.{IsReadFile}
use Rattle.upon_tool_pages.proofs.sources.read_each.Goals as goal

pub loop-name-init : goal.loop-name-init
loop-name-init g c =
    subst (λ left. EachSoFar (IsReadFile (g.R.Sources.world c.args.rt.now) c.args.folder.now) left c.args.listed.entries c.new-files.result.items) (sym c.into_iter-name-iterator.ensures.into_iter_gives.0)
    (each_begun (IsReadFile (g.R.Sources.world c.args.rt.now) c.args.folder.now) c.args.listed.entries c.new-files.result.items c.new-files.ensures.items)

pub loop-name-preserved : goal.loop-name-preserved
loop-name-preserved g c =
    each_more (IsReadFile (g.R.Sources.world c.args.rt.now) c.args.folder.now) _ _ c.args.listed.entries c.loop-name.files.items c.push.new.self.items (c.in-Some.name, c.in-Some.fault) c.in_ok-read_one.field-0 c.in-Some.ensures.steps c.in_ok-push.ensures.items c.in_ok-read_one.ensures c.loop-name.invariant

pub returns : goal.returns
returns g c = each_ended (IsReadFile (g.R.Sources.world c.args.rt.now) c.args.folder.now) _ c.args.listed.entries c.loop-name.files.items c.in-None.ensures.steps.0 c.loop-name.invariant
