use Rattle.std.proofs.Common.{IfErr, sym, subst}
use Rattle.upon_tool.specs.Work.{checked_files, IsUnreadOf}
use Rattle.upon_tool.proofs.Filled.{work_listed, work_rendered}
use Rattle.upon_tool.proofs.ManyPages.{work_built, work_each}
use Rattle.upon_tool.proofs.work.do_work.Goals as goal

pub returns-in-Render-clause-ends : goal.returns-in-Render-clause-ends
returns-in-Render-clause-ends g c = work_rendered (g.R.Sources.world c.args.rt.now) c.args.work c.in-Render.page c.in-Render.path _ _ c.run_page.result _ _ _ _ c.in-Render.is c.run_page.ensures.ends c.run_page.ensures.filed

pub returns-in-Names-clause-ends : goal.returns-in-Names-clause-ends
returns-in-Names-clause-ends g c = work_listed (g.R.Sources.world c.args.rt.now) c.args.work c.in-Names.name c.in-Names.json _ _ c.list.result _ _ _ c.in-Names.is c.list.ensures.lists

pub returns-in-Each-clause-ends : goal.returns-in-Each-clause-ends
returns-in-Each-clause-ends g c = work_each (g.R.Sources.world c.args.rt.now) c.args.work c.in-Each.value c.in-Each.asked c.in-Each.is_terminal _ _ c.show_each.result _ _ _ c.in-Each.is c.show_each.ensures.well

pub returns-in-Build-clause-ends : goal.returns-in-Build-clause-ends
returns-in-Build-clause-ends g c = work_built (g.R.Sources.world c.args.rt.now) c.args.work c.in-Build.value c.in-Build.asked c.in-Build.is_terminal _ _ c.show_build.result _ _ _ c.in-Build.is c.show_build.ensures.well

pub returns-in-Check-clause-refused : goal.returns-in-Check-clause-refused
returns-in-Check-clause-refused g c = subst (λ work. IfErr c.check_all.result (IsUnreadOf (g.R.Sources.world c.args.rt.now) (checked_files work))) (sym c.in-Check.is) c.check_all.ensures.refused
