use Rattle.std.proofs.Common.{IfErr, IfOk, string_bytes, subst, sym}
use Rattle.upon_engine.specs.Texts.{texts_of}
use Rattle.upon_calls.specs.Work.{IsAbsent, WorkFails, WorkFaults, WorkGives}
use Rattle.upon_calls.proofs.CheckedPages.{tells_of}
use Rattle.upon_calls.proofs.work.do_work.Goals as goal

pub returns-in-Render-clause-gives : goal.returns-in-Render-clause-gives
returns-in-Render-clause-gives g c =
    subst (λ w. IfOk c.render_named.result (λ text. WorkGives c.args.limits.now (texts_of (λ f. (g.dyn-1.0.entry f.vtable).1.formats f.value) (λ f. (g.dyn-2.0.entry f.vtable).1.answers f.value) c.args.engine.now) w (string_bytes text))) (sym c.in-Render.is) c.render_named.ensures.gives

pub returns-in-Render-clause-fails : goal.returns-in-Render-clause-fails
returns-in-Render-clause-fails g c =
    subst (λ w. IfErr c.render_named.result (WorkFails (WorkFaults c.args.limits.now (texts_of (λ f. (g.dyn-1.0.entry f.vtable).1.formats f.value) (λ f. (g.dyn-2.0.entry f.vtable).1.answers f.value) c.args.engine.now) w) (IsAbsent (texts_of (λ f. (g.dyn-1.0.entry f.vtable).1.formats f.value) (λ f. (g.dyn-2.0.entry f.vtable).1.answers f.value) c.args.engine.now) w))) (sym c.in-Render.is) c.render_named.ensures.fails

pub returns-in-RenderText-clause-gives : goal.returns-in-RenderText-clause-gives
returns-in-RenderText-clause-gives g c =
    subst (λ w. IfOk c.render_text.result (λ text. WorkGives c.args.limits.now (texts_of (λ f. (g.dyn-1.0.entry f.vtable).1.formats f.value) (λ f. (g.dyn-2.0.entry f.vtable).1.answers f.value) c.args.engine.now) w (string_bytes text))) (sym c.in-RenderText.is) c.render_text.ensures.gives

pub returns-in-RenderText-clause-fails : goal.returns-in-RenderText-clause-fails
returns-in-RenderText-clause-fails g c =
    subst (λ w. IfErr c.render_text.result (WorkFails (WorkFaults c.args.limits.now (texts_of (λ f. (g.dyn-1.0.entry f.vtable).1.formats f.value) (λ f. (g.dyn-2.0.entry f.vtable).1.answers f.value) c.args.engine.now) w) (IsAbsent (texts_of (λ f. (g.dyn-1.0.entry f.vtable).1.formats f.value) (λ f. (g.dyn-2.0.entry f.vtable).1.answers f.value) c.args.engine.now) w))) (sym c.in-RenderText.is) c.render_text.ensures.fails

pub returns-in-Fit-clause-gives : goal.returns-in-Fit-clause-gives
returns-in-Fit-clause-gives g c =
    subst (λ w. IfOk c.misfits.result (λ text. WorkGives c.args.limits.now (texts_of (λ f. (g.dyn-1.0.entry f.vtable).1.formats f.value) (λ f. (g.dyn-2.0.entry f.vtable).1.answers f.value) c.args.engine.now) w (string_bytes text))) (sym c.in-Fit.is)
    (tells_of _ _ c.misfits.result c.requires c.misfits.ensures.fits c.misfits.ensures.unsure c.misfits.ensures.shows)
