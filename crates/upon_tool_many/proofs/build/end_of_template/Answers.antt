use Rattle.std.proofs.Common.{inl, inr, refl, subst}
use Rattle.upon_types.specs.View.{view}
use Rattle.upon_engine.specs.Texts.{texts_of}
use Rattle.upon_tool_many.specs.Build.{IsPageText}
use Rattle.upon_tool_many.proofs.build.end_of_template.Goals as goal

pub returns-in-Ok : goal.returns-in-Ok
returns-in-Ok g c =
    let e = texts_of (λ f. (g.dyn-1.0.entry f.vtable).1.formats f.value) (λ f. (g.dyn-2.0.entry f.vtable).1.answers f.value) c.args.engine.now in
    let text = subst (λ source. IsPageText e c.args.asked.now (view c.args.context.now) source c.page_text-text.result) c.as_str.ensures.value c.page_text-text.ensures in
    inl (c.in-Ok.source, c.page_text-text.result, c.in-Ok.ensures, text, c.end_with.ensures)

pub returns-in-Err : goal.returns-in-Err
returns-in-Err g c = inr (c.in-Err.fault, refl, c.in-Err.ensures, refl)
