use Rattle.std.proofs.Common.{List, ℕ, Option, Result, Some}
use Rattle.upon_types.specs.View.{view}
use Rattle.upon_types.specs.declared.error.Error.{Error}
use Rattle.upon_engine.specs.Texts.{texts_of}
use Rattle.upon_tool_pages.specs.Rendering.{SendsPage}
use Rattle.upon_tool.proofs.Outputs.{added_after, none_sent}
use Rattle.upon_tool.proofs.work.write_file.Goals as goal

pub returns-in-Ok-keep : goal.returns-in-Ok-keep
returns-in-Ok-keep g c = λ held tree there has.
    (_, _, c.in-Ok.ensures.start, c.in-Ok-send.ensures.means held tree there has, added_after _ _ _ _ _ c.open.ensures.same c.in-Ok-keep.ensures)

pub returns-in-Err-send : goal.returns-in-Err-send
returns-in-Err-send g c = λ held tree there has.
    let e = texts_of (λ f. (g.dyn-1.0.entry f.vtable).1.formats f.value) (λ f. (g.dyn-2.0.entry f.vtable).1.answers f.value) c.args.engine.now in
    let page = c.args.page.now in
    let Sent : Result (Unit {0}) Error → Option (List ℕ) → Option (List ℕ) → Type 0 = λ r first last. SendsPage page.limits e (Some page.name.now) held.text tree (view page.value.now) r first last in
    none_sent Sent c.args.path.now _ _ _ _ _ c.in-Err-send.failure c.in-Ok.ensures.start c.open.ensures.same c.discard.ensures (c.in-Err-send.ensures.means held tree there has)
