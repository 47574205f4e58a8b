use Rattle.std.proofs.Common.{◌-◌, arith, sym, subst, take, Some}
use Rattle.upon_render.specs.Stack.{IsLoop}
use Rattle.upon_render.specs.declared.stack.Frame.{Frame}
use Rattle.upon_render.proofs.Tops.{is_top, split_last}
use Rattle.upon_render.proofs.stack.Stack.is_in_loop.Goals as goal

pub returns-in-Loop : goal.returns-in-Loop
returns-in-Loop g c _ =
    let frames = c.args.self.now.frames in
    let count = c.len-count.ensures in
    let some = c.if-count-eq0.false in
    let last = split_last frames.items (c.len-count.result - 1) c.index.result.now (omega (arith, frames.ok.0)) c.index.ensures in
    let P : Frame → Type 0 = λ frame. IsLoop (Some frame) in
    is_top IsLoop frames.items (take (c.len-count.result - 1) frames.items) c.index.result.now last (subst P (sym c.in-Loop.is) tt)
