use Rattle.std.proofs.Common.{◌-◌, subst, ap, ◌∙◌, take, Some}
use Rattle.upon_render.specs.Stack.{IsLoop, top}
use Rattle.upon_render.specs.declared.stack.Frame.{Frame}
use Rattle.upon_render.proofs.Tops.{last_is, last_split, top-append}
use Rattle.upon_render.proofs.stack.Stack.last_loop_state_mut.Goals as goal

pub unreachable-requires : goal.unreachable-requires
unreachable-requires g c =
    let P : Frame → Type 0 = λ frame. IsLoop (Some frame) in
    subst P c.in-Scope.is (last_is IsLoop c.args.self.now.frames c.len-last.result c.index_mut.result.now c.len-last.ensures c.index_mut.ensures.value c.requires c.requires)

pub unreachable-requires-in-Entry : goal.unreachable-requires-in-Entry
unreachable-requires-in-Entry g c =
    let P : Frame → Type 0 = λ frame. IsLoop (Some frame) in
    subst P c.in-Entry.is (last_is IsLoop c.args.self.now.frames c.len-last.result c.index_mut.result.now c.len-last.ensures c.index_mut.ensures.value c.requires c.requires)

pub unreachable-requires-in-Var : goal.unreachable-requires-in-Var
unreachable-requires-in-Var g c =
    let P : Frame → Type 0 = λ frame. IsLoop (Some frame) in
    subst P c.in-Var.is (last_is IsLoop c.args.self.now.frames c.len-last.result c.index_mut.result.now c.len-last.ensures c.index_mut.ensures.value c.requires c.requires)

pub unreachable-requires-in-Boundary : goal.unreachable-requires-in-Boundary
unreachable-requires-in-Boundary g c =
    let P : Frame → Type 0 = λ frame. IsLoop (Some frame) in
    subst P c.in-Boundary.is (last_is IsLoop c.args.self.now.frames c.len-last.result c.index_mut.result.now c.len-last.ensures c.index_mut.ensures.value c.requires c.requires)

pub returns : goal.returns
returns g c =
    let frames = c.args.self.now.frames in
    let e = last_split frames c.len-last.result c.index_mut.result.now c.len-last.ensures c.index_mut.ensures.value c.requires in
    ap top e ∙ top-append (take (c.len-last.result - 1) frames.items) c.index_mut.result.now ∙ ap (λ (x : Frame). Some x) c.in-Loop.is
