use Rattle.std.proofs.Common.{◌≡◌, subst, sym, ◌∙◌, Some, None, option_map}
use Rattle.upon_render.specs.Stack.{IsLoop}
use Rattle.upon_render.specs.Cursor.{advance}
use Rattle.upon_render.specs.Loop.{cursor, is_lent_loop}
use Rattle.upon_render.specs.declared.iter.LoopState.{LoopState}
use Rattle.upon_render.specs.declared.stack.Frame.{Frame}
use Rattle.upon_render.specs.declared.stack.Frame.TheVariants.{Loop}
use Rattle.upon_render.proofs.Tops.{last_is, same_top, set_last}
use Rattle.upon_render.proofs.stack.Stack.iterate_loop.Goals as goal

pub unreachable-requires : goal.unreachable-requires
unreachable-requires g c =
    let P : Frame → Type 0 = λ frame. IsLoop (Some frame) in
    subst P c.in-Scope.is (last_is IsLoop c.args.self.now.frames c.len-last.result c.index_mut.result.now c.len-last.ensures c.index_mut.ensures.value c.requires c.requires)

pub unreachable-requires-in-Entry : goal.unreachable-requires-in-Entry
unreachable-requires-in-Entry g c =
    let P : Frame → Type 0 = λ frame. IsLoop (Some frame) in
    subst P c.in-Entry.is (last_is IsLoop c.args.self.now.frames c.len-last.result c.index_mut.result.now c.len-last.ensures c.index_mut.ensures.value c.requires c.requires)

pub unreachable-requires-in-Var : goal.unreachable-requires-in-Var
unreachable-requires-in-Var g c =
    let P : Frame → Type 0 = λ frame. IsLoop (Some frame) in
    subst P c.in-Var.is (last_is IsLoop c.args.self.now.frames c.len-last.result c.index_mut.result.now c.len-last.ensures c.index_mut.ensures.value c.requires c.requires)

pub unreachable-requires-in-Boundary : goal.unreachable-requires-in-Boundary
unreachable-requires-in-Boundary g c =
    let P : Frame → Type 0 = λ frame. IsLoop (Some frame) in
    subst P c.in-Boundary.is (last_is IsLoop c.args.self.now.frames c.len-last.result c.index_mut.result.now c.len-last.ensures c.index_mut.ensures.value c.requires c.requires)

same_loop : (state next : LoopState) → Loop state ≡ Loop next → state ≡ next
same_loop state next is = cc

pub returns-clause-frames : goal.returns-clause-frames
returns-clause-frames g c below state is =
    let frames = c.args.self.now.frames in
    let n = c.len-last.result in
    let old : state ≡ c.in-Loop.state =
    same_loop state c.in-Loop.state (same_top below frames (Loop state) c.index_mut.result.now n is c.len-last.ensures c.index_mut.ensures.value c.requires ∙ c.in-Loop.is) in
    let next = c.iterate.new.self in
    let P : LoopState → Type 0 = λ s. option_map (λ _. cursor next) c.iterate.result ≡ advance (cursor s) in
    let Q : LoopState → Type 0 = λ s. c.iterate.result ≡ None → cursor next ≡ cursor s in
    let R : LoopState → Type 0 = λ s. is_lent_loop next ≡ is_lent_loop s in
    (next, (subst P (sym old) c.iterate.ensures.next, subst Q (sym old) c.iterate.ensures.end, subst R (sym old) c.iterate.ensures.lent, set_last below frames (Loop state) (Loop next) n is c.len-last.ensures c.requires))
