use Rattle.std.proofs.Common.{◌≡◌, ◌-◌, ◌+◌, ◌++◌, List, [], ◌∷◌, length, take, sym, ap, ◌∙◌, arith}
use Rattle.upon_render.specs.declared.stack.Frame.{Frame}
use Rattle.upon_render.proofs.Tops.{without_last}
use Rattle.upon_render.proofs.stack.Stack.drop_frame.Goals as goal

pub returns-clause-frames : goal.returns-clause-frames
returns-clause-frames g c =
    let frames = c.args.self.now.frames.items in
    let count : (c.len-last.result - 1) + 1 ≡ length frames = omega (arith, c.requires, c.len-last.ensures) in
    let last = without_last frames (c.len-last.result - 1) count in
    (last.0, last.1 ∙ ap (λ (fs : List Frame). fs ++ last.0 ∷ []) (sym c.truncate.ensures.items))
