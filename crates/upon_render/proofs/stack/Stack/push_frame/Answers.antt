use Rattle.std.proofs.Common.{List, [], ◌∷◌, ◌++◌, ap, ◌∙◌}
use Rattle.upon_lookup.specs.Environment.{root_environment}
use Rattle.upon_render.specs.Frames.{frames_over}
use Rattle.upon_render.specs.Roots.{pure_root}
use Rattle.upon_render.specs.declared.stack.Frame.{Frame}
use Rattle.upon_render.proofs.Searches.{frames_over-push}
use Rattle.upon_render.proofs.stack.Stack.push_frame.Goals as goal

pub returns-clause-environment : goal.returns-clause-environment
returns-clause-environment g c =
    let below = root_environment (pure_root c.args.self.now.root) in
    let items = c.push_reserved.ensures.items ∙ ap (λ (l : List Frame). l ++ c.args.frame ∷ []) c.reserve.ensures.items in
    ap (frames_over below) items ∙ frames_over-push below c.args.self.now.frames.items c.args.frame
