use Rattle.upon_types.specs.AstPath.{first_member, rest_members}
use Rattle.upon_lookup.specs.Environment.{root_environment}
use Rattle.upon_render.specs.Roots.{pure_root, root_lends}
use Rattle.upon_render.specs.Stack.{root_of, frames_of}
use Rattle.upon_render.proofs.Searches.{looks_up_made}
use Rattle.upon_render.proofs.stack.Stack.find_made.Goals as goal

pub returns : goal.returns
returns g c ask q =
    let stack = c.args.self.now in
    let root = root_of stack in
    let env = root_environment (pure_root root) in
    looks_up_made ask env (root_lends root) (frames_of stack) c.as_slice.result.now (first_member c.args.var.now) (rest_members c.args.var.now) q c.made_in_frames.result
    c.as_slice.ensures.value (c.made_in_frames.ensures env (root_lends root))
