use Rattle.std.proofs.Common.{◌≡◌, List, subst}
use Rattle.upon_types.specs.AstPath.{first_member, rest_members}
use Rattle.upon_types.specs.View.{view}
use Rattle.upon_lookup.specs.Environment.{root_environment}
use Rattle.upon_render.specs.Roots.{pure_root, root_lends}
use Rattle.upon_lookup.specs.Settled.{known_path}
use Rattle.upon_render.specs.Stack.{stack_environment, root_of, frames_of, stack_lends}
use Rattle.upon_render.specs.declared.stack.Frame.{Frame}
use Rattle.upon_render.proofs.Searches.{known_by_frames, looks_up_here, looks_up_root}
use Rattle.upon_render.proofs.stack.Stack.find_lent.Goals as goal

pub returns-in-Lent : goal.returns-in-Lent
returns-in-Lent g c ask q =
    let stack = c.args.self.now in
    let root = root_of stack in
    looks_up_here ask (root_environment (pure_root root)) (root_lends root) (frames_of stack) c.as_slice.result.now (first_member c.args.var.now) (rest_members c.args.var.now) q (view c.in-Lent.value.now)
    c.as_slice.ensures.value (c.in-Lent.ensures (root_environment (pure_root root)) (root_lends root))

pub returns-in-Below : goal.returns-in-Below
returns-in-Below g c ask q =
    let stack = c.args.self.now in
    let first = first_member c.args.var.now in
    let rest = rest_members c.args.var.now in
    let root = root_of stack in
    let env = root_environment (pure_root root) in
    let lent = root_lends root in
    let below = subst (λ (l : List Frame). known_by_frames env lent l first rest ≡ known_path env lent first rest) c.as_slice.ensures.value (c.in-Below.ensures env lent) in
    looks_up_root ask (stack_environment stack) (pure_root root) (stack_lends stack first.access) lent first rest q _ below (c.find_in_root.ensures ask q)
