use Rattle.upon_render.specs.Stack.{IsScope}
use Rattle.upon_render.proofs.Tops.{popped_is}
use Rattle.upon_render.proofs.stack.Stack.pop_scope.Goals as goal

pub unreachable-requires : goal.unreachable-requires
unreachable-requires g c = popped_is IsScope _ _ _ c.in-Entry.ensures.frames c.requires

pub unreachable-requires-in-Var : goal.unreachable-requires-in-Var
unreachable-requires-in-Var g c = popped_is IsScope _ _ _ c.in-Var.ensures.frames c.requires

pub unreachable-requires-in-Loop : goal.unreachable-requires-in-Loop
unreachable-requires-in-Loop g c = popped_is IsScope _ _ _ c.in-Loop.ensures.frames c.requires

pub unreachable-requires-in-Boundary : goal.unreachable-requires-in-Boundary
unreachable-requires-in-Boundary g c = popped_is IsScope _ _ _ c.in-Boundary.ensures.frames c.requires
