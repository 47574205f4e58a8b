use Rattle.upon_render.specs.Stack.{IsVar}
use Rattle.upon_render.proofs.Tops.{popped_is}
use Rattle.upon_render.proofs.stack.Stack.pop_var.Goals as goal

pub unreachable-requires : goal.unreachable-requires
unreachable-requires g c = popped_is IsVar _ _ _ c.in-Scope.ensures.frames c.requires

pub unreachable-requires-in-Entry : goal.unreachable-requires-in-Entry
unreachable-requires-in-Entry g c = popped_is IsVar _ _ _ c.in-Entry.ensures.frames c.requires

pub unreachable-requires-in-Loop : goal.unreachable-requires-in-Loop
unreachable-requires-in-Loop g c = popped_is IsVar _ _ _ c.in-Loop.ensures.frames c.requires

pub unreachable-requires-in-Boundary : goal.unreachable-requires-in-Boundary
unreachable-requires-in-Boundary g c = popped_is IsVar _ _ _ c.in-Boundary.ensures.frames c.requires
