use Rattle.upon_render.specs.Stack.{IsBoundary}
use Rattle.upon_render.proofs.Tops.{popped_is}
use Rattle.upon_render.proofs.stack.Stack.pop_boundary.Goals as goal

pub unreachable-requires : goal.unreachable-requires
unreachable-requires g c = popped_is IsBoundary _ _ _ c.in-Scope.ensures.frames c.requires

pub unreachable-requires-in-Entry : goal.unreachable-requires-in-Entry
unreachable-requires-in-Entry g c = popped_is IsBoundary _ _ _ c.in-Entry.ensures.frames c.requires

pub unreachable-requires-in-Var : goal.unreachable-requires-in-Var
unreachable-requires-in-Var g c = popped_is IsBoundary _ _ _ c.in-Var.ensures.frames c.requires

pub unreachable-requires-in-Loop : goal.unreachable-requires-in-Loop
unreachable-requires-in-Loop g c = popped_is IsBoundary _ _ _ c.in-Loop.ensures.frames c.requires
