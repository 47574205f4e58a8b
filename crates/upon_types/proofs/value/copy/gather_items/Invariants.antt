use Rattle.std.proofs.Common.{◌≡◌, map, take, drop}
use Rattle.upon_types.specs.CopyTasks.{finished}
use Rattle.upon_types.specs.View.{view}
use Rattle.upon_types.proofs.value.copy.gather_items.Given as goal

abbrev pub invariant-loop-i : goal.invariant-loop-i
invariant-loop-i l = record {
  taken : map view l.copies.items ≡ take l._i (finished l.initial.done.items);
  left : finished l.done.items ≡ drop l._i (finished l.initial.done.items);
}
