use Rattle.std.proofs.Common.{◌≡◌, ℕ, List, take}
use Rattle.upon_shape_check.specs.Callables.{declared_view}
use Rattle.upon_std_shapes.specs.Tables.{with_all_declared}
use Rattle.upon_std_shapes.proofs.declare.declare_standard.Given as goal

abbrev pub invariant-loop-function : goal.invariant-loop-function
invariant-loop-function l = record {
  callables : (name : List ℕ) → (declared_view l.declared).callables name ≡ with_all_declared (take l.function-index l.functions) (declared_view l.initial.declared).callables name;
  default_formats : (declared_view l.declared).default_formats ≡ (declared_view l.initial.declared).default_formats;
}
