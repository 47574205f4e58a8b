use Rattle.std.proofs.Common.{◌≡◌, ◌≤◌, drop}
use Rattle.std.specs.List.{list_any}
use Rattle.upon_compiler.specs.Program.{program_view}
use Rattle.upon_machine_spec.specs.ProgramNames.{begins, is_this, path_name, unbound}
use Rattle.upon_needs.proofs.template_names.begins.Given as goal

abbrev pub invariant-loop-at : goal.invariant-loop-at
invariant-loop-at l = (l.count ≤ l.at) × (list_any (λ i. is_this l.name (path_name i)) (unbound l.name l.at l.count (program_view (drop l.at l.instrs))) ≡ begins l.name (program_view l.instrs))
