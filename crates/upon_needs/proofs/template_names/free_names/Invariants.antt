use Rattle.std.proofs.Common.{◌≡◌, ◌||◌, ℕ, List, drop}
use Rattle.std.specs.List.{list_any}
use Rattle.upon_compiler.specs.Program.{program_view}
use Rattle.upon_machine_spec.specs.ProgramNames.{begins, is_this, path_name, unbound}
use Rattle.upon_needs.specs.Names.{has_name}
use Rattle.upon_needs.specs.OpenBlocks.{blocks, open_count}
use Rattle.upon_needs.proofs.template_names.free_names.Given as goal

abbrev pub invariant-loop-at : goal.invariant-loop-at
invariant-loop-at l = (name : List ℕ) → (has_name l.names name || list_any (λ i. is_this name (path_name i)) (unbound name l.at (open_count name 0 (blocks l.opened.items)) (program_view (drop l.at l.instrs)))) ≡ begins name (program_view l.instrs)
