use Rattle.upon_machine_spec.proofs.NamesOfTree.{tree_begins, tree_passes, tree_includes}
use Rattle.upon_machine_spec.proofs.laws.program_names.Goals as goal

pub returns : goal.returns
returns c = record { begun = λ tree name. tree_begins name tree; passed = λ tree name via. tree_passes name via tree; included = λ tree via. tree_includes via tree }
