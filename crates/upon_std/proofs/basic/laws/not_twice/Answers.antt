use Rattle.upon_types.specs.Truth.{truth}
use Rattle.upon_std.proofs.BasicLemmas.LawLemmas.{not-not}
use Rattle.upon_std.proofs.basic.laws.not_twice.Goals as goal

pub returns : goal.returns
returns c = λ v. not-not (truth v)
