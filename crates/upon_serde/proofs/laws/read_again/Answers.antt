use Rattle.std.proofs.Common.{[], ◌∙◌, sym}
use Rattle.upon_serde.proofs.Sent.{sent_whole}
use Rattle.upon_serde.proofs.Again.{again}
use Rattle.upon_serde.proofs.laws.read_again.Goals as goal

pub returns : goal.returns
returns c v w log asc sent (d, reads, is) = sym is ∙ (again v d [] [] asc (sym reads ∙ sent_whole v log sent)).0
