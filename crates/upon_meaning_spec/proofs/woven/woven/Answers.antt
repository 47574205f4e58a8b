use Rattle.upon_meaning_spec.specs.Alone.{includes_left}
use Rattle.upon_meaning_spec.proofs.PiecesOf.{within_woven}
use Rattle.upon_meaning_spec.proofs.woven.woven.Goals as goal

pub returns : goal.returns
returns g c = record {
  within = λ calls resolve left t name root s. within_woven calls resolve t left name root s;
  of_depth = λ rendering t name root s. within_woven rendering.calls rendering.resolve t (includes_left rendering.limit) name root s;
}
