use Rattle.upon_meaning_spec.specs.Alone.{alone, includes_left}
use Rattle.upon_meaning_spec.specs.RenderFaults.{Anywhere}
use Rattle.upon_meaning_spec.proofs.FaultsStated.Ends.{end_stated, told_stated}
use Rattle.upon_meaning_spec.proofs.laws.faults.reported_is_stated.Goals as goal

pub returns : goal.returns
returns g c = λ rendering t name root s f e.
    told_stated rendering.calls rendering.resolve t name Anywhere rendering.limit (alone rendering t name root s).end f
    (end_stated rendering.calls rendering.resolve (includes_left rendering.limit) t name root s) e
