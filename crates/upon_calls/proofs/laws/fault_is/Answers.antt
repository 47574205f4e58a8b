use Rattle.upon_calls.specs.Filled.{filled}
use Rattle.upon_calls.proofs.Tables.{named_fault}
use Rattle.upon_calls.proofs.laws.fault_is.Goals as goal

pub returns : goal.returns
returns c = λ templates context name options text r.
    let (fault, kind, is, why) = r.pictures in
    (fault, kind, is, named_fault r.asked.limits (filled r.asked r.sources) name r.value fault why)
