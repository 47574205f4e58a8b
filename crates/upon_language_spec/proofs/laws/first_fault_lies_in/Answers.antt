use Rattle.upon_language_spec.proofs.Spans.FirstFault.{fault_lies_in}
use Rattle.upon_language_spec.proofs.laws.first_fault_lies_in.Goals as goal

pub returns : goal.returns
returns c = λ delimiters s place reason texts utf8 text f. fault_lies_in delimiters s texts utf8 text f.fault f.point place reason f.holds
