use Rattle.upon_language_spec.proofs.Spans.FirstFault.{fault_lies_in}
use Rattle.upon_language_spec.proofs.laws.fault_lies_in.Goals as goal

pub returns : goal.returns
returns c = λ delimiters s row p place reason texts utf8 text h. fault_lies_in delimiters s texts utf8 text row p place reason h
