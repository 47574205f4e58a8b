-- What a function answers that hands on templates, by what these denote.
use Rattle.std.proofs.Common.{Result, Ok, Err, ap}
use Rattle.upon_lookup.specs.Asked.{HasReply}
use Rattle.upon_lookup.specs.Finding.{Reply, reply}
use Rattle.upon_lookup.specs.Source.{SourceAnswer}
use Rattle.upon_lookup.specs.declared.source.SourceError.{SourceError}
use Rattle.upon_lookup.specs.declared.source.SourceError.TheVariants.{Refused, Memory}
use Rattle.upon_engine.specs.HandsOn.{shown_answer}
use Rattle.upon_engine.specs.Template.{template_of}
use Rattle.upon_engine.specs.declared.template.Template.{Template}

pub shown : {L Q : Type 0} (now : L → Template) (r : Result L SourceError) (q : Q) (a : Reply Q (SourceAnswer Template)) → HasReply now r q a
    → HasReply (λ l. template_of (now l)) r q (reply (shown_answer template_of a.answer) a.next)
shown now (Ok l) q a is = (ap (shown_answer template_of) is.0, is.1)
shown now (Err (Refused text)) q a is = (ap (shown_answer template_of) is.0, is.1)
shown now (Err Memory) q a is = tt
