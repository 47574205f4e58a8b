use Rattle.std.proofs.Common.{Some, None, refl}
use Rattle.upon_delimiters.proofs.DefaultBest.{Is, best_told, none_there}
use Rattle.upon_delimiters.proofs.braces.best_at.Goals as goal
use Rattle.upon_delimiters.proofs.braces.best_at.Goals.{In-Some}

here : (c : In-Some) → Is c.args.source.now c.args.at (c.in-Some.kind, c.in-Some.length)
here c = best_told c.args.source.now c.args.at c.as_bytes-bytes.result.now c.as_bytes-bytes.ensures.value _ _ _ c.byte_at-first.ensures c.byte_at-second.ensures c.byte_at-third.ensures (Some (c.in-Some.kind, c.in-Some.length)) c.in-Some.ensures.value

pub returns-in-Some-clause-best : goal.returns-in-Some-clause-best
returns-in-Some-clause-best c = (here c).best

pub returns-in-Some-clause-span : goal.returns-in-Some-clause-span
returns-in-Some-clause-span c = (here c).span c.utf8.source

pub returns-in-None-clause-best : goal.returns-in-None-clause-best
returns-in-None-clause-best c = none_there c.args.source.now c.args.at c.as_bytes-bytes.result.now c.as_bytes-bytes.ensures.value _ _ _ c.byte_at-first.ensures c.byte_at-second.ensures c.byte_at-third.ensures None c.in-None.ensures.value refl
