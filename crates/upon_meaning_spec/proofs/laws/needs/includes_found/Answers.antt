use Rattle.upon_meaning_spec.specs.Engine.{calls_of, limit_of}
use Rattle.upon_meaning_spec.proofs.WhatIsNeeded.NoUnknown.{never_unknown}
use Rattle.upon_meaning_spec.proofs.laws.needs.includes_found.Goals as goal

pub returns : goal.returns
returns g c = λ engine ask depth t name v s none ends. never_unknown (calls_of engine ask) engine.templates (limit_of depth engine) t name v s none ends
