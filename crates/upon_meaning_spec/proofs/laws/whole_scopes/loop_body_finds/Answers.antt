use Rattle.std.proofs.Common.{codes}
use Rattle.upon_lookup.specs.Environment.{loop_state, bind_all}
use Rattle.upon_meaning_spec.proofs.Scopes.InBody.{in_body}
use Rattle.upon_meaning_spec.proofs.laws.whole_scopes.loop_body_finds.Goals as goal

pub returns : goal.returns
returns g c = λ calls include_means running inside index count item env t first rest span ts s is none.
    in_body calls include_means running (codes "loop") inside (loop_state index count) (bind_all item env) t first rest span ts s is none
