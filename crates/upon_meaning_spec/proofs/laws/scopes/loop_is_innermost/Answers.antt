use Rattle.std.proofs.Common.{refl, codes}
use Rattle.upon_lookup.specs.Environment.{binding, loop_state, bind_all}
use Rattle.upon_meaning_spec.proofs.LoopNames.{innermost_answers}
use Rattle.upon_meaning_spec.proofs.laws.scopes.loop_is_innermost.Goals as goal

pub returns : goal.returns
returns g c = λ ask inside index count item env first rest q is none.
    innermost_answers ask (codes "loop") inside (binding (codes "loop") (loop_state index count)) (bind_all item env) refl none first rest q is
