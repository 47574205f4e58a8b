use Rattle.std.proofs.Common.{codes}
use Rattle.upon_lookup.specs.Environment.{binding, plain}
use Rattle.upon_meaning_spec.proofs.LoopNames.{innermost_answers}
use Rattle.upon_meaning_spec.proofs.laws.scopes.with_outranks_loop.Goals as goal

pub returns : goal.returns
returns g c = λ ask inside word v env first rest q named is none.
    innermost_answers ask (codes "loop") inside (binding word.text (plain v)) env named none first rest q is
