use Rattle.std.proofs.Common.{◌∷◌, inl, refl}
use Rattle.upon_lookup.specs.Environment.{binding, plain, bind, bind_all, with_name}
use Rattle.upon_meaning_spec.proofs.SameLookups.{hides}
use Rattle.upon_meaning_spec.proofs.SameIncludes.{alike_body}
use Rattle.upon_meaning_spec.proofs.laws.scopes.with_shadows.Goals as goal

pub returns : goal.returns
returns g c = λ calls resolve left running body word v between outer env s.
    alike_body calls resolve left running body (with_name word v (bind_all between (bind (binding word.text outer) env))) (with_name word v (bind_all between env))
    (hides calls.ask (binding word.text outer) (binding word.text (plain v) ∷ between) env (inl refl)) s
