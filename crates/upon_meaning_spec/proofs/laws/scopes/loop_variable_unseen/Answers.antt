use Rattle.std.proofs.Common.{◌≡◌, ◌∷◌, ◌++◌, inl, refl, sym, ap, ◌∙◌, append_assoc, codes}
use Rattle.upon_lookup.specs.Environment.{Environment, binding, loop_state, bind, bind_all, iteration}
use Rattle.upon_meaning_spec.specs.Alone.{included}
use Rattle.upon_meaning_spec.specs.Meaning.{statements_mean}
use Rattle.upon_meaning_spec.proofs.SameLookups.{hides}
use Rattle.upon_meaning_spec.proofs.SameIncludes.{alike_body}
use Rattle.upon_meaning_spec.proofs.laws.scopes.loop_variable_unseen.Goals as goal

pub returns : goal.returns
returns g c = λ calls resolve left running body index count before behind unseen env s.
    let state = binding (codes "loop") (loop_state index count) in
    let b = binding (codes "loop") unseen in
    let with_it : iteration index count (before ++ b ∷ behind) env ≡ bind_all (state ∷ before) (bind b (bind_all behind env)) = λ i. record env { bindings = state ∷ append_assoc before (b ∷ behind) env.bindings i } in
    let without : bind_all (state ∷ before) (bind_all behind env) ≡ iteration index count (before ++ behind) env = λ i. record env { bindings = state ∷ sym (append_assoc before behind env.bindings) i } in
    let means : Environment → _ = λ e. statements_mean calls (included calls resolve left) running body e s in
    ap means with_it
    ∙ alike_body calls resolve left running body (bind_all (state ∷ before) (bind b (bind_all behind env))) (bind_all (state ∷ before) (bind_all behind env)) (hides calls.ask b (state ∷ before) (bind_all behind env) (inl refl)) s
    ∙ ap means without
