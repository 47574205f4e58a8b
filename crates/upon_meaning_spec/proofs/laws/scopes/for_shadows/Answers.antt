use Rattle.std.proofs.Common.{◌≡◌, ◌∷◌, ◌++◌, inr, sym, ap, ◌∙◌, append_assoc, codes}
use Rattle.upon_lookup.specs.Environment.{Environment, binding, loop_state, bind, bind_all, iteration}
use Rattle.upon_meaning_spec.specs.Alone.{included}
use Rattle.upon_meaning_spec.specs.Meaning.{statements_mean}
use Rattle.upon_meaning_spec.proofs.SameLookups.{hides, binds_more}
use Rattle.upon_meaning_spec.proofs.SameIncludes.{alike_body}
use Rattle.upon_meaning_spec.proofs.laws.scopes.for_shadows.Goals as goal

pub returns : goal.returns
returns g c = λ calls resolve left running body index count item between name outer env s binds.
    let state = binding (codes "loop") (loop_state index count) in
    let b = binding name outer in
    let with_it : iteration index count item (bind_all between (bind b env)) ≡ bind_all (state ∷ (item ++ between)) (bind b env) = λ i. record env { bindings = state ∷ sym (append_assoc item between (b ∷ env.bindings)) i } in
    let without : bind_all (state ∷ (item ++ between)) env ≡ iteration index count item (bind_all between env) = λ i. record env { bindings = state ∷ append_assoc item between env.bindings i } in
    let means : Environment → _ = λ e. statements_mean calls (included calls resolve left) running body e s in
    ap means with_it
    ∙ alike_body calls resolve left running body (bind_all (state ∷ (item ++ between)) (bind b env)) (bind_all (state ∷ (item ++ between)) env) (hides calls.ask b (state ∷ (item ++ between)) env (inr (binds_more name item between binds))) s
    ∙ ap means without
