use Rattle.std.proofs.Common.{[], ◌∷◌, ap, sym, ◌∙◌, arith}
use Rattle.std.proofs.lemmas.Grind.{common_steps}
use Rattle.upon_types.specs.Cow.{cow_view}
use Rattle.upon_types.specs.View.{view}
use Rattle.upon_functions.proofs.Returned.{of_two, two_seen}
use Rattle.upon_functions.proofs.few.Fn2Function.call.Goals as goal

pub returns : goal.returns
returns c c' =
    let given = two_seen _ _ _ c'.first-item.is c'.second-item.is c'.in-len2.len_at_least c'.in-len2.len_below in
    let seen = given ∙ ap (λ v. v ∷ cow_view c'.second-item.result ∷ []) (sym c'.deref.ensures)
    ∙ ap (λ v. view c'.deref.result.now ∷ v ∷ []) (sym c'.deref-2.ensures) in
    let all = of_two c.A.OwnedArgument.misfit c.B.OwnedArgument.misfit (c.C.Call2.meaning c'.args.self.now.callable)
    _ _ _ _ _ _ _ _ seen c'.in_ok-first.ensures c'.in_ok-second.ensures c'.call.ensures c'.to_value.ensures in
    record { says = all.0; blames_given = all.1 }

-- the search finds no proof of these, and takes long
pub returns-in_default-clause-says : goal.returns-in_default-clause-says
returns-in_default-clause-says = grind (arith, common_steps)

pub returns-in_err-first-clause-says : goal.returns-in_err-first-clause-says
returns-in_err-first-clause-says = grind (arith, common_steps)

pub returns-in_err-second-clause-says : goal.returns-in_err-second-clause-says
returns-in_err-second-clause-says = grind (arith, common_steps)
