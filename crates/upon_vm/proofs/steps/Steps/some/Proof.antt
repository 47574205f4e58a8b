-- `some` picks the number that its `requires` gives.
use Rattle.std.proofs.Common.{ℕ, [], ◌∷◌, refl}
use Rattle.std.proofs.raw_atomic.Walks.{proved}
use mir.Syntax.{named, a_type, dcons, dnil}
use mir.Val.{vstruct, vnil}
use mir.MapTy.{inst_fn}
use contract.BorrowLft.{◌⊑◌}
use contract.Monad.{fact}
use types.Kit.{‵, raw, ◌⊛◌, ◌$◌, ◌∵◌, !, qed, move, split, drop, suffices, done}
use types.Run.{no_more, returns, enter}
use types.Part.{agg}
use types.ByLocal.{alloc_all, pass_all, free_all, look_at, sets}
use denote.Exit.{yes}
use denote.Param.{param, bounded}
use denote.RattleType.{owns}
use denote.Ref.{shr_vals, shr_Tells}
use denote.Shadow.{pure_i}
use denote.Signature.{plain, types_at}
use denote.Steps.{heard}
use denote.Triple.Entry.{alive}
use denote.Triple.Walked.{says, Stays, stay_none_ref, Goes-none_ref, walk_of, ends_at}
use Rattle.upon_vm.specs.contracts.steps.Steps as made
use Rattle.upon_vm.specs.contracts.steps.Steps.some as f
use Rattle.upon_vm.proofs.steps.Steps.some.Statement.{statement}
use Rattle.upon_vm.proofs.steps.Steps.some.Code as code

pub some_spec : {M : Type 1} → statement M
some_spec 𝓤 𝓛 𝓜 𝓡 wired A B P LA LB LP claim dict met =
    let c = f.clauses A B P claim dict 𝓛 𝓜.mem 𝓡.returns in
    let ended = f.ended A B P claim dict in
    let inst = bounded (a_type ∷ a_type ∷ a_type ∷ []) (A, (B, (P, tt))) (dcons dict dnil) in
    let stayed : Stays ended.signature.params ended.kept =
    (stay_none_ref (0 ∷ []) tt (plain (λ _. param 0 A)) yes, (stay_none_ref (1 ∷ []) tt (plain (λ _. param 1 B)) yes, tt)) in
    let Claimed : Type 0 = (n : ℕ) × claim.holds n in
    proved 𝓛 ended stayed c 𝓜 𝓡
    (Goes-none_ref 𝓛 5 (0 ∷ []) tt (plain (λ _. param 0 A)) yes, (Goes-none_ref 𝓛 5 (1 ∷ []) tt (plain (λ _. param 1 B)) yes, tt))
    (f.Key.name inst) (inst_fn inst code.function) (code.unfolded 𝓤 𝓛.H 𝓜 𝓡 wired (A, (B, (P, tt))) dict)
    (λ κs. (shr_vals, (shr_vals, tt))) (λ κs. (shr_Tells (named 0) κs.0 (param 0 A), (shr_Tells (named 1) κs.1.0 (param 1 B), tt))) (λ κs qs bounds a g are.
    let vs = shr_vals a.0 in
    let us = shr_vals a.1.0 in
    let y : (walk_of 𝓛 ended stayed c).Ghost = ((κs, qs, bounds, a, (vs, (us, tt))), g) in
    qed 𝓛 ((raw (alive 𝓛 (f.signature A B P) κs qs) ⊛ ‵ (owns (types_at (f.signature A B P).params κs) a (vs, (us, tt))))
    ∷ (raw (fact 𝓤 (κs.1.1.0 ⊑ A.lives)) ⊛ (raw (fact 𝓤 (κs.1.1.1.0 ⊑ B.lives)) ⊛ (raw (fact 𝓤 (κs.1.1.1.1.0 ⊑ P.lives)) ⊛ raw (fact 𝓤 Claimed)))) ∷ []) ∵
    move ! (1 ∷ 0 ∷ []) $ split ! $ drop ! $ split ! $ drop ! $ split ! $ drop ! $ heard ! Claimed (λ picked.
    split ! $ enter ! _ _ _ _ _ $ alloc_all ! (λ l. pass_all ! refl ((tt, tt), ((tt, tt), tt)) $
    sets ! (agg ! (no_more !)) refl (tt, tt) $
    returns ! (look_at ! 0 refl) $ free_all ! refl $
    suffices ! _ (ends_at 𝓛 ended stayed c y (vstruct vnil) (record { left = picked.0 }) (tt, (tt, tt)) (tt, (tt, tt))) $
    says ! picked.1 $ pure_i ! (made.the_row.own_val (record { left = picked.0 }) (vstruct vnil ∷ [])) ((λ vss. (tt, tt)), tt) ((tt, (refl, tt)), tt) $
    move ! (1 ∷ 2 ∷ 0 ∷ []) $ done !)))
