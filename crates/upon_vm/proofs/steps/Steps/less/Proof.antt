-- `less` picks the number before.
use Rattle.std.proofs.Common.{ℕ, ◌-◌, ◌<◌, [], ◌∷◌, refl, arith}
use Rattle.std.proofs.raw_atomic.Walks.{proved}
use mir.Syntax.{named}
use mir.Val.{vstruct, vnil}
use contract.Monad.{fact}
use types.Kit.{‵, raw, ◌⊛◌, ◌$◌, ◌∵◌, !, qed, move, split, suffices, done}
use types.Run.{no_more, returns, enter}
use types.Part.{agg}
use types.ByLocal.{alloc_all, pass_all, free_all, look_at, sets}
use denote.Exit.{yes}
use denote.RattleType.{owns}
use denote.Ref.{shr_vals, shr_Tells}
use denote.Shadow.{pure_i}
use denote.Signature.{plain, types_at}
use denote.Steps.{heard}
use denote.Triple.Entry.{alive}
use denote.Triple.Walked.{says, Stays, stay_none_ref, Goes-none_ref, ends_at}
use Rattle.upon_vm.specs.contracts.steps.Steps as made
use Rattle.upon_vm.specs.contracts.steps.Steps.less as f
use Rattle.upon_vm.proofs.steps.Steps.less.Statement.{statement}
use Rattle.upon_vm.proofs.steps.Steps.less.Code as code

abbrev stayed : Stays f.ended.signature.params f.ended.kept
stayed = (stay_none_ref (0 ∷ []) tt (plain (λ _. made.the_row)) yes, tt)

pub less_spec : {M : Type 1} → statement M
less_spec 𝓤 𝓛 𝓜 𝓡 wired =
    let c = f.clauses 𝓛 𝓜.mem 𝓡.returns in
    proved 𝓛 f.ended stayed c 𝓜 𝓡 (Goes-none_ref 𝓛 1 (0 ∷ []) tt (plain (λ _. made.the_row)) yes, tt)
    f.Key.name code.function (code.unfolded 𝓤 𝓛.H 𝓜 𝓡 wired)
    (λ κs. (shr_vals, tt)) (λ κs. (shr_Tells (named 0) κs.0 made.the_row, tt)) (λ κs qs bounds a g are.
    let before : ℕ = a.0.now.left in
    let vs = shr_vals a.0 in
    qed 𝓛 ((raw (alive 𝓛 f.signature κs qs) ⊛ ‵ (owns (types_at f.signature.params κs) a (vs, tt))) ∷ raw (fact 𝓤 (0 < before)) ∷ []) ∵
    move ! (1 ∷ 0 ∷ []) $ heard ! (0 < before) (λ some.
    split ! $ enter ! _ _ _ _ _ $ alloc_all ! (λ l. pass_all ! refl ((tt, tt), tt) $
    sets ! (agg ! (no_more !)) refl (tt, tt) $
    returns ! (look_at ! 0 refl) $ free_all ! refl $
    suffices ! _ (ends_at 𝓛 f.ended stayed c ((κs, qs, bounds, a, (vs, tt)), tt) (vstruct vnil) (record { left = before - 1 }) (tt, tt) (tt, tt)) $
    says ! (omega (arith, some)) $ pure_i ! (made.the_row.own_val (record { left = before - 1 }) (vstruct vnil ∷ [])) ((λ vss. (tt, tt)), tt) ((tt, (refl, tt)), tt) $
    move ! (1 ∷ 2 ∷ 0 ∷ []) $ done !)))
