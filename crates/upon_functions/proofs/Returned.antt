-- If both arguments fit, an adapter of two answers what its callable returned.
use Rattle.std.proofs.Common.{◌≡◌, ◌≤◌, ◌<◌, suc, Bool, List, [], ◌∷◌, map, length, get_or, Option, Some, None, Result, ap, sym, subst, ◌∙◌, arith}
use Rattle.upon_types.specs.Misfits.{Test}
use Rattle.upon_types.specs.Answers.{Answer}
use Rattle.upon_types.specs.Cow.{cow_view}
use Rattle.upon_types.specs.Val.{Val}
use Rattle.upon_types.specs.declared.value.Value.{Value}
use Rattle.upon_types.specs.declared.value.cow.ValueCow.{ValueCow}
use Rattle.upon_functions.specs.declared.function.CallError.{CallError}
use Rattle.upon_functions.specs.Blames.{BlamesGiven}
use Rattle.upon_functions.specs.Outcome.{Returned, value, refusal, answer_of, Gives}
use Rattle.upon_functions.specs.Says.{Says, Returns}
use Rattle.upon_functions.specs.Adapters.{adapter_answer, after_tests, unless_misfit}

passed : (ta tb : Test) (va vb : Val) (answer : Answer) → ta va ≡ None → tb vb ≡ None → after_tests (ta ∷ tb ∷ []) 0 (va ∷ vb ∷ []) answer ≡ answer
passed ta tb va vb answer p q =
    ap (λ m. unless_misfit m 0 (unless_misfit (tb vb) 1 answer)) p ∙ ap (λ m. unless_misfit m 1 answer) q

blames : (vs : List Val) (o : Returned) → BlamesGiven vs (answer_of o)
blames vs (value v) = tt
blames vs (refusal text) = tt

says : (copy : Bool) (r : Result Value CallError) (o : Option Returned) (meant : Returned) → Returns copy r o → Gives o meant → Says r (answer_of meant)
says copy r (Some o) meant h e = subst (λ it. Says r (answer_of it)) e h.0
says copy r None meant h e = subst (λ it. Says it (answer_of meant)) (sym h) tt

-- an answer that says so and blames what is given
abbrev pub Answered : List Val → Result Value CallError → Answer → Type 0
Answered vs r answer = Says r answer × BlamesGiven vs answer

pub of_two : (ta tb : Test) (meaning : List Val → Returned) (vs : List Val) (va vb sa sb : Val) (copy : Bool) (r : Result Value CallError) (o : Option Returned)
    → vs ≡ va ∷ vb ∷ [] → (ta va ≡ None) × (sa ≡ va) → (tb vb ≡ None) × (sb ≡ vb)
    → Gives o (meaning (sa ∷ sb ∷ [])) → Returns copy r o → Answered vs r (adapter_answer (ta ∷ tb ∷ []) meaning vs)
of_two ta tb meaning vs va vb sa sb copy r o given a b gives returns =
    let taken = ap (λ s. meaning (s ∷ sb ∷ [])) a.1 ∙ ap (λ s. meaning (va ∷ s ∷ [])) b.1 in
    let meant = subst (λ m. Gives o m) taken gives in
    let all : Answered (va ∷ vb ∷ []) r (answer_of (meaning (va ∷ vb ∷ []))) = (says copy r o _ returns meant, blames (va ∷ vb ∷ []) (meaning (va ∷ vb ∷ []))) in
    let fits = subst (λ answer. Answered (va ∷ vb ∷ []) r answer) (sym (passed ta tb va vb (answer_of (meaning (va ∷ vb ∷ []))) a.0 b.0)) all in
    subst (λ it. Answered it r (adapter_answer (ta ∷ tb ∷ []) meaning it)) (sym given) fits

-- what two arguments denote
pub two_seen : (args : List ValueCow) (x y : ValueCow) → x ≡ get_or args 0 x → y ≡ get_or args 1 y → 2 ≤ length args → length args < 3
    → map cow_view args ≡ cow_view x ∷ cow_view y ∷ []
two_seen [] x y p q least below = let no : ⊥ = omega (arith, least) in absurd no
two_seen (a ∷ []) x y p q least below = let no : ⊥ = omega (arith, least) in absurd no
two_seen (a ∷ b ∷ []) x y p q least below = ap (λ it. cow_view it ∷ cow_view b ∷ []) (sym p) ∙ ap (λ it. cow_view x ∷ cow_view it ∷ []) (sym q)
two_seen (a ∷ b ∷ d ∷ args) x y p q least below =
    let more : suc (suc (suc (length args))) < 3 = below in
    let no : ⊥ = omega (arith, more) in absurd no
