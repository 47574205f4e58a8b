-- Literals into which something too deep is put, along a program.
use Rattle.std.proofs.Common.{◌≡◌, ℕ, ◌+◌, ◌<◌, suc, List, ◌∷◌, length, drop, get_or, Bool, sym, ap, ◌∙◌, subst, arith, Result, Ok, Err, IfErr, IsErrAnd}
use Rattle.std.proofs.Math.Seq.{drop-cons}
use Rattle.upon_types.specs.declared.types.Span.{Span}
use Rattle.upon_compiler.specs.Program.{instr_of, program_view}
use Rattle.upon_compiler.specs.declared.types.program.Instr.{Instr}
use Rattle.upon_meaning_spec.specs.MapOrder.{IsAmong}
use Rattle.upon_shape_spec.specs.Declared.{Declared}
use Rattle.upon_shape_spec.specs.Doubts.{Doubt}
use Rattle.upon_shape_spec.specs.Scope.{Scope}
use Rattle.upon_shape_spec.specs.Known.{Known, left_at}
use Rattle.upon_shape_spec.proofs.Among.{among_first, among_second}
use Rattle.upon_shape_check.specs.Steps.{Steps}
use Rattle.upon_shape_check.specs.DeepLiterals.{EndsAtOne, instr_too_deep, program_too_deep}
use Rattle.upon_shape_check.specs.declared.unchecked.Unchecked.{Unchecked}
use Rattle.upon_shape_check.specs.declared.unchecked.Unchecked.TheVariants.{Memory, TooDeep}

-- each of the first is one of the others
abbrev pub AllDeep : List Span → List Span → Type 0
AllDeep some all = (place : Span) → IsAmong place some → IsAmong place all

pub deep_more : (d : Declared) (inc : List ℕ → Scope → Bool) (at : ℕ) (k next after : Known) (is : List Instr) (i : Instr) (ds : List Doubt) (all : List Span) → at < length is → i ≡ get_or is at i → Steps d inc at k (instr_of i) ds next → after ≡ left_at (at + 1) next.operands next.scope next.opens
    → AllDeep (program_too_deep d inc at k (program_view (drop at is))) all → AllDeep (program_too_deep d inc (at + 1) after (program_view (drop (at + 1) is))) all
deep_more d inc at k next after is i ds all below item so left so_far place h =
    let number : suc at ≡ at + 1 = omega arith in
    let rest : drop at is ≡ i ∷ drop (at + 1) is = drop-cons is at i below ∙ (ap (λ (x : Instr). x ∷ drop (suc at) is) (sym item) ∙ ap (λ n. i ∷ drop n is) number) in
    let known = left ∙ ap (λ (n : Known). left_at (at + 1) n.operands n.scope n.opens) so.1 in
    so_far place (subst (λ l. IsAmong place (program_too_deep d inc at k (program_view l))) (sym rest)
    (among_second place (instr_too_deep k (instr_of i)) _ (subst (λ n. IsAmong place (program_too_deep d inc (at + 1) n (program_view (drop (at + 1) is)))) known h)))

pub deep_here : (d : Declared) (inc : List ℕ → Scope → Bool) (at : ℕ) (k : Known) (is : List Instr) (i : Instr) (all : List Span) (e : Unchecked) → at < length is → i ≡ get_or is at i → AllDeep (program_too_deep d inc at k (program_view (drop at is))) all
    → EndsAtOne (instr_too_deep k (instr_of i)) e → EndsAtOne all e
deep_here d inc at k is i all (Memory error) below item so_far ends = tt
deep_here d inc at k is i all (TooDeep place) below item so_far ends =
    let number : suc at ≡ at + 1 = omega arith in
    let rest : drop at is ≡ i ∷ drop (at + 1) is = drop-cons is at i below ∙ (ap (λ (x : Instr). x ∷ drop (suc at) is) (sym item) ∙ ap (λ n. i ∷ drop n is) number) in
    so_far place (subst (λ l. IsAmong place (program_too_deep d inc at k (program_view l))) (sym rest) (among_first place (instr_too_deep k (instr_of i)) _ ends))

-- what is handed on
pub handed_on : {A : Type 0} (places : List Span) (e : Unchecked) (r : Result A Unchecked) → IsErrAnd r (λ x. x ≡ e) → EndsAtOne places e → IfErr r (EndsAtOne places)
handed_on places e (Ok a) is said = absurd is
handed_on places e (Err x) is said = subst (EndsAtOne places) (sym is) said
