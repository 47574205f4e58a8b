-- A walk along a program, instruction by instruction.
use Rattle.std.proofs.Common.{◌≡◌, ℕ, ◌+◌, ◌<◌, suc, List, ◌∷◌, ◌++◌, length, drop, get_or, Bool, sym, ap, ◌∙◌, append_assoc, subst, arith}
use Rattle.std.proofs.Math.Seq.{drop-cons}
use Rattle.upon_machine_spec.specs.Instr.{Instr as SpecInstr}
use Rattle.upon_compiler.specs.Program.{instr_of, program_view}
use Rattle.upon_compiler.specs.declared.types.program.Instr.{Instr}
use Rattle.upon_shape_spec.specs.Declared.{Declared}
use Rattle.upon_shape_spec.specs.Doubts.{Doubt}
use Rattle.upon_shape_spec.specs.Scope.{Scope}
use Rattle.upon_shape_spec.specs.Known.{Known, left_at}
use Rattle.upon_shape_spec.specs.ProgramDoubts.{instr_doubts, program_doubts}
use Rattle.upon_shape_check.specs.Steps.{Steps}

-- a step at what is the same instruction
pub at_instr : (d : Declared) (inc : List ℕ → Scope → Bool) (at : ℕ) (k : Known) (i j : Instr) (ds : List Doubt) (next : Known) → i ≡ j → Steps d inc at k (instr_of j) ds next → Steps d inc at k (instr_of i) ds next
at_instr d inc at k i j ds next e so = subst (λ (x : Instr). Steps d inc at k (instr_of x) ds next) (sym e) so

pub at_same : (d : Declared) (inc : List ℕ → Scope → Bool) (at : ℕ) (k : Known) (i j : SpecInstr) (ds : List Doubt) (next : Known) → i ≡ j → Steps d inc at k j ds next → Steps d inc at k i ds next
at_same d inc at k i j ds next e so = subst (λ x. Steps d inc at k x ds next) (sym e) so

-- one instruction more
pub one_more : (d : Declared) (inc : List ℕ → Scope → Bool) (at : ℕ) (k next after : Known) (is : List Instr) (i : Instr) (ds done more all : List Doubt) → at < length is → i ≡ get_or is at i → Steps d inc at k (instr_of i) ds next
    → after ≡ left_at (at + 1) next.operands next.scope next.opens → more ≡ done ++ ds → done ++ program_doubts d inc at k (program_view (drop at is)) ≡ all
    → more ++ program_doubts d inc (at + 1) after (program_view (drop (at + 1) is)) ≡ all
one_more d inc at k next after is i ds done more all below item so left e so_far =
    let number : suc at ≡ at + 1 = omega arith in
    let rest : drop at is ≡ i ∷ drop (at + 1) is = drop-cons is at i below ∙ (ap (λ (x : Instr). x ∷ drop (suc at) is) (sym item) ∙ ap (λ n. i ∷ drop n is) number) in
    ap (λ l. l ++ program_doubts d inc (at + 1) after (program_view (drop (at + 1) is))) e
    ∙ (append_assoc done ds (program_doubts d inc (at + 1) after (program_view (drop (at + 1) is)))
    ∙ (ap (λ l. done ++ (l ++ program_doubts d inc (at + 1) after (program_view (drop (at + 1) is)))) so.0
    ∙ (ap (λ (n : Known). done ++ (instr_doubts d inc k (instr_of i) ++ program_doubts d inc (at + 1) n (program_view (drop (at + 1) is)))) (left ∙ ap (λ (n : Known). left_at (at + 1) n.operands n.scope n.opens) so.1)
    ∙ (sym (ap (λ l. done ++ program_doubts d inc at k (program_view l)) rest) ∙ so_far))))
