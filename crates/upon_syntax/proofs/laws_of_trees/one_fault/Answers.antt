use Rattle.std.proofs.Common.{◌≡◌, Some, inl, inr, sym, ap, ◌∙◌}
use Rattle.upon_types.specs.declared.error.Error.{Error}
use Rattle.upon_types.specs.Error.{fault_of}
use Rattle.upon_types.specs.Fault.{Fault, syntax, memory, out_of_memory, bare_fault, fault_with_picture}
use Rattle.upon_language_spec.proofs.OneFirstFault.FirstFault.{one_first_fault}
use Rattle.upon_syntax.proofs.laws_of_trees.one_fault.Goals as goal

-- an error of syntax does not say that memory is out
not_memory : (e : Error) → fault_of e ≡ out_of_memory → (fault_of e).kind ≡ syntax → ⊥
not_memory e out kind = let other : (fault_of e).kind ≡ memory = ap (λ (f : Fault). f.kind) out in let same : syntax ≡ memory = sym kind ∙ other in cc

pub returns : goal.returns
returns c = λ delimiters s a b texts x y of_a of_b. elim x [
  | inl out ↦ absurd (not_memory a out of_a)
  | inr f ↦ elim y [
    | inl out ↦ absurd (not_memory b out of_b)
    | inr g ↦
        let same = one_first_fault delimiters s f.0 g.0 f.1 g.1 texts f.2 g.2 in
        f.3 ∙ (λ i. fault_with_picture s (bare_fault syntax (Some (same.1 i)) (Some (same.0 i)))) ∙ sym g.3
  ]
]
