-- Programs are equal in one way at most.
use Rattle.std.proofs.Common.{◌≡◌, List}
use Rattle.std.proofs.Props.{props}
use Rattle.std.proofs.Math.Nat.{ℕ_set}
use Rattle.upon_types.proofs.Sets.{Span-set, Ident-set, Member-set, Members-set, LoopVars-one_path, Val-one_path}
use Rattle.upon_machine_spec.specs.Instr.{Instr}

pub Instrs-one_path : (a b : List Instr) (p q : a ≡ b) → p ≡ q
Instrs-one_path = hlevel (props, ℕ_set, Span-set, Ident-set, Member-set, Members-set, LoopVars-one_path, Val-one_path)
