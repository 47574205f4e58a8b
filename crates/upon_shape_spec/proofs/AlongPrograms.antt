-- Walks along parts of a program, one after another.
use Rattle.std.proofs.Common.{◌≡◌, ℕ, ◌+◌, List, [], ◌∷◌, ◌++◌, length, length-append, append_assoc, Bool, sym, ap, ◌∙◌, subst, arith}
use Rattle.upon_machine_spec.specs.Instr.{Instr}
use Rattle.upon_shape_spec.specs.Declared.{Declared}
use Rattle.upon_shape_spec.specs.Doubts.{Doubt}
use Rattle.upon_shape_spec.specs.Scope.{Scope}
use Rattle.upon_shape_spec.specs.Known.{KnownOperand, Open, Known, known, left_at}
use Rattle.upon_shape_spec.specs.ProgramDoubts.{instr_doubts, stepped, program_doubts}
use Rattle.upon_shape_spec.proofs.Blocks.{EndFrom, stays}

module _ (declared : Declared) (included : List ℕ → Scope → Bool) where
  -- along these instructions, the first of which has this number, there are these doubts, and after them this is known
  abbrev pub Walks : ℕ → Known → List Instr → List Doubt → Known → Type 0
  Walks at k c ds next =
      (rest : List Instr) → program_doubts declared included at k (c ++ rest) ≡ ds ++ program_doubts declared included (at + length c) next rest

  pub walk_nothing : (at : ℕ) (k : Known) → Walks at k [] [] k
  walk_nothing at k rest = let e : at ≡ at + 0 = omega arith in ap (λ p. program_doubts declared included p k rest) e

  pub walk_then : (at : ℕ) (k middle next : Known) (a b : List Instr) (ds es : List Doubt) → Walks at k a ds middle → Walks (at + length a) middle b es next → Walks at k (a ++ b) (ds ++ es) next
  walk_then at k middle next a b ds es f g rest =
      let e : at + length a + length b ≡ at + length (a ++ b) = omega (arith, length-append a b) in
      ap (program_doubts declared included at k) (append_assoc a b rest) ∙ f (b ++ rest) ∙ ap (λ l. ds ++ l) (g rest)
      ∙ sym (append_assoc ds es (program_doubts declared included (at + length a + length b) next rest))
      ∙ ap (λ p. (ds ++ es) ++ program_doubts declared included p next rest) e

  -- a walk along instructions is a walk along equal ones, with equal doubts
  pub with_code : (at : ℕ) (k next : Known) (c d : List Instr) (ds : List Doubt) → c ≡ d → Walks at k c ds next → Walks at k d ds next
  with_code at k next c d ds e w = subst (λ x. Walks at k x ds next) e w

  pub from_known : (at : ℕ) (k l next : Known) (c : List Instr) (ds : List Doubt) → k ≡ l → Walks at k c ds next → Walks at l c ds next
  from_known at k l next c ds e w = subst (λ x. Walks at x c ds next) e w

  pub to_known : (at : ℕ) (k next after : Known) (c : List Instr) (ds : List Doubt) → next ≡ after → Walks at k c ds next → Walks at k c ds after
  to_known at k next after c ds e w = subst (λ x. Walks at k c ds x) e w

  pub to_number : (at p q : ℕ) (k : Known) (c : List Instr) (ds : List Doubt) (os : List KnownOperand) (scope : Scope) (opens : List Open) → p ≡ q → Walks at k c ds (left_at p os scope opens) → Walks at k c ds (left_at q os scope opens)
  to_number at p q k c ds os scope opens e w = subst (λ n. Walks at k c ds (left_at n os scope opens)) e w

  -- an instruction, after which the blocks are left that end there
  pub walk_step : (at : ℕ) (k : Known) (i : Instr) (ds : List Doubt) (os : List KnownOperand) (scope : Scope) (opens : List Open) → instr_doubts declared included k i ≡ ds → stepped declared included at k i ≡ known os scope opens → Walks at k (i ∷ []) ds (left_at (at + 1) os scope opens)
  walk_step at k i ds os scope opens e f rest =
      (λ x. e x ++ program_doubts declared included (at + 1) (left_at (at + 1) (f x).operands (f x).scope (f x).opens) rest)

  -- an instruction after which no block ends
  pub walk_within : (at : ℕ) (k : Known) (i : Instr) (ds : List Doubt) (os : List KnownOperand) (scope : Scope) (opens : List Open) → EndFrom (at + 1 + 1) opens → instr_doubts declared included k i ≡ ds → stepped declared included at k i ≡ known os scope opens → Walks at k (i ∷ []) ds (known os scope opens)
  walk_within at k i ds os scope opens h e f = to_known at k (left_at (at + 1) os scope opens) (known os scope opens) (i ∷ []) ds (stays (at + 1) os scope opens h) (walk_step at k i ds os scope opens e f)

  -- an instruction, and then others
  pub walk_after : (at : ℕ) (k next : Known) (i : Instr) (c : List Instr) (ds es : List Doubt) (os : List KnownOperand) (scope : Scope) (opens : List Open) → instr_doubts declared included k i ≡ ds → stepped declared included at k i ≡ known os scope opens → Walks (at + 1) (left_at (at + 1) os scope opens) c es next → Walks at k (i ∷ c) (ds ++ es) next
  walk_after at k next i c ds es os scope opens e f w = walk_then at k (left_at (at + 1) os scope opens) next (i ∷ []) c ds es (walk_step at k i ds os scope opens e f) w
