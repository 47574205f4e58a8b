-- Instructions that grow at their end, and in which one is replaced.
use Rattle.std.proofs.Common.{◌≡◌, ℕ, List, [], ◌∷◌, ◌++◌, length, sym, ap, ◌∙◌, append_assoc}
use Rattle.std.specs.Prelude.{slice_set}
use Rattle.std.proofs.Math.Seq.{set-append_seam}
use Rattle.upon_machine_spec.specs.Instr.{Instr}

-- an instruction in the midst is replaced
pub replaced : (before after code changed : List Instr) (n : ℕ) (old new : Instr) → code ≡ before ++ old ∷ after → n ≡ length before
    → changed ≡ slice_set code n new → changed ≡ before ++ new ∷ after
replaced before after code changed n old new is at set =
    set
    ∙ ap (λ m. slice_set code m new) at
    ∙ ap (λ l. slice_set l (length before) new) is
    ∙ set-append_seam before old after new

-- two steps are one
pub joined : (first second : List Instr) (from mid to : List Instr) → mid ≡ from ++ first → to ≡ mid ++ second → to ≡ from ++ (first ++ second)
joined first second from mid to a b = b ∙ ap (λ c. c ++ second) a ∙ append_assoc from first second

-- three steps are one
pub joined_three : (first second third : List Instr) (from mid next to : List Instr) → mid ≡ from ++ first → next ≡ mid ++ second → to ≡ next ++ third → to ≡ from ++ (first ++ (second ++ third))
joined_three first second third from mid next to a b c =
    joined first (second ++ third) from mid to a (joined second third mid next to b c)

-- one more of a list or of a map, after its first instruction
pub grown : (from mid here there : List Instr) (first : Instr) (so_far made more : List Instr) (last : Instr) → mid ≡ from ++ first ∷ so_far → here ≡ mid ++ made → there ≡ here ++ last ∷ [] → more ≡ so_far ++ (made ++ last ∷ []) → there ≡ from ++ first ∷ more
grown from mid here there first so_far made more last a b c e =
    joined_three (first ∷ so_far) made (last ∷ []) from mid here there a b c ∙ ap (λ l. from ++ first ∷ l) (sym e)
