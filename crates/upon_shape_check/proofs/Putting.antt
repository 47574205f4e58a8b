-- Steps at what is put into literals.
use Rattle.std.proofs.Common.{ℕ, List, [], ◌∷◌, Bool, refl}
use Rattle.upon_shape_spec.specs.Declared.{Declared}
use Rattle.upon_shape_spec.specs.Scope.{Scope}
use Rattle.upon_shape_spec.specs.Known.{Known, KnownOperand, known, with_operand, both_shapes}
use Rattle.upon_shape_check.specs.Puts.{part_instr, with_part}
use Rattle.upon_shape_check.specs.Steps.{Steps}
use Rattle.upon_shape_check.specs.declared.puts.Part.{Part}
use Rattle.upon_shape_check.specs.declared.puts.Part.TheVariants.{Item, Entry}

-- where there are no operands, one, or two and more
pub put_none : (d : Declared) (inc : List ℕ → Scope → Bool) (at : ℕ) (part : Part) (k : Known) → Steps d inc at (known [] k.scope k.opens) (part_instr part) [] (known [] k.scope k.opens)
put_none d inc at Item k = (refl, refl)
put_none d inc at (Entry key) k = (refl, refl)

pub put_one : (d : Declared) (inc : List ℕ → Scope → Bool) (at : ℕ) (part : Part) (k : Known) (o : KnownOperand) → Steps d inc at (known (o ∷ []) k.scope k.opens) (part_instr part) [] (known (o ∷ []) k.scope k.opens)
put_one d inc at Item k o = (refl, refl)
put_one d inc at (Entry key) k o = (refl, refl)

pub put_both : (d : Declared) (inc : List ℕ → Scope → Bool) (at : ℕ) (part : Part) (low : Known) (o into : KnownOperand)
    → Steps d inc at (with_operand o (with_operand into low)) (part_instr part) [] (with_operand (record into { shape = both_shapes (with_part part) into.shape o.shape }) low)
put_both d inc at Item low o into = (refl, refl)
put_both d inc at (Entry key) low o into = (refl, refl)
