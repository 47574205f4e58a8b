use Rattle.std.proofs.Common.{◌∙◌}
use Rattle.std.specs.Cmp.{IsEquivalence, decided}
use Rattle.upon_types.specs.Same.{val_eq}
use Rattle.upon_types.proofs.ValueEquality.{val_eq-Decides, part_by_part}
use Rattle.upon_types.proofs.value.same.laws_of_equality.Goals as goal

pub returns : goal.returns
returns c =
    let laws : IsEquivalence val_eq = decided val_eq val_eq-Decides in record {
      reflexive = laws.refl;
      symmetric = λ v w h. laws.symm w v ∙ h;
      transitive = λ u v w h k. laws.congr u v w h ∙ k;
      one_value = val_eq-Decides;
      part_by_part = part_by_part;
    }
