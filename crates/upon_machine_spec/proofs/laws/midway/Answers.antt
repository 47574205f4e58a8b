use Rattle.upon_machine_spec.proofs.Midway.{goes_on, falls, over, unstuck, begins}
use Rattle.upon_machine_spec.proofs.laws.midway.Goals as goal

pub returns : goal.returns
returns g c = record {
  unstuck = unstuck;
  goes_on = λ calls resolve root n text more s next o st h. (goes_on calls resolve root n text more s next o st h, falls calls resolve root n text more s next o st h);
  stops_so = over;
  begins = begins;
}
