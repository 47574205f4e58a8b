use Rattle.std.proofs.Common.{ap}
use Rattle.upon_schema.specs.Refusal.{wrong_value}
use Rattle.upon_schema.proofs.OtherKinds.{not_bool}
use Rattle.upon_schema.proofs.read.truth_shape.Goals as goal

pub returns-in_default : goal.returns-in_default
returns-in_default c = record { covers = tt; refused = (ap wrong_value c.new.ensures.bytes, not_bool c.args.schema.now c.in_default.not-Bool) }
