use Rattle.upon_meaning_spec.proofs.FaultsStated.Ends.{default_refusal, table_refusal}
use Rattle.upon_meaning_spec.proofs.laws.faults.usual_refusals.Goals as goal

pub returns : goal.returns
returns g c = record { of_formatter = default_refusal; of_table = table_refusal }
