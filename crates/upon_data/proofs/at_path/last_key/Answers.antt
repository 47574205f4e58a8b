use Rattle.upon_data.proofs.Paths.{last_keys, last_shorter, only_key}
use Rattle.upon_data.proofs.at_path.last_key.Goals as goal

pub returns-clause-keys : goal.returns-clause-keys
returns-clause-keys c = last_keys c.args.path.now c.rsplit_once.result c.rsplit_once.ensures.cases

pub returns-clause-shorter : goal.returns-clause-shorter
returns-clause-shorter c = last_shorter c.args.path.now c.rsplit_once.result c.rsplit_once.ensures.cases

pub returns-clause-one : goal.returns-clause-one
returns-clause-one c = only_key c.args.path.now c.rsplit_once.result c.rsplit_once.ensures.cases
