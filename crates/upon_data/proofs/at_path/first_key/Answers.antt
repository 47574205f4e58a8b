use Rattle.std.proofs.Common.{arith}
use Rattle.std.proofs.lemmas.Str.Pattern.{split_once_first, split_parts}
use Rattle.upon_data.proofs.Paths.{cut_keys, cut_shorter, one_key}
use Rattle.upon_data.proofs.at_path.first_key.Goals as goal

pub returns-clause-keys : goal.returns-clause-keys
returns-clause-keys c = cut_keys c.args.path.now c.split_once.result (split_once_first 46 c.args.path.now c.split_once.result c.split_once.ensures.cases (omega arith))

pub returns-clause-shorter : goal.returns-clause-shorter
returns-clause-shorter c = cut_shorter c.args.path.now c.split_once.result (split_parts 46 c.args.path.now c.split_once.result c.split_once.ensures.cases (omega arith))

pub returns-clause-one : goal.returns-clause-one
returns-clause-one c = one_key c.args.path.now c.split_once.result (split_parts 46 c.args.path.now c.split_once.result c.split_once.ensures.cases (omega arith))
