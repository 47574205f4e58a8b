use Rattle.std.proofs.Common.{arith}
use Rattle.std.proofs.lemmas.List.{get_or-set_same, get_or-set_other}
use Rattle.upon_delimiters.proofs.byte_set.put.Goals as goal

pub returns-clause-there : goal.returns-clause-there
returns-clause-there c = get_or-set_same c.args.bytes.now c.args.place c.args.byte 0 (omega (arith, c.requires, c.told-bytes))

pub returns-clause-others : goal.returns-clause-others
returns-clause-others c = λ other apart. get_or-set_other c.args.bytes.now c.args.place other c.args.byte 0 apart
