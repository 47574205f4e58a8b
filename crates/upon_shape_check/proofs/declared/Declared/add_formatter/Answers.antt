use Rattle.std.proofs.Common.{string_bytes}
use Rattle.upon_shape_check.proofs.Declaring.{declared_more}
use Rattle.upon_shape_check.proofs.declared.Declared.add_formatter.Goals as goal

pub returns-clause-ok : goal.returns-clause-ok
returns-clause-ok c = λ other. declared_more (string_bytes c.args.name) c.args.self.now.callables c.insert.new.self _ c.in_ok-insert.ensures.updates other
