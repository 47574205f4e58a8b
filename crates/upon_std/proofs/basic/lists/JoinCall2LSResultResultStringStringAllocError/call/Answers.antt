use Rattle.upon_std.proofs.BasicLemmas.Joining.{gives_joined}
use Rattle.upon_std.proofs.basic.lists.JoinCall2LSResultResultStringStringAllocError.call.Goals as goal

pub returns : goal.returns
returns c = gives_joined c.joined.result c.args.first.now c.args.second.now c.joined.ensures
