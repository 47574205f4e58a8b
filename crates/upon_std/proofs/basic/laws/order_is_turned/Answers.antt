use Rattle.upon_std.proofs.BasicLemmas.LawLemmas.{integers_turned, texts_turned, less_turned, at_most_turned}
use Rattle.upon_std.proofs.basic.laws.order_is_turned.Goals as goal

pub returns : goal.returns
returns c = record { integers = integers_turned; texts = texts_turned; less = less_turned; at_most = at_most_turned }
