use Rattle.std.proofs.Common.{lit<}
use Rattle.upon_store.proofs.Segments.{whole_text, first_and_rest}
use Rattle.upon_store.proofs.path.cut.Goals as goal

pub returns-clause-whole : goal.returns-clause-whole
returns-clause-whole c = whole_text c.args.text.now c.split_once.result (c.split_once.ensures.byte (lit< tt) (λ w o h. h))

pub returns-clause-parts : goal.returns-clause-parts
returns-clause-parts c = first_and_rest c.args.text.now c.split_once.result (c.split_once.ensures.byte (lit< tt) (λ w o h. h))
