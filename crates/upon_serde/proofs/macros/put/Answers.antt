use Rattle.std.proofs.Common.{◌∙◌, ap}
use Rattle.upon_types.specs.View.{view}
use Rattle.upon_serde.specs.Data.{with_pair}
use Rattle.upon_serde.specs.Reads.{entry_pairs}
use Rattle.upon_serde.proofs.Reading.{pairs_of-insert}
use Rattle.upon_serde.proofs.macros.put.Goals as goal

pub returns : goal.returns
returns c =
    let old = c.args.entries.now.entries in
    let key = c.in_ok-from_str.field-0 in
    ap entry_pairs c.in_ok-insert.ensures.entries
    ∙ pairs_of-insert old key c.args.item
    ∙ ap (λ word. with_pair word (view c.args.item) (entry_pairs old)) c.in_ok-from_str.ensures.ok
