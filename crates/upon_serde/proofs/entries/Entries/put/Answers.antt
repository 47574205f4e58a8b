use Rattle.std.proofs.Common.{[], ◌∷◌, ◌++◌, ap, sym, ◌∙◌, string_bytes}
use Rattle.upon_types.specs.View.{view}
use Rattle.upon_serde.specs.Data.{with_pair}
use Rattle.upon_serde.specs.Put.{pairs_so_far, pairs_put}
use Rattle.upon_serde.specs.Reads.{entry_pairs}
use Rattle.upon_serde.proofs.Reading.{Entry, pairs_of-insert}
use Rattle.upon_serde.proofs.Putting.{pairs_put-append}
use Rattle.upon_serde.proofs.entries.Entries.put.Goals as goal

pub returns-in-Ok : goal.returns-in-Ok
returns-in-Ok c =
    ap entry_pairs c.in-Ok.ensures.entries
    ∙ pairs_of-insert c.in-Map.map.entries c.args.key c.args.value
    ∙ ap (λ entries. with_pair (string_bytes c.args.key) (view c.args.value) (pairs_so_far entries)) (sym c.in-Map.is)

pub returns : goal.returns
returns c =
    let entry : Entry = (c.args.key, c.args.value) in
    ap (λ items. pairs_put items []) (c.push_reserved.ensures.items ∙ ap (λ items. items ++ entry ∷ []) c.reserve.ensures.items)
    ∙ pairs_put-append c.in-Row.row.items (entry ∷ []) []
    ∙ ap (λ entries. with_pair (string_bytes c.args.key) (view c.args.value) (pairs_so_far entries)) (sym c.in-Row.is)
