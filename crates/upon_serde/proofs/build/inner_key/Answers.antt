use Rattle.std.proofs.Common.{[], ap, ◌∙◌, string_bytes}
use Rattle.upon_serde.specs.Notes.{noted, events_from, notes_events}
use Rattle.upon_serde.proofs.Reading.{reads_inner_key}
use Rattle.upon_serde.proofs.build.inner_key.Goals as goal

pub returns-in-Some-EndKey-clause-reads : goal.returns-in-Some-EndKey-clause-reads
returns-in-Some-EndKey-clause-reads c =
    let mid = notes_events c.pop_front.new.self in
    let after = notes_events c.pop_front-2.new.self in
    let end = ap (λ ns. events_from ns []) c.in-Some-EndKey.ensures.items ∙ ap (λ n. noted n after) c.in-Some-EndKey.field-0-is in
    reads_inner_key c.in-Some.note (notes_events c.args.notes.now) mid after (string_bytes c.in_ok-text.text) (ap (λ ns. events_from ns []) c.in-Some.ensures.items) end c.in_ok-text.ensures
