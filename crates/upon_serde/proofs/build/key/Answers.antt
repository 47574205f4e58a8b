use Rattle.std.proofs.Common.{ap, refl, string_bytes, rules}
use Rattle.upon_serde.specs.Data.{field, variant, text_key}
use Rattle.upon_serde.specs.Notes.{noted, notes_events}
use Rattle.upon_serde.proofs.build.key.Goals as goal

pub returns-in-FieldKey-clause-reads : goal.returns-in-FieldKey-clause-reads
returns-in-FieldKey-clause-reads c =
    let name = c.in-FieldKey.name in
    (field (string_bytes name) c.in-FieldKey.case, ap (λ n. noted n (notes_events c.args.notes.now)) c.in-FieldKey.is, search rules)

pub returns-in-VariantKey-clause-reads : goal.returns-in-VariantKey-clause-reads
returns-in-VariantKey-clause-reads c =
    let name = c.in-VariantKey.name in
    (variant (string_bytes name) c.in-VariantKey.case, ap (λ n. noted n (notes_events c.args.notes.now)) c.in-VariantKey.is, search rules)

pub returns-in-TextKey-clause-reads : goal.returns-in-TextKey-clause-reads
returns-in-TextKey-clause-reads c =
    (text_key (string_bytes c.in-TextKey.text), ap (λ n. noted n (notes_events c.args.notes.now)) c.in-TextKey.is, refl)
