use Rattle.std.proofs.Common.{refl, sym, ap, ◌∙◌, string_bytes}
use Rattle.upon_lookup.specs.Source.{says}
use Rattle.upon_engine.specs.HandsOn.{shown_answer}
use Rattle.upon_engine.specs.Template.{template_of}
use Rattle.upon_store.specs.Stored.{held, stored, path_answer, store_answer}
use Rattle.upon_store.proofs.Changes.{shown_path}
use Rattle.upon_store.proofs.store.FolderTemplateSource.template.Goals as goal

pub returns-in-Some-clause-resolved : goal.returns-in-Some-clause-resolved
returns-in-Some-clause-resolved c =
    let store = c.args.self.now.store.now in
    let found = rw c.in-Ok-Some.field-0-is at c.in-Ok-Some.ensures in (
      ap (λ path. shown_answer template_of (store_answer (held store) path)) (sym found)
          ∙ shown_path template_of (held store (string_bytes c.in-Ok-Some.path))
          ∙ ap path_answer (ap (stored store) (sym c.as_str.ensures.value) ∙ sym c.in-Some.ensures)
          ∙ ap (λ t. says (template_of t)) (sym c.lent.ensures),
      refl,
    )
