use Rattle.std.proofs.Common.{sym, ap, ◌∙◌}
use Rattle.upon_types.specs.View.{entries_view}
use Rattle.upon_json.proofs.Rising.{entries_view-insert}
use Rattle.upon_data.specs.Entries.{entries_over}
use Rattle.upon_data.proofs.parts.merge_entries.Goals as goal

pub loop-key-preserved : goal.loop-key-preserved
loop-key-preserved c =
    let old = c.loop-key.entries.entries in
    c.loop-key.invariant
    ∙ ap (λ more. entries_over (entries_view more) (entries_view old)) c.in-Some.ensures.steps
    ∙ ap (entries_over (entries_view c.next.new.self)) (sym (ap entries_view c.in_ok-insert.ensures.entries ∙ entries_view-insert old c.in-Some.key c.in-Some.value))
