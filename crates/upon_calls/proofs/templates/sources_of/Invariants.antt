use Rattle.std.proofs.Common.{◌≡◌}
use Rattle.upon_types.specs.View.{entries_view}
use Rattle.upon_calls.specs.Templates.{lent_pairs, texts_in}
use Rattle.upon_calls.proofs.Sources.{before}
use Rattle.upon_calls.proofs.templates.sources_of.Given as goal

-- the templates so far, with those of the entries that are left, are all
abbrev pub invariant-loop-name : goal.invariant-loop-name
invariant-loop-name l = texts_in (entries_view l.initial.name-iterator) ≡ before (lent_pairs l.sources.items) (texts_in (entries_view l.name-iterator))
