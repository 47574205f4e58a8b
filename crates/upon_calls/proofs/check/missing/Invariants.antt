use Rattle.std.proofs.Common.{◌≡◌, take}
use Rattle.upon_types.specs.View.{view}
use Rattle.upon_calls.specs.Check.{is_missing}
use Rattle.upon_calls.proofs.Kept.{kept}
use Rattle.upon_calls.proofs.check.missing.Given as goal

-- those so far that no template has
abbrev pub invariant-loop-name : goal.invariant-loop-name
invariant-loop-name l = l.missing.items ≡ kept (is_missing (view l.templates)) (take l.name-index l.name-items)
