use Rattle.std.proofs.Common.{◌≡◌, false, take}
use Rattle.std.specs.Prelude.{All}
use Rattle.upon_types.specs.View.{view}
use Rattle.upon_needs.specs.Names.{texts}
use Rattle.upon_calls.specs.Check.{is_missing}
use Rattle.upon_calls.proofs.pages.first_missing.Given as goal

-- a template has each name so far
abbrev pub invariant-loop-name : goal.invariant-loop-name
invariant-loop-name l = All (λ name. is_missing (view l.templates) name ≡ false) (texts (take l.name-index l.names))
