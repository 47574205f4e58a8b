-- How deep templates include each other.
use Rattle.std.specs.Prelude.{◌≡◌, ℕ, zero, suc, ◌+◌, List, [], ◌++◌}
use Rattle.upon_meaning_spec.specs.Engine.{Table}
use Rattle.upon_shape_spec.specs.Accepted.{EachAccepted, Planned}
use Rattle.upon_shape_spec.specs.Declared.{Declared}
use Rattle.upon_shape_check.specs.Verdict.{IsAcceptedBy}
use Rattle.upon_shape_check.specs.declared.accepted.Accepted.{Accepted}
use Rattle.upon_shape_check.specs.declared.accepted.Accepted.TheVariants.{EndsWithin, EndsUnlessDeep}

-- a plan has the templates of another one, and more, each of which is accepted where includes are those of the other
pub record AddsAccepted (declared : Declared) (table : Table) (below plan : List Planned) : Type 0 where
  pub added : List Planned
  pub each : EachAccepted declared table below added
  pub is_made : plan ≡ below ++ added

-- the templates of a plan include each other at most so deep: there are none, or they are those of a plan at most one
-- less deep, and more that include none but these
abbrev pub IncludeWithin : Declared → Table → ℕ → List Planned → Type 0
IncludeWithin declared table zero plan = plan ≡ []
IncludeWithin declared table (suc n) plan =
    (below : List Planned) × IncludeWithin declared table n below × AddsAccepted declared table below plan

-- a template is accepted at a depth, in which it counts as one: it includes those of a plan that is one less deep
pub record IsAcceptedAtDepth (declared : Declared) (table : Table) (asked : Planned) (depth : ℕ) : Type 0 where
  pub levels : ℕ
  pub plan : List Planned
  pub within : IncludeWithin declared table levels plan
  pub accepted : IsAcceptedBy declared table plan asked
  pub is_more : depth ≡ levels + 1

-- it is accepted at the depth that is said, if one is
abbrev pub IsAcceptedAs : Declared → Table → Planned → Accepted → Type 0
IsAcceptedAs declared table asked (EndsWithin depth) = IsAcceptedAtDepth declared table asked depth
IsAcceptedAs declared table asked EndsUnlessDeep = Unit {0}
