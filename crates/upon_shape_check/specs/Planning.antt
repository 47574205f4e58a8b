-- How a plan is made: of templates that are reached, each of which is looked into.
use Rattle.std.specs.Prelude.{◌≡◌, ◌≤◌, ◌⊎◌, List, [], ◌++◌, length, true, Option, Some, None, IsSome}
use Rattle.upon_types.specs.declared.types.Span.{Span}
use Rattle.upon_meaning_spec.specs.Engine.{Table}
use Rattle.upon_meaning_spec.specs.MapOrder.{IsAmong}
use Rattle.upon_shape_spec.specs.Accepted.{Planned, is_planned}
use Rattle.upon_shape_spec.specs.Declared.{Declared}
use Rattle.upon_shape_spec.specs.Doubted.{planned, EachReached, AreApart}
use Rattle.upon_shape_spec.specs.Doubts.{Unsure, Doubt, has_member, loop_has_member, takes_values, has_text, has_items, is_included}
use Rattle.upon_shape_check.specs.Verdict.{AreDoubtsOf}
use Rattle.upon_shape_check.specs.declared.plan.TheConstants.{MOST_PLANNED}

-- there is a template for each entry of a plan
abbrev pub EachHeld : Table → List Planned → Type 0
EachHeld table plan = (p : Planned) → IsAmong p plan → IsSome (table p.name)

-- each of these is one of those
abbrev pub AreAmong : List Planned → List Planned → Type 0
AreAmong these those = (p : Planned) → IsAmong p these → IsAmong p those

-- the include that is not sure, if it is one
abbrev pub include_of : Unsure → Option Planned
include_of (is_included name scope) = Some (planned name scope)
include_of (has_member s) = None
include_of loop_has_member = None
include_of (takes_values ss) = None
include_of (has_text s) = None
include_of (has_items s) = None

-- an include of this template on this scope is in doubt
abbrev pub IsIncludeIn : List Doubt → Planned → Type 0
IsIncludeIn ds p = (place : Span) × IsAmong (record { place = place; unsure = is_included p.name p.scope }) ds

-- an include needs no entry more: there is no template of the name, the plan has it, or it is full
abbrev pub IsSettled : Table → List Planned → Planned → Type 0
IsSettled table plan p =
    (table p.name ≡ None) ⊎ ((is_planned plan p.name p.scope ≡ true) ⊎ (MOST_PLANNED ≤ length plan))

-- a plan gets entries that have templates and are apart from those before, if it is not full; each is one of some that
-- it may get, and each of those that it is to get needs no entry more
pub record AddsEntries (table : Table) (May : Planned → Type 0) (old new : List Planned) : Type 0 where
  pub added : List Planned
  pub is_made : new ≡ old ++ added
  pub each : (q : Planned) → IsAmong q added → May q × IsSome (table q.name)
  pub are_apart : AreApart old added
  pub are_settled : (q : Planned) → May q → IsSettled table new q
  pub are_few : length old ≤ MOST_PLANNED → length new ≤ MOST_PLANNED

-- it gets this one
abbrev pub AddsOne : Table → Planned → List Planned → List Planned → Type 0
AddsOne table p old new = AddsEntries table (λ q. q ≡ p) old new

-- it gets the includes that are in doubt
abbrev pub AddsIncluded : Table → List Doubt → List Planned → List Planned → Type 0
AddsIncluded table ds old new = AddsEntries table (IsIncludeIn ds) old new

-- a template on a scope is looked into: of what is in doubt in it by a plan to which entries were added since, no
-- include needs an entry more
pub record IsLookedInto (declared : Declared) (table : Table) (plan : List Planned) (p : Planned) : Type 0 where
  pub before : List Planned
  pub since : List Planned
  pub is_made : plan ≡ before ++ since
  pub doubts : List Doubt
  pub are_doubts : AreDoubtsOf declared table before p doubts
  pub are_settled : (q : Planned) → IsIncludeIn doubts q → IsSettled table plan q

-- each entry of a plan is looked into
abbrev pub EachLookedInto : Declared → Table → List Planned → Type 0
EachLookedInto declared table plan = (p : Planned) → IsAmong p plan → IsLookedInto declared table plan p

-- a plan for a template: its entries have templates, are reached and apart, and they and the template are looked into
pub record IsPlanFor (declared : Declared) (table : Table) (asked : Planned) (plan : List Planned) : Type 0 where
  pub are_held : EachHeld table plan
  pub are_reached : EachReached declared table asked plan
  pub are_apart : AreApart [] plan
  pub is_looked_into : IsLookedInto declared table plan asked
  pub are_looked_into : EachLookedInto declared table plan
