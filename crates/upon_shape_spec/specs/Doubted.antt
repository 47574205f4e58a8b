-- What is really in doubt in a template and in those that it reaches, each on what is known where it is included.
use Rattle.std.specs.Prelude.{◌≡◌, ◌≤◌, ◌⊎◌, ℕ, List, [], ◌∷◌, ◌++◌, length, Bool, false, None}
use Rattle.upon_types.specs.declared.types.Span.{Span}
use Rattle.upon_meaning_spec.specs.Engine.{Table}
use Rattle.upon_meaning_spec.specs.MapOrder.{IsAmong}
use Rattle.upon_shape_spec.specs.Accepted.{OnSome, Planned, is_planned}
use Rattle.upon_shape_spec.specs.Declared.{Declared}
use Rattle.upon_shape_spec.specs.Doubts.{Unsure, Doubt, has_member, loop_has_member, takes_values, has_text, has_items, is_included, statements_doubts}
use Rattle.upon_shape_spec.specs.Scope.{Scope}

-- the template of a name, on a scope
abbrev pub planned : List ℕ → Scope → Planned
planned name scope = record { name = name; scope = scope }

-- no include is known not to fail
abbrev pub none_included : List ℕ → Scope → Bool
none_included name scope = false

-- there is a template of the name, and this is in doubt in it on the scope, where no include is known not to fail
abbrev pub IsInDoubt : Declared → Table → Planned → Doubt → Type 0
IsInDoubt declared table p d =
    OnSome (table p.name) (λ t. IsAmong d (statements_doubts declared none_included p.scope t.tree))

-- the template of the first name, on its scope, includes that of the second, and the second scope says what is known
-- where it does
abbrev pub IncludesOn : Declared → Table → Planned → Planned → Type 0
IncludesOn declared table p q =
    (place : Span) × IsInDoubt declared table p (record { place = place; unsure = is_included q.name q.scope })

-- a template on a scope is the one that is asked, or is included by one that is reached from it
pub data IsReached (declared : Declared) (table : Table) (asked : Planned) : Planned → Type 0 where
  itself : IsReached declared table asked asked
  next : (p q : Planned) → IsReached declared table asked p → IncludesOn declared table p q
      → IsReached declared table asked q

-- each entry of a plan is reached from the one that is asked
abbrev pub EachReached : Declared → Table → Planned → List Planned → Type 0
EachReached declared table asked plan = (p : Planned) → IsAmong p plan → IsReached declared table asked p

-- after some that were seen, none of these has the name of one before it and a scope that is no wider
abbrev pub AreApart : List Planned → List Planned → Type 0
AreApart seen [] = Unit {0}
AreApart seen (p ∷ rest) = (is_planned seen p.name p.scope ≡ false) × AreApart (seen ++ p ∷ []) rest

-- so many templates on scopes are reached, or more, all of them apart
pub record ReachesMany (declared : Declared) (table : Table) (asked : Planned) (many : ℕ) : Type 0 where
  pub plan : List Planned
  pub are_reached : EachReached declared table asked plan
  pub are_apart : AreApart [] plan
  pub are_many : many ≤ length plan

-- if it is an include, it is not looked into: there is no template of the name, or there are too many on scopes
abbrev pub IsLeftOut : Declared → Table → Planned → ℕ → Unsure → Type 0
IsLeftOut declared table asked many (is_included name scope) =
    (table name ≡ None) ⊎ ReachesMany declared table asked many
IsLeftOut declared table asked many (has_member s) = Unit {0}
IsLeftOut declared table asked many loop_has_member = Unit {0}
IsLeftOut declared table asked many (takes_values ss) = Unit {0}
IsLeftOut declared table asked many (has_text s) = Unit {0}
IsLeftOut declared table asked many (has_items s) = Unit {0}

-- a place in the template of a name, and what is not sure there
pub record PlaceInDoubt : Type 0 where
  pub template : List ℕ
  pub doubt : Doubt

-- the place is really in doubt: the template is reached on some scope, and this is in doubt in it there; an include,
-- only where it is not looked into
pub record IsDoubted (declared : Declared) (table : Table) (asked : Planned) (many : ℕ) (m : PlaceInDoubt)
    : Type 0 where
  pub scope : Scope
  pub is_reached : IsReached declared table asked (planned m.template scope)
  pub is_in_doubt : IsInDoubt declared table (planned m.template scope) m.doubt
  pub is_left_out : IsLeftOut declared table asked many m.doubt.unsure

-- these are the misfits of a template, if as many templates on scopes are looked into: there is one at least, and each
-- is really in doubt
abbrev pub AreDoubted : Declared → Table → Planned → ℕ → List PlaceInDoubt → Type 0
AreDoubted declared table asked many ms =
    (ms ≡ [] → ⊥) × ((m : PlaceInDoubt) → IsAmong m ms → IsDoubted declared table asked many m)
