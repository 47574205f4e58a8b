-- What a path finds in an environment as far as no source has to be asked, and how a search through frames says it.
use Rattle.std.specs.Prelude.{◌≡◌, ℕ, Bool, true, List, Option, Some, None, Result, Ok, Err}
use Rattle.upon_types.specs.Cow.{cow_view}
use Rattle.upon_types.specs.Path.{Member}
use Rattle.upon_types.specs.Val.{Val}
use Rattle.upon_types.specs.declared.error.Error.{Error}
use Rattle.upon_types.specs.declared.value.cow.ValueCow.{ValueCow}
use Rattle.upon_lookup.specs.Answer.{Answers, IsLent, Lends}
use Rattle.upon_lookup.specs.Environment.{Root, context, value_source, nothing, Environment}
use Rattle.upon_lookup.specs.Finding.{Finding, found, at_fault}
use Rattle.upon_lookup.specs.Lookup.{or_not_in_scope, bindings_walk}
use Rattle.upon_lookup.specs.LookupFaults.{not_in_scope}
use Rattle.upon_lookup.specs.Walk.{context_walk}

-- what the root answers; none if it is the source
abbrev pub root_settles : Root → Member → List Member → Option (Finding Val)
root_settles (context v) first rest = Some (or_not_in_scope (context_walk first rest v) first.span)
root_settles value_source first rest = None
root_settles nothing first rest = Some (at_fault (not_in_scope first.span))

-- what is found among the bindings, else what the root answers; none if that is the source
abbrev pub or_root_settles : Finding (Option Val) → Root → Member → List Member → Option (Finding Val)
or_root_settles (found (Some v)) root first rest = Some (found v)
or_root_settles (found None) root first rest = root_settles root first rest
or_root_settles (at_fault fault) root first rest = Some (at_fault fault)

-- what is known of a path: what it comes to, if that needs no source, and whether it is lent
pub record SettledPath : Type 0 where
  pub settled : Option (Finding Val)
  pub is_lent : Bool

-- what is known of a path in an environment, before the source is asked
abbrev pub known_path : Environment → Bool → Member → List Member → SettledPath
known_path env lent first rest =
    record { settled = or_root_settles (bindings_walk env.bindings first rest) env.root first rest; is_lent = lent }

-- the result is what is known
abbrev pub Settles : List ℕ → SettledPath → Result ValueCow Error → Type 0
Settles source k result =
    (outcome : Finding Val) ×
    ((k.settled ≡ Some outcome) × Answers cow_view source outcome result
    × (k.is_lent ≡ true → Lends IsLent outcome result))

-- the result is what is known with these frames; where they bind nothing, the same is known without them
abbrev pub FindsSettled : List ℕ → SettledPath → SettledPath → Result (Option ValueCow) Error → Type 0
FindsSettled source with_frames without (Ok (Some value)) = Settles source with_frames (Ok value)
FindsSettled source with_frames without (Ok None) = with_frames ≡ without
FindsSettled source with_frames without (Err error) = Settles source with_frames (Err error)
