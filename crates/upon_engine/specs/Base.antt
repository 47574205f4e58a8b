-- What a template is over: a context, a source of values, or the fault of a context that is no value.
use Rattle.std.specs.Prelude.{ℕ, List, [], Option, Some, Result, Ok, Err}
use Rattle.serde.specs.Event.{Event}
use Rattle.upon_types.specs.Error.{fault_of}
use Rattle.upon_types.specs.Fault.{Fault}
use Rattle.upon_types.specs.View.{view}
use Rattle.upon_types.specs.declared.error.Error.{Error}
use Rattle.upon_types.specs.declared.value.Value.{Value}
use Rattle.upon_lookup.specs.Environment.{Root, context, value_source, nothing}
use Rattle.upon_serde.specs.Reads.{ReadsDatum}
use Rattle.upon_serde.specs.Refusal.{IsRefusal}
use Rattle.upon_meaning_spec.specs.Alone.{alone_within, includes_left}
use Rattle.upon_meaning_spec.specs.Engine.{Template, Calls, Resolver, Rendering}
use Rattle.upon_meaning_spec.specs.Outcome.{Outcome, States, fault_outcome}

-- what lies under the bindings; or the fault of a context that is no value
pub data ContextBase : Type 0 where
  on_root : Root → ContextBase
  no_value : Fault → ContextBase

-- a template by itself over a base, where so many includes may be one inside another; of a context that is no value
-- nothing comes out but its fault
abbrev pub outcome_within : {V T : Type 0} → Calls V → Resolver T → ℕ → Template → Option (List ℕ) → ContextBase
    → States V T
    → Outcome (States V T)
outcome_within calls resolve left t name (on_root root) s = alone_within calls resolve left t name root s
outcome_within calls resolve left t name (no_value f) s = fault_outcome f s

-- a template over a base in a rendering, under a name or none; the template itself counts as one of the depth
abbrev pub outcome_over : {V T : Type 0} → Rendering V T → Template → Option (List ℕ) → ContextBase → States V T
    → Outcome (States V T)
outcome_over rendering t name base s =
    outcome_within rendering.calls rendering.resolve (includes_left rendering.limit) t
    name base s

-- the value as a context; or its fault
abbrev pub base_of : Result Value Error → ContextBase
base_of (Ok v) = on_root (context (view v))
base_of (Err e) = no_value (fault_of e)

-- a context that is the value of what was written; or it is none, and refused as such
abbrev pub IsContextOf : (Option (List Event) → Option (List Event) → Type 0) → ContextBase → Type 0
IsContextOf writes (on_root (context v)) = (log : List Event) × writes (Some []) (Some log) × ReadsDatum log [] v
IsContextOf writes (on_root value_source) = ⊥
IsContextOf writes (on_root nothing) = ⊥
IsContextOf writes (no_value f) = IsRefusal f
