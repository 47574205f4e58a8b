use Rattle.std.proofs.Common.{◌≡◌, ℕ, List, true}
use Rattle.upon_types.specs.Conversions.{EachConverts, converts_entry, pairs_of, last_at}
use Rattle.upon_types.specs.Val.{entry_at, rises}
use Rattle.upon_types.specs.View.{entries_view}
use Rattle.upon_types.specs.declared.value.Value.{Value}
use Rattle.upon_types.proofs.value.Value.from_entries.Given as goal

-- the values so far are what the entries so far become, and the last of equal keys is
abbrev pub invariant-loop-key : goal.invariant-loop-key
invariant-loop-key g l = (vs : List Value) × EachConverts (converts_entry g.V.Into.converts) l.yielded vs
    × (rises (entries_view l.values.entries) ≡ true)
    × ((key : List ℕ) → entry_at key (entries_view l.values.entries) ≡ last_at key (pairs_of l.yielded vs))
