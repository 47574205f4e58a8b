use Rattle.std.proofs.Common.{◌≡◌, ℕ, List, true, take, option_map}
use Rattle.upon_types.specs.Conversions.{last_at, or_else}
use Rattle.upon_types.specs.Val.{Entries, entry_at, rises}
use Rattle.upon_types.specs.View.{entries_view}
use Rattle.upon_json.specs.Context.{HasEntries, set_pairs}
use Rattle.upon_json.proofs.context.context.Given as goal

-- the entries are those of the data, with the texts so far over them
abbrev pub invariant-loop-key : goal.invariant-loop-key
invariant-loop-key l = (es : Entries) × HasEntries (option_map (λ text. text.now) l.fn.json) es
    × (rises (entries_view l.entries.entries) ≡ true)
    × ((key : List ℕ) → entry_at key (entries_view l.entries.entries) ≡ or_else (last_at key (set_pairs (take l.key-index l.fn.set))) (entry_at key es))
