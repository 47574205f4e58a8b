use Rattle.std.proofs.Common.{◌≡◌, ℕ, List, true, map, take}
use Rattle.upon_types.specs.Conversions.{last_at}
use Rattle.upon_types.specs.Val.{entry_at, rises}
use Rattle.upon_types.specs.View.{entries_view}
use Rattle.upon.specs.Program.{word_pair}
use Rattle.upon.proofs.program.read_context.Given as goal

-- the entries are those of the words so far
abbrev pub invariant-loop-word : goal.invariant-loop-word
invariant-loop-word l = (rises (entries_view l.texts.entries) ≡ true)
    × ((key : List ℕ) → entry_at key (entries_view l.texts.entries) ≡ last_at key (map word_pair (take l.word-index l.words)))
