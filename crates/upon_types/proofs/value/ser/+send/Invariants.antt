use Rattle.std.proofs.Common.{drop}
use Rattle.serde.specs.Event.{Log}
use Rattle.upon_types.specs.Events.{SendsVals, SendsEntries}
use Rattle.upon_types.specs.View.{vals_view, entries_view}
use Rattle.upon_types.proofs.value.ser.+send.Given as goal

-- a log that comes of the items to come comes of them all
abbrev pub invariant-send_items-loop-item : goal.invariant-send_items-loop-item
invariant-send_items-loop-item g l =
    (after : Log)
    → SendsVals (vals_view (drop l.item-index l.item-items)) (g.S.Serializer.written l.out) after
    → SendsVals (vals_view l.item-items) (g.S.Serializer.written l.initial.out) after

-- a log that comes of the entries to come comes of them all
abbrev pub invariant-send_entries-loop-key : goal.invariant-send_entries-loop-key
invariant-send_entries-loop-key g l =
    (after : Log)
    → SendsEntries (entries_view l.key-iterator) (g.S.Serializer.written l.out) after
    → SendsEntries (entries_view l.initial.key-iterator) (g.S.Serializer.written l.initial.out) after
