use Rattle.std.proofs.Common.{◌≡◌, drop}
use Rattle.upon_types.specs.View.{vals_view, entries_view}
use Rattle.upon_shape_spec.specs.Cut.{cut_to, cut_keys, AllRiseTo, EntriesRiseTo}
use Rattle.upon_shape_spec.specs.Join.{items_shape, keys_shape}
use Rattle.upon_shape.specs.View.{shape_view, ahead}
use Rattle.upon_shape.proofs.of.+of.Given as goal

-- the shape is that of the values behind
abbrev pub invariant-joined_shape-loop-index : goal.invariant-joined_shape-loop-index
invariant-joined_shape-loop-index l = record {
  shape : shape_view l.shape ≡ cut_to l.levels (items_shape (vals_view (drop l.index l.values)));
  rises : AllRiseTo l.levels (vals_view (drop l.index l.values));
}

-- the keys so far, ahead of those to come, are all
abbrev pub invariant-entries_shape-loop-key : goal.invariant-entries_shape-loop-key
invariant-entries_shape-loop-key l = record {
  shape : ahead l.named.items (cut_keys l.levels (keys_shape (entries_view l.key-iterator))) ≡ cut_keys l.levels (keys_shape (entries_view l.entries.entries));
  rises : EntriesRiseTo l.levels (entries_view l.key-iterator) → EntriesRiseTo l.levels (entries_view l.entries.entries);
}
