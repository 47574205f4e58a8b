use Rattle.std.proofs.Common.{◌≡◌, length}
use Rattle.std.specs.Iterator.Adapters.{zip_first, zip_second}
use Rattle.std.specs.Slice.Iter.{iter_rest}
use Rattle.upon_types.specs.Same.{vals_agree, entries_agree}
use Rattle.upon_types.specs.View.{vals_view, entries_view}
use Rattle.upon_types.proofs.value.same.+same.Given as goal

abbrev pub invariant-same_items-loop-x : goal.invariant-same_items-loop-x
invariant-same_items-loop-x l = record {
  level : length (iter_rest (zip_first l.x-iterator)) ≡ length (iter_rest (zip_second l.x-iterator));
  left : vals_agree (vals_view (iter_rest (zip_first l.x-iterator))) (vals_view (iter_rest (zip_second l.x-iterator))) ≡ vals_agree (vals_view l.a) (vals_view l.b);
}

abbrev pub invariant-same_entries-loop-k : goal.invariant-same_entries-loop-k
invariant-same_entries-loop-k l = record {
  level : length (zip_first l.k-iterator) ≡ length (zip_second l.k-iterator);
  left : entries_agree (entries_view (zip_first l.k-iterator)) (entries_view (zip_second l.k-iterator)) ≡ entries_agree (entries_view l.a.entries) (entries_view l.b.entries);
}
