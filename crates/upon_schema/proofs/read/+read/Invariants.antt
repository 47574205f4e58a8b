use Rattle.std.proofs.Common.{◌≡◌, ℕ, List, ◌+◌, ◌*◌}
use Rattle.upon_types.specs.Val.{Val}
use Rattle.upon_schema.specs.Counted.{count_entries}
use Rattle.upon_schema.specs.Refused.{HasEntry}
use Rattle.upon_types.specs.View.{view, vals_view, entries_view}
use Rattle.upon_schema.specs.Place.{ValidAt, count_at}
use Rattle.upon_schema.specs.Valid.{properties_of}
use Rattle.upon_schema.proofs.KeySteps.{ReadsAhead}
use Rattle.upon_schema.proofs.read.+read.Given as goal

abbrev pub decreases-read : goal.decreases-read
decreases-read l = 4 * l.place.now.depth

abbrev pub decreases-referred_shape : goal.decreases-referred_shape
decreases-referred_shape l = 4 * l.place.now.depth + 1

abbrev pub decreases-keywords_shape : goal.decreases-keywords_shape
decreases-keywords_shape l = 4 * l.place.now.depth + 3

abbrev pub decreases-shape_at : goal.decreases-shape_at
decreases-shape_at l = 4 * l.place.now.depth + 1

abbrev pub decreases-keys_of : goal.decreases-keys_of
decreases-keys_of l = 4 * l.place.now.depth + 2

abbrev pub decreases-properties : goal.decreases-properties
decreases-properties l = 4 * l.place.now.depth + 1

-- the keys so far lead to what is said of the properties to come; each of those is a property
abbrev pub invariant-properties-loop-name : goal.invariant-properties-loop-name
invariant-properties-loop-name l = record {
  reads : ReadsAhead (ValidAt l.place) (properties_of (view l.schema)) (vals_view l.required) (entries_view l.name-iterator) l.named.items;
  among : (key : List ℕ) (v : Val) → HasEntry key v (entries_view l.name-iterator) → HasEntry key v (properties_of (view l.schema));
  counted : l.initial.left + count_entries (count_at l.place) (entries_view l.name-iterator) ≡ l.left + count_entries (count_at l.place) (properties_of (view l.schema));
}
