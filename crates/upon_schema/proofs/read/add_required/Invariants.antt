use Rattle.std.proofs.Common.{◌≡◌, ℕ, List, true, false, None, drop}
use Rattle.upon_types.specs.Val.{Entries, entry_at}
use Rattle.upon_types.specs.View.{vals_view}
use Rattle.upon_shape_spec.specs.Fits.{Fits, Held}
use Rattle.upon_shape.specs.View.{shape_view}
use Rattle.upon_schema.specs.Covers.{FitsAhead}
use Rattle.upon_schema.specs.Valid.{RequiredHold, has_text}
use Rattle.upon_schema.proofs.read.add_required.Given as goal

-- the keys so far lead to the others where the first ones did; each name to come is one of all
abbrev pub invariant-loop-value : goal.invariant-loop-value
invariant-loop-value l = record {
  ahead : (properties : Entries) (es : Entries) (key : List ℕ) → RequiredHold (vals_view l.required) es
      → (entry_at key properties ≡ None → Held false (Fits (shape_view l.others)) (entry_at key es))
      → FitsAhead properties key (entry_at key es) l.initial.named.items → FitsAhead properties key (entry_at key es) l.named.items;
  names : (key : List ℕ) → has_text key (vals_view (drop l.value-index l.required)) ≡ true → has_text key (vals_view l.required) ≡ true;
}
