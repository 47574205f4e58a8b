-- A value's view has as many items, and as many entries, as the value.
use Rattle.std.proofs.Common.{◌≡◌, List, [], ◌∷◌, length, suc, refl, ap}
use Rattle.upon_types.specs.Events.{vals_count, entries_count}
use Rattle.upon_types.specs.View.{vals_view, entries_view}
use Rattle.upon_types.specs.declared.value.Value.{Value}
use Rattle.upon_types.proofs.Views.{Entry}

pub vals_count-vals_view : (vs : List Value) → vals_count (vals_view vs) ≡ length vs
vals_count-vals_view [] = refl
vals_count-vals_view (v ∷ vs) = ap suc (vals_count-vals_view vs)

pub entries_count-entries_view : (es : List Entry) → entries_count (entries_view es) ≡ length es
entries_count-entries_view [] = refl
entries_count-entries_view (e ∷ es) = ap suc (entries_count-entries_view es)
