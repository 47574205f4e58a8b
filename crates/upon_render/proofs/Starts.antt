-- What the items of a list or a map bind, in code and in the value that they are of.
use Rattle.std.proofs.Common.{◌≡◌, List, [], ◌∷◌, map, string_bytes, refl, ap}
use Rattle.upon_types.specs.Path.{Ident, item, key_value}
use Rattle.upon_types.specs.Val.{entry_list}
use Rattle.upon_types.specs.View.{view, vals_view, entries_view}
use Rattle.upon_types.specs.declared.types.Span.{Span}
use Rattle.upon_types.specs.declared.value.Value.{Value}
use Rattle.upon_types.proofs.Bindings.{rises-entries}
use Rattle.upon_types.proofs.Views.{Entry, view-List, view-Map}
use Rattle.upon_lookup.specs.Items.{item_binds, entry_binds}
use Rattle.upon_render.specs.LoopItems.{binds, lone_items, entry_items}
use Rattle.upon_lookup.specs.Vals.{val_list}

pub binds-lone_items : (name : Ident) (vs : List Value) → map (item_binds name) (val_list (vals_view vs)) ≡ map (binds (item name)) (lone_items vs)
binds-lone_items name [] = refl
binds-lone_items name (v ∷ vs) = ap (λ bs. item_binds name (view v) ∷ bs) (binds-lone_items name vs)

pub binds-entry_items : (key value : Ident) (both : Span) (es : List Entry)
    → map (entry_binds key value) (entry_list (entries_view es)) ≡ map (binds (key_value key value both)) (entry_items es)
binds-entry_items key value both [] = refl
binds-entry_items key value both (e ∷ es) = ap (λ bs. entry_binds key value (string_bytes e.0, view e.1) ∷ bs) (binds-entry_items key value both es)

pub ruleset starts = (view-List, view-Map, binds-lone_items, binds-entry_items, rises-entries)
