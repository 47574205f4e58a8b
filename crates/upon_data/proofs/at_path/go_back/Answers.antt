use Rattle.std.proofs.Common.{◌≡◌, None, option_map, sym, ap, ◌∙◌}
use Rattle.upon_types.specs.Val.{map_val, entry_at}
use Rattle.upon_types.specs.View.{view, entries_view}
use Rattle.upon_types.specs.declared.value.Value.{Map as MapValue}
use Rattle.upon_types.proofs.Views.{view-Map, view-lookup}
use Rattle.upon_data.specs.Entries.{replaced_value}
use Rattle.upon_data.proofs.Paths.{entries_view-set_value, replaced-none}
use Rattle.upon_data.proofs.at_path.go_back.Goals as goal

pub returns-in-Some : goal.returns-in-Some
returns-in-Some c =
    let es = c.replace-inner.new.dest.entries in
    let key = c.args.outer.key.now in
    let inner = c.replace-inner.result in
    let whole = MapValue inner in
    let wrote : entries_view (c.get_mut.follows.lender whole).entries ≡ replaced_value key (view whole) (entries_view es) = ap entries_view (c.get_mut.follows.holds whole).0 ∙ entries_view-set_value key es whole in
    wrote
    ∙ ap (λ v. replaced_value key v (entries_view es)) (view-Map inner)
    ∙ (λ i. replaced_value key (map_val (entries_view (c.replace-inner.ensures.value i).entries)) (entries_view (c.replace-inner.ensures.after i).entries))

pub returns-in_default : goal.returns-in_default
returns-in_default c =
    let es = c.replace-inner.new.dest.entries in
    let key = c.args.outer.key.now in
    let inner = map_val (entries_view c.args.entries.now.entries) in
    let none : entry_at key (entries_view es) ≡ None = sym (view-lookup key es) ∙ ap (option_map view) (sym c.in_default.ensures.value) in
    ap (λ m. entries_view m.entries) c.get_mut.follows.holds-at-none
    ∙ sym (replaced-none key inner (entries_view es) none)
    ∙ ap (λ m. replaced_value key inner (entries_view m.entries)) c.replace-inner.ensures.after
