use Rattle.std.proofs.Common.{◌≡◌, Some, option_map, sym, ap, ◌∙◌}
use Rattle.upon_types.specs.Val.{entry_at}
use Rattle.upon_types.specs.View.{view, entries_view}
use Rattle.upon_types.proofs.Views.{view-lookup}
use Rattle.upon_data.specs.Entries.{changed_at, replaced_value}
use Rattle.upon_data.proofs.Paths.{entries_view-set_value, replaced-same}
use Rattle.upon_data.proofs.at_path.take_map.Goals as goal

pub returns-in-Some-take_entries-clause-taken : goal.returns-in-Some-take_entries-clause-taken
returns-in-Some-take_entries-clause-taken c =
    let es = c.args.entries.now.entries in
    let key = c.args.key.now in
    let new = c.take_entries.new.value in
    let there : entry_at key (entries_view es) ≡ Some (view c.in-Some.value.now) = sym (view-lookup key es) ∙ ap (option_map view) (sym c.in-Some.ensures.value) in
    let wrote : entries_view (c.get_mut.follows.lender new).entries ≡ replaced_value key (view new) (entries_view es) = ap entries_view (c.get_mut.follows.holds new).0 ∙ entries_view-set_value key es new in
    (there ∙ ap Some c.in-Some-take_entries.ensures.taken, wrote ∙ ap (λ v. replaced_value key v (entries_view es)) c.in-Some-take_entries.ensures.emptied)

pub returns-in-None-take_entries-clause-refused : goal.returns-in-None-take_entries-clause-refused
returns-in-None-take_entries-clause-refused c =
    let es = c.args.entries.now.entries in
    let key = c.args.key.now in
    let there : entry_at key (entries_view es) ≡ Some (view c.in-Some.value.now) = sym (view-lookup key es) ∙ ap (option_map view) (sym c.in-Some.ensures.value) in
    λ change.
    ap (changed_at key change (entries_view es)) there
    ∙ ap (option_map (λ w. replaced_value key w (entries_view es))) (c.in-None-take_entries.ensures.none change)

pub returns-in-None-take_entries-clause-kept : goal.returns-in-None-take_entries-clause-kept
returns-in-None-take_entries-clause-kept c =
    let es = c.args.entries.now.entries in
    let key = c.args.key.now in
    let old = c.in-Some.value.now in
    let new = c.take_entries.new.value in
    let there : entry_at key (entries_view es) ≡ Some (view old) = sym (view-lookup key es) ∙ ap (option_map view) (sym c.in-Some.ensures.value) in
    let wrote : entries_view (c.get_mut.follows.lender new).entries ≡ replaced_value key (view new) (entries_view es) = ap entries_view (c.get_mut.follows.holds new).0 ∙ entries_view-set_value key es new in
    wrote ∙ ap (λ v. replaced_value key (view v) (entries_view es)) c.in-None-take_entries.ensures.kept ∙ replaced-same key (view old) (entries_view es) there

pub returns-in-None-clause-nothing : goal.returns-in-None-clause-nothing
returns-in-None-clause-nothing c =
    let es = c.args.entries.now.entries in
    let key = c.args.key.now in
    (sym (view-lookup key es) ∙ ap (option_map view) (sym c.in-None.ensures.value), ap (λ m. entries_view m.entries) c.get_mut.follows.holds-at-none)
