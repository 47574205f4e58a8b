use Rattle.std.proofs.Common.{◌≡◌, List, [], ◌∷◌, ◌++◌, Some, true, sym, ap, subst, ◌∙◌}
use Rattle.upon_types.specs.Val.{map_val, no_entries, entry_at}
use Rattle.upon_types.specs.View.{entries_view}
use Rattle.upon_data.specs.AtPath.{rebuilt, HasGoneIn}
use Rattle.upon_data.specs.Entries.{replaced_value}
use Rattle.upon_data.specs.declared.at_path.Around.{Around}
use Rattle.upon_data.proofs.Paths.{gone_in, put_back_whole, still_whole}
use Rattle.upon_data.proofs.at_path.enter.Goals as goal

pub returns-clause-ok : goal.returns-clause-ok
returns-clause-ok c =
    let key = c.args.key.now in
    let around = c.args.around.now.items in
    let es = entries_view c.args.entries.now.entries in
    let outer : Around = record { key = c.args.key; entries = c.replace-outer.result } in
    let inner = entries_view c.replace-outer.new.dest.entries in
    let taken = rw c.in-Some.is at c.in_ok-inner.ensures.taken in
    let there : entry_at key es ≡ Some (map_val inner) = taken.0 ∙ ap (λ m. Some (map_val (entries_view m.entries))) (sym c.replace-outer.ensures.after) in
    let left : entries_view outer.entries.entries ≡ replaced_value key (map_val no_entries) es = ap (λ m. entries_view m.entries) c.replace-outer.ensures.value ∙ taken.1 in
    let items : c.push.new.self.items ≡ around ++ outer ∷ [] = c.in_default-push.ensures.items in
    subst (λ (all : List Around). HasGoneIn key es around inner all true) (sym items) (gone_in around outer es inner there left)

pub returns-clause-kept : goal.returns-clause-kept
returns-clause-kept c =
    let key = c.args.key.now in
    let around = c.args.around.now.items in
    let es = entries_view c.args.entries.now.entries in
    let outer : Around = record { key = c.args.key; entries = c.replace-outer.result } in
    let inner = entries_view c.replace-outer.new.dest.entries in
    let taken = rw c.in-Some.is at c.in_ok-inner.ensures.taken in
    let there : entry_at key es ≡ Some (map_val inner) = taken.0 ∙ ap (λ m. Some (map_val (entries_view m.entries))) (sym c.replace-outer.ensures.after) in
    let left : entries_view outer.entries.entries ≡ replaced_value key (map_val no_entries) es = ap (λ m. entries_view m.entries) c.replace-outer.ensures.value ∙ taken.1 in
    let items : c.push.new.self.items ≡ around ++ outer ∷ [] = c.in_default-push.ensures.items in
    ap (λ (all : List Around). rebuilt all inner) items ∙ still_whole around outer es inner there left

pub returns-in-Err-clause-kept : goal.returns-in-Err-clause-kept
returns-in-Err-clause-kept c =
    let key = c.args.key.now in
    let around = c.args.around.now.items in
    let es = entries_view c.args.entries.now.entries in
    let outer : Around = record { key = c.args.key; entries = c.replace-outer.result } in
    let inner = entries_view c.replace-outer.new.dest.entries in
    let taken = rw c.in-Some.is at c.in_ok-inner.ensures.taken in
    let there : entry_at key es ≡ Some (map_val inner) = taken.0 ∙ ap (λ m. Some (map_val (entries_view m.entries))) (sym c.replace-outer.ensures.after) in
    let left : entries_view outer.entries.entries ≡ replaced_value key (map_val no_entries) es = ap (λ m. entries_view m.entries) c.replace-outer.ensures.value ∙ taken.1 in
    let items : c.push.new.self.items ≡ around = c.in-Err.ensures.items in
    let back = ap (λ (o : Around). replaced_value o.key.now (map_val inner) (entries_view o.entries.entries)) c.in-Err.ensures.value_returned in
    (λ i. rebuilt (items i) (c.go_back.ensures i)) ∙ ap (rebuilt around) (back ∙ put_back_whole around outer es inner there left)
