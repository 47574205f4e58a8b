use Rattle.std.proofs.Common.{◌≡◌, [], length, drop, sym, subst, arith, rules}
use Rattle.std.proofs.lemmas.Grind.{common_steps}
use Rattle.std.proofs.lemmas.List.{drop_all}
use Rattle.std.proofs.lemmas.Result.{on_ok_weaker}
use Rattle.upon_types.specs.Events.{SendsVals, SendsEntries}
use Rattle.upon_types.specs.View.{vals_view, entries_view}
use Rattle.upon_types.proofs.Sending.{sends_list, sends_map}
use Rattle.upon_types.proofs.value.ser.+send.Goals as goal

pub send_items-returns : goal.send_items-returns
send_items-returns g t c =
    let items = c.args.items.now.items in
    let slice = c.deref-item-items.result.now in
    let inside = g.S.Serializer.written c.begin_seq.new.self in
    let after = g.S.Serializer.written c.end_seq.new.self in
    let same : slice ≡ items = c.deref-item-items.ensures.value in
    let count : c.len.result ≡ length items = search rules in
    let none : drop c.loop-item.item-index slice ≡ [] = drop_all c.loop-item.item-index slice (omega arith) in
    on_ok_weaker c.end_seq.result (λ ended.
    let rest = subst (λ vs. SendsVals (vals_view vs) (g.S.Serializer.written c.loop-item.out) after) (sym none) ended in
    let all = subst (λ vs. SendsVals (vals_view vs) inside after) same (c.loop-item.invariant after rest) in
    sends_list items c.len.result (g.S.Serializer.written c.args.out.now) inside after count c.in_ok-begin_seq.ensures all)
    c.end_seq.ensures

pub send_entries-returns : goal.send_entries-returns
send_entries-returns g t c =
    let entries = c.args.entries.now.entries in
    let inside = g.S.Serializer.written c.begin_map.new.self in
    let after = g.S.Serializer.written c.end_map.new.self in
    let same : c.into_iter-key-iterator.result ≡ entries = search rules in
    let count : c.len.result ≡ length entries = search rules in
    on_ok_weaker c.end_map.result (λ ended.
    let rest = subst (λ es. SendsEntries (entries_view es) (g.S.Serializer.written c.loop-key.out) after) (sym c.in-None.ensures.steps.0) ended in
    let all = subst (λ es. SendsEntries (entries_view es) inside after) same (c.loop-key.invariant after rest) in
    sends_map entries c.len.result (g.S.Serializer.written c.args.out.now) inside after count c.in_ok-begin_map.ensures all)
    c.end_map.ensures

-- the search finds no proof of these, and takes long
pub send_entries-loop-key-smaller : goal.send_entries-loop-key-smaller
send_entries-loop-key-smaller = grind (arith, common_steps)

pub send_items-loop-item-preserved : goal.send_items-loop-item-preserved
send_items-loop-item-preserved = grind (arith, common_steps)
