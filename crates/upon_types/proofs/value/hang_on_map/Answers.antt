use Rattle.std.proofs.Common.{arith, ap, string_cmp, subst, sym, Some, ◌∙◌}
use Rattle.std.specs.BTreeMap.{IsOrdered}
use Rattle.std.specs.List.Sorted.{IsStrictlySortedBy}
use Rattle.upon_types.proofs.Weights.{entries_weight-written, entries_weight-part}
use Rattle.upon_types.proofs.value.hang_on_map.Goals as goal

pub returns-in-Some-clause-last : goal.returns-in-Some-clause-last
returns-in-Some-clause-last c =
    let m = c.args.entries.now in
    let e = c.in-Some.ensures in
    let w = c.replace.new.dest in
    let sorted : IsOrdered string_cmp m = subst (IsStrictlySortedBy string_cmp) (e.keys_stay w) (e.update.2 w) in
    let at = sym e.value.1 ∙ c.into_mut.ensures.value ∙ ap Some (sym c.replace.ensures.value) in
    let written = e.update.1 w in
    let swapped = entries_weight-written m.entries _ _ w c.replace.result sorted at written in
    grind (arith, swapped, e.same_map, c.replace.ensures.after)

pub returns-in-Some-clause-part : goal.returns-in-Some-clause-part
returns-in-Some-clause-part c =
    let m = c.args.entries.now in
    let at = sym c.in-Some.ensures.value.1 ∙ c.into_mut.ensures.value ∙ ap Some (sym c.replace.ensures.value) in
    entries_weight-part _ m.entries c.replace.result at
