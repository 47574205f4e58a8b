use Rattle.std.proofs.Common.{◌≢◌, length, ne_eqb, sym, ◌∙◌, arith}
use Rattle.std.proofs.lemmas.Grind.{common_steps}
use Rattle.upon_types.proofs.Same.{apart_items, apart_entries}
use Rattle.upon_types.proofs.Views.{view-List, view-Map}
use Rattle.upon_types.proofs.value.same.+same.Goals as goal

pub same-returns-else-len : goal.same-returns-else-len
same-returns-else-len t c =
    let apart : length c.in-List-List.one.items ≢ length c.in-List-List.other.items =
    λ even. c.if-len.false (omega (arith, even, c.len.ensures, c.len-in-List-List.ensures, c.in-List-List.one.ok.0, c.in-List-List.other.ok.0)) in
    rw (c.in-List-List.is-0, c.in-List-List.is-1, view-List c.in-List-List.one, view-List c.in-List-List.other) (ne_eqb _ _ c.if-len.false ∙ sym (apart_items _ _ apart))

pub same-returns-else-len-2 : goal.same-returns-else-len-2
same-returns-else-len-2 t c =
    let apart : length c.in-Map-Map.one.entries ≢ length c.in-Map-Map.other.entries =
    λ even. c.if-len-2.false (omega (arith, even, c.len-in-Map-Map.ensures.len, c.len-in-Map-Map-2.ensures.len)) in
    rw (c.in-Map-Map.is-0, c.in-Map-Map.is-1, view-Map c.in-Map-Map.one, view-Map c.in-Map-Map.other) (ne_eqb _ _ c.if-len-2.false ∙ sym (apart_entries _ _ apart))

-- the search finds no proof of these, and takes long
pub same_entries-loop-k-smaller : goal.same_entries-loop-k-smaller
same_entries-loop-k-smaller = grind (arith, common_steps)

pub same_entries-returns : goal.same_entries-returns
same_entries-returns = grind (arith, common_steps)

pub same_items-returns : goal.same_items-returns
same_items-returns = grind (arith, common_steps)
