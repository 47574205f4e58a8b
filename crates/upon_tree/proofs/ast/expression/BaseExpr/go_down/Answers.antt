use Rattle.std.proofs.Common.{◌≡◌, ◌+◌, ◌∙◌, arith, sym, ap}
use Rattle.upon_tree.specs.Weight.{base_weight, expr_weight, items_weight, entries_weight, parts_weight}
use Rattle.upon_tree.proofs.Weights.{weight-Base}
use Rattle.upon_tree.proofs.ast.expression.BaseExpr.go_down.Goals as goal

pub returns-in-Ok-clause-same : goal.returns-in-Ok-clause-same
returns-in-Ok-clause-same c =
    let was : base_weight c.args.self ≡ items_weight c.in-Items.items.items + 2 = sym c.into_parts.ensures ∙ ap parts_weight c.in-Items.is in
    omega (arith, was, weight-Base c.in-Ok.last, c.list.ensures, c.in-Ok.ensures.last)

pub returns-in-Ok-clause-inside : goal.returns-in-Ok-clause-inside
returns-in-Ok-clause-inside c =
    let was : base_weight c.args.self ≡ items_weight c.in-Items.items.items + 2 = sym c.into_parts.ensures ∙ ap parts_weight c.in-Items.is in
    omega (arith, was, weight-Base c.in-Ok.last, c.in-Ok.ensures.part)

pub returns-in-Ok-hang_on_entries-clause-same : goal.returns-in-Ok-hang_on_entries-clause-same
returns-in-Ok-hang_on_entries-clause-same c =
    let was : base_weight c.args.self ≡ entries_weight c.in-Entries.entries.items + 2 = sym c.into_parts.ensures ∙ ap parts_weight c.in-Entries.is in
    omega (arith, was, weight-Base c.in-Ok-hang_on_entries.last, c.map.ensures, c.in-Ok-hang_on_entries.ensures.last)

pub returns-in-Ok-hang_on_entries-clause-inside : goal.returns-in-Ok-hang_on_entries-clause-inside
returns-in-Ok-hang_on_entries-clause-inside c =
    let was : base_weight c.args.self ≡ entries_weight c.in-Entries.entries.items + 2 = sym c.into_parts.ensures ∙ ap parts_weight c.in-Entries.is in
    omega (arith, was, weight-Base c.in-Ok-hang_on_entries.last, c.in-Ok-hang_on_entries.ensures.part)

pub returns-in-Inside-clause-same : goal.returns-in-Inside-clause-same
returns-in-Inside-clause-same c =
    let was : base_weight c.args.self ≡ expr_weight c.in-Inside.inside.value + 2 = sym c.into_parts.ensures ∙ ap parts_weight c.in-Inside.is in
    omega (arith, was, weight-Base c.parentheses.result, c.parentheses.ensures, ap expr_weight c.deref_mut.ensures.value, ap expr_weight c.replace-hand.ensures.value, ap expr_weight c.replace-hand.ensures.after)
