use Rattle.std.proofs.Common.{◌≡◌, ◌+◌, ◌∙◌, ◌∷◌, [], arith, sym, ap}
use Rattle.upon_tree.specs.Weight.{base_weight, expr_weight, items_weight, entries_weight, parts_weight}
use Rattle.upon_tree.proofs.Weights.{weight-Base, items_weight-append, entries_weight-append}
use Rattle.upon_tree.proofs.ast.expression.BaseExpr.go_back_to_expr.Goals as goal

pub returns-in-Some : goal.returns-in-Some
returns-in-Some c =
    let was : base_weight c.args.self ≡ items_weight c.in-Items.items.items + 2 = sym c.into_parts.ensures ∙ ap parts_weight c.in-Items.is in
    let parts : items_weight c.in-Items.items.items ≡ items_weight c.pop.new.self.items + (base_weight c.in-Some.last + 0) = ap items_weight c.in-Some.ensures.items ∙ items_weight-append c.pop.new.self.items (c.in-Some.last ∷ []) in
    omega (arith, was, parts, weight-Base c.in-Some.last, c.list.ensures, c.leaf.ensures)

pub returns-in-Some-pop : goal.returns-in-Some-pop
returns-in-Some-pop c =
    let was : base_weight c.args.self ≡ entries_weight c.in-Entries.entries.items + 2 = sym c.into_parts.ensures ∙ ap parts_weight c.in-Entries.is in
    let parts : entries_weight c.in-Entries.entries.items ≡ entries_weight c.pop-in-Entries.new.self.items + (base_weight c.in-Some-pop.last + 0) = ap entries_weight c.in-Some-pop.ensures.items ∙ entries_weight-append c.pop-in-Entries.new.self.items ((c.in-Some-pop.key, c.in-Some-pop.last) ∷ []) in
    omega (arith, was, parts, weight-Base c.in-Some-pop.last, c.map.ensures, c.leaf-in-Some-pop.ensures)

pub returns-in-Inside : goal.returns-in-Inside
returns-in-Inside c =
    let was : base_weight c.args.self ≡ expr_weight c.in-Inside.inside.value + 2 = sym c.into_parts.ensures ∙ ap parts_weight c.in-Inside.is in
    omega (arith, was, c.leaf-in-Inside.ensures, c.leaf-in-Inside-2.ensures, ap expr_weight c.into_inner.ensures)
