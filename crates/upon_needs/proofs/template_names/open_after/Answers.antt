use Rattle.std.proofs.Common.{rules, ◌≡◌, [], ◌∷◌, ◌++◌, None, length, refl, sym, ◌∙◌}
use Rattle.upon_needs.proofs.OpenBlocks.{opened_by, closed_by}
use Rattle.upon_needs.proofs.template_names.open_after.Goals as goal

pub returns-in_ok-push : goal.returns-in_ok-push
returns-in_ok-push c = λ name.
    let more : c.push.new.self.items ≡ c.args.opened.now.items ++ c.args.instr ∷ [] = search rules in
    opened_by name c.args.at c.args.instr.now _ _ c.args.instr c.opens.result more refl c.opens.ensures c.if-opens.true

pub returns-then-closes : goal.returns-then-closes
returns-then-closes c = λ name.
    let empty : c.pop.result ≡ None → length c.pop.new.self.items ≡ 0 = search rules in
    closed_by name c.args.at _ _ _ c.pop.result c.pop.ensures.items (sym c.opens.ensures ∙ c.if-opens.false) (sym c.closes.ensures ∙ c.if-closes.true) empty
