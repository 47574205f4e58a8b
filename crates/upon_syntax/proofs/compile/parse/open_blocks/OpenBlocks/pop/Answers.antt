use Rattle.std.proofs.Common.{◌≡◌, ◌-◌, [], None, ap, ◌∙◌, take}
use Rattle.upon_syntax.proofs.OpenBlocks.{popped}
use Rattle.upon_syntax.proofs.compile.parse.open_blocks.OpenBlocks.pop.Goals as goal

pub returns : goal.returns
returns c kind =
    let none : c.pop.result ≡ None → c.pop.new.self.items ≡ [] = λ e. let empty = rw e at c.pop.ensures.cases in c.pop.ensures.rest ∙ ap (λ k. take (k - 1) c.args.self.now.blocks.items) empty.0 in
    popped kind c.args.self.now.blocks.items c.pop.new.self.items c.pop.result c.pop.ensures.items none
