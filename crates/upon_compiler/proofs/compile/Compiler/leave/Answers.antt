use Rattle.std.proofs.Common.{◌≡◌, ◌-◌, [], None, ap, ◌∙◌, take}
use Rattle.upon_compiler.proofs.Blocks.{left_block, left_blocks}
use Rattle.upon_compiler.proofs.compile.Compiler.leave.Goals as goal

pub returns-clause-blocks : goal.returns-clause-blocks
returns-clause-blocks c =
    let old = c.args.self.now.blocks.items in
    let none : c.pop.result ≡ None → c.pop.new.self.items ≡ [] =
    λ e. let empty = rw e at c.pop.ensures.cases in c.pop.ensures.rest ∙ ap (λ k. take (k - 1) old) empty.0 in
    left_blocks c.pop.result old c.pop.new.self.items c.pop.ensures.items none

pub returns-clause-block : goal.returns-clause-block
returns-clause-block c =
    let old = c.args.self.now.blocks.items in
    let none : c.pop.result ≡ None → c.pop.new.self.items ≡ [] =
    λ e. let empty = rw e at c.pop.ensures.cases in c.pop.ensures.rest ∙ ap (λ k. take (k - 1) old) empty.0 in
    left_block c.pop.result old c.pop.new.self.items c.pop.ensures.items none
