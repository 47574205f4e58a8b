use Rattle.upon_syntax.specs.OpenBlocks.{stack_of}
use Rattle.upon_syntax.proofs.OpenBlocks.{none_done, one_opened, one_taken}
use Rattle.upon_syntax.proofs.compile.parse.open_blocks.OpenBlocks.pass.Goals as goal

pub returns-in-Nothing : goal.returns-in-Nothing
returns-in-Nothing c = λ told keeps.
    let effect = rw c.in-Nothing.is at c.effect_of.ensures in
    none_done told c.args.span (stack_of c.args.self.now) (effect told keeps)

pub returns-in_ok-push-in-Opens : goal.returns-in_ok-push-in-Opens
returns-in_ok-push-in-Opens c = λ told keeps.
    let effect = rw c.in-Opens.is at c.effect_of.ensures in
    one_opened told c.in-Opens.kind c.args.span (stack_of c.args.self.now) (stack_of c.push.new.self) (effect told keeps) c.in_ok-push-in-Opens.ensures

pub returns-in-Closes : goal.returns-in-Closes
returns-in-Closes c = λ told keeps.
    let effect = rw c.in-Closes.is at c.effect_of.ensures in
    one_taken told c.in-Closes.closer c.args.span (stack_of c.args.self.now) (stack_of c.close_taken.new.self) c.close_taken.result (effect told keeps) c.close_taken.ensures
