use Rattle.std.proofs.Common.{◌≡◌, ◌-◌, length, List, refl, sym, ap, ◌∙◌}
use Rattle.std.specs.List.{slice_get}
use Rattle.upon_compiler.proofs.Blocks.{first, last_first, leaves, none_stays, stays}
use Rattle.upon_compiler.specs.Compiler.{blocks_of}
use Rattle.upon_compiler.specs.declared.compile.OpenBlock.{OpenBlock}
use Rattle.upon_compiler.proofs.compile.Compiler.leave_else_if.Goals as goal

pub returns-in_default-clause-block : goal.returns-in_default-clause-block
returns-in_default-clause-block c =
    let innermost : c.copied.result ≡ first (blocks_of c.args.self.now) =
    c.copied.ensures ∙ c.last.ensures.value ∙ ap (λ (xs : List OpenBlock). slice_get xs (length xs - 1)) c.deref.ensures.value
    ∙ last_first c.args.self.now.blocks.items in
    (refl, none_stays (blocks_of c.args.self.now) cc)

pub returns-then-not-is_else_if-clause-block : goal.returns-then-not-is_else_if-clause-block
returns-then-not-is_else_if-clause-block c =
    let innermost : c.copied.result ≡ first (blocks_of c.args.self.now) =
    c.copied.ensures ∙ c.last.ensures.value ∙ ap (λ (xs : List OpenBlock). slice_get xs (length xs - 1)) c.deref.ensures.value
    ∙ last_first c.args.self.now.blocks.items in
    (refl, stays (blocks_of c.args.self.now) c.in-Some.block (sym innermost ∙ c.in-Some.is) (sym c.is_else_if.ensures ∙ cc))

pub returns-clause-block : goal.returns-clause-block
returns-clause-block c =
    let innermost : c.copied.result ≡ first (blocks_of c.args.self.now) =
    c.copied.ensures ∙ c.last.ensures.value ∙ ap (λ (xs : List OpenBlock). slice_get xs (length xs - 1)) c.deref.ensures.value
    ∙ last_first c.args.self.now.blocks.items in
    leaves c.leave.result (blocks_of c.args.self.now) (blocks_of c.leave.new.self) c.in-Some.block (sym innermost ∙ c.in-Some.is)
    (sym c.is_else_if.ensures ∙ cc) c.leave.ensures.block
