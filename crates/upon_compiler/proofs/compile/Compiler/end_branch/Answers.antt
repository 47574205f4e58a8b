use Rattle.std.proofs.Common.{sym, ap, ◌∙◌}
use Rattle.std.specs.Prelude.{slice_set}
use Rattle.upon_machine_spec.specs.Code.{jump_unless}
use Rattle.upon_machine_spec.specs.Instr.{jump}
use Rattle.upon_compiler.proofs.Blocks.{branch_kept}
use Rattle.upon_compiler.specs.After.{branch_ended}
use Rattle.upon_compiler.specs.Compiler.{code_of}
use Rattle.upon_compiler.proofs.compile.Compiler.end_branch.Goals as goal

pub returns-in-If-clause-code : goal.returns-in-If-clause-code
returns-in-If-clause-code c =
    let old = code_of c.args.self.now in
    c.replace.ensures.code
    ∙ ap (slice_set old c.in-If.start) (c.jump_unless.ensures ∙ ap (jump_unless c.in-If.not) c.len-end.ensures)
    ∙ sym (ap (λ b. branch_ended b old) c.in-If.is)

pub returns-in-Else-clause-code : goal.returns-in-Else-clause-code
returns-in-Else-clause-code c =
    let old = code_of c.args.self.now in
    c.replace-in-Else.ensures.code
    ∙ ap (λ n. slice_set old c.in-Else.past (jump n)) c.len-end.ensures
    ∙ sym (ap (λ b. branch_ended b old) c.in-Else.is)

pub returns-in-ElseIf-clause-code : goal.returns-in-ElseIf-clause-code
returns-in-ElseIf-clause-code c =
    let old = code_of c.args.self.now in
    c.replace-in-ElseIf.ensures.code
    ∙ ap (λ n. slice_set old c.in-ElseIf.past (jump n)) c.len-end.ensures
    ∙ sym (ap (λ b. branch_ended b old) c.in-ElseIf.is)

pub returns-in_default-clause-code : goal.returns-in_default-clause-code
returns-in_default-clause-code c =
    sym (branch_kept c.args.block (code_of c.args.self.now) c.in_default.not-If c.in_default.not-Else c.in_default.not-ElseIf)
