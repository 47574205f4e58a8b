use Rattle.std.proofs.Common.{length, ap, ◌∙◌}
use Rattle.std.specs.Prelude.{slice_set}
use Rattle.upon_machine_spec.specs.Code.{jump_unless}
use Rattle.upon_compiler.specs.Compiler.{code_of}
use Rattle.upon_compiler.proofs.compile.Compiler.go_past.Goals as goal

pub returns-clause-code : goal.returns-clause-code
returns-clause-code c =
    let way = code_of c.push.new.self in
    let test = jump_unless c.args.not in
    c.replace.ensures.code
    ∙ ap (slice_set way c.args.start) (c.jump_unless.ensures ∙ ap test c.len-other.ensures)
    ∙ ap (λ x. slice_set x c.args.start (test (length x))) c.in_ok-push.ensures.code
