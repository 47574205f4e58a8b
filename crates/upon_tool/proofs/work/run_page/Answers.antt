use Rattle.std.proofs.Common.{Ok, Err, refl}
use Rattle.upon_tool.specs.Work.{to_standard}
use Rattle.upon_tool.proofs.Outputs.{filed_so, no_file, no_output}
use Rattle.upon_tool.proofs.work.run_page.Goals as goal

pub returns-in_default-clause-ends : goal.returns-in_default-clause-ends
returns-in_default-clause-ends g c = λ standard. (refl, c.show.ensures.ends)

pub returns-in_default-clause-filed : goal.returns-in_default-clause-filed
returns-in_default-clause-filed g c = λ file. absurd (no_output (to_standard c.args.path) c.in_default.ensures.file file)

pub returns-in-Ok-clause-ends : goal.returns-in-Ok-clause-ends
returns-in-Ok-clause-ends g c = λ standard. absurd (no_file (to_standard c.args.path) c.in-Some.ensures.file standard)

pub returns-in-Ok-clause-filed : goal.returns-in-Ok-clause-filed
returns-in-Ok-clause-filed g c = λ file. (refl, filed_so _ c.args.page.now _ _ 0 (Ok tt) _ _ c.in-Some.ensures.name refl c.in-Ok.ensures)

pub returns-in-Err-clause-ends : goal.returns-in-Err-clause-ends
returns-in-Err-clause-ends g c = λ standard. absurd (no_file (to_standard c.args.path) c.in-Some.ensures.file standard)

pub returns-in-Err-clause-filed : goal.returns-in-Err-clause-filed
returns-in-Err-clause-filed g c = λ file. (refl, filed_so _ c.args.page.now _ _ c.explain.result (Err c.in-Err.failure) _ _ c.in-Some.ensures.name c.explain.ensures c.in-Err.ensures)
