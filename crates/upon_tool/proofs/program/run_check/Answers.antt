use Rattle.std.proofs.Common.{None, subst}
use Rattle.std.proofs.lemmas.Result.{IfOk-weaker}
use Rattle.upon_calls.specs.Rendering.{EachHasTree}
use Rattle.upon_tool.specs.Filled.{tool_engine, TakesFiles}
use Rattle.upon_tool.specs.Work.{ChecksFiles, EachFileIsRight}
use Rattle.upon_tool.proofs.Calls.{checked_refused, unread_checked}
use Rattle.upon_tool.proofs.Filled.{nothing_sent}
use Rattle.upon_tool.proofs.program.run_check.Goals as goal

pub returns-in_err-files-clause-refused : goal.returns-in_err-files-clause-refused
returns-in_err-files-clause-refused g c =
    unread_checked (g.R.Sources.world c.args.rt.now) c.args.call.now (g.I.Read.remaining c.args.input.now) c.in_err-files.field-0.0 c.from_residual.result c.from_residual.ensures.1 c.in_err-files.ensures.unread

pub returns-clause-unsent : goal.returns-clause-unsent
returns-clause-unsent g c = nothing_sent c.carry_out.result _ _ c.carry_out.ensures.ends (λ status said. said.3.0) c.carry_out.ensures.unsent

pub returns-clause-unwritten : goal.returns-clause-unwritten
returns-clause-unwritten g c = nothing_sent c.carry_out.result _ _ c.carry_out.ensures.ends (λ status said. said.3.1) c.carry_out.ensures.unwritten

pub returns-clause-ends : goal.returns-clause-ends
returns-clause-ends g c = IfOk-weaker c.carry_out.result _ _ (λ status said. record {
  files = c.in_ok-files.files.items;
  folder = said.1.0;
  listed = c.in_ok-files.ensures.files;
  taken = subst (λ functions. TakesFiles c.in_ok-files.files.items (tool_engine None functions) said.1.0) c.as_slice.ensures said.1.1;
  trees = subst EachHasTree said.1.2 said.2;
  callables = c.callables.result;
  may_call = c.callables.ensures;
  checked = subst (λ names. ChecksFiles (g.R.Sources.world c.args.rt.now) c.callables.result said.1.0 names (g.I.Read.remaining c.args.input.now) status) c.as_slice-2.ensures.value (subst (λ e. ChecksFiles (g.R.Sources.world c.args.rt.now) c.callables.result e c.as_slice-2.result.now (g.I.Read.remaining c.args.input.now) status) said.1.2 said.3.2);
  folder_checked = λ zero. subst (λ e. EachFileIsRight c.callables.result e c.in_ok-files.files.items) said.1.2 (said.4 zero);
}) c.carry_out.ensures.ends

pub returns-clause-refused : goal.returns-clause-refused
returns-clause-refused g c = checked_refused (g.R.Sources.world c.args.rt.now) c.args.call.now (g.I.Read.remaining c.args.input.now) c.as_slice-2.result.now c.carry_out.result c.as_slice-2.ensures.value c.carry_out.ensures.refused
