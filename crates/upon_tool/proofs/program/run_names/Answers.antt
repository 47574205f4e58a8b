use Rattle.std.proofs.Common.{None, string_bytes, subst}
use Rattle.std.proofs.lemmas.Result.{IfOk-weaker}
use Rattle.upon_tool.specs.Filled.{tool_engine, TakesFiles}
use Rattle.upon_tool.proofs.Calls.{unread_included, unread_named}
use Rattle.upon_tool.proofs.Filled.{names_listed, nothing_sent}
use Rattle.upon_calls.specs.Rendering.{EachHasTree}
use Rattle.upon_tool.proofs.program.run_names.Goals as goal

pub returns-in_err-source-clause-refused : goal.returns-in_err-source-clause-refused
returns-in_err-source-clause-refused g c =
    unread_named (g.R.Sources.world c.args.rt.now) c.args.call.now (g.I.Read.remaining c.args.input.now) c.in_err-source.field-0.0 c.from_residual.result c.from_residual.ensures.1 c.in_err-source.ensures.unread

pub returns-in_err-files-clause-refused : goal.returns-in_err-files-clause-refused
returns-in_err-files-clause-refused g c =
    unread_included (g.R.Sources.world c.args.rt.now) c.args.call.now (g.I.Read.remaining c.args.input.now) c.in_err-files.field-0.0 c.from_residual-in_err-files.result c.from_residual-in_err-files.ensures.1 c.in_err-files.ensures.unread

pub returns-clause-ends : goal.returns-clause-ends
returns-clause-ends g c = IfOk-weaker c.carry_out.result _ _ (λ status said. record {
  text = string_bytes c.in_ok-source.source;
  files = c.in_ok-files.files.items;
  folder = said.1.0;
  read = c.in_ok-source.ensures.text;
  listed_files = c.in_ok-files.ensures.files;
  taken = subst (λ functions. TakesFiles c.in_ok-files.files.items (tool_engine None functions) said.1.0) c.as_slice.ensures said.1.1;
  trees = subst EachHasTree said.1.2 said.2;
  listed = names_listed said.0 _ _ _ status _ _ said.1.2 said.3.1;
}) c.carry_out.ensures.ends

pub returns-clause-unwritten : goal.returns-clause-unwritten
returns-clause-unwritten g c = nothing_sent c.carry_out.result _ _ c.carry_out.ensures.ends (λ status said. said.3.0) c.carry_out.ensures.unwritten
