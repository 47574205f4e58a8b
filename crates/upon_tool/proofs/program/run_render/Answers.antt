use Rattle.std.proofs.Common.{string_bytes, subst}
use Rattle.std.proofs.lemmas.Result.{IfOk-weaker}
use Rattle.upon_types.specs.View.{view}
use Rattle.upon_tool.specs.Calls.{limits_asked}
use Rattle.upon_calls.specs.Filled.{functions_if}
use Rattle.upon_tool.specs.Filled.{tool_engine, TakesFiles}
use Rattle.upon_tool.specs.Work.{output_name}
use Rattle.upon_tool.proofs.Calls.{context_read, data_refused, no_context, unread_file, unread_parts, wrong_words}
use Rattle.upon_tool.proofs.Filled.{page_filed, page_shown}
use Rattle.upon_calls.specs.Rendering.{EachHasTree}
use Rattle.upon_tool.proofs.program.run_render.Goals as goal

pub returns-in_err-check-clause-refused : goal.returns-in_err-check-clause-refused
returns-in_err-check-clause-refused g c =
    data_refused (g.R.Sources.world c.args.rt.now) c.args.call.now (g.I.Read.remaining c.args.input.now) c.in_err-check.field-0.0 c.from_residual.result c.from_residual.ensures.1
    (wrong_words (g.R.Sources.world c.args.rt.now) c.args.call.now.data c.of-words.result c.of-words.ensures _ _ (g.I.Read.remaining c.args.input.now) c.in_err-check.field-0.0 c.eq.ensures c.in_err-check.ensures.refused)

pub returns-in_err-source-clause-refused : goal.returns-in_err-source-clause-refused
returns-in_err-source-clause-refused g c =
    unread_file (g.R.Sources.world c.args.rt.now) c.args.call.now (g.I.Read.remaining c.args.input.now) c.in_err-source.field-0.0 c.from_residual-in_err-source.result c.from_residual-in_err-source.ensures.1 c.in_err-source.ensures.unread

pub returns-in_err-value-clause-refused : goal.returns-in_err-value-clause-refused
returns-in_err-value-clause-refused g c =
    data_refused (g.R.Sources.world c.args.rt.now) c.args.call.now (g.I.Read.remaining c.args.input.now) c.in_err-value.field-0.0 c.from_residual-in_err-value.result c.from_residual-in_err-value.ensures.1
    (no_context (g.R.Sources.world c.args.rt.now) c.args.call.now.data c.of-words.result c.of-words.ensures _ (g.I.Read.remaining c.args.input.now) (g.I.Read.remaining c.text_of.new.input) c.in_err-value.field-0.0 c.text_of.ensures.kept c.in_err-value.ensures.refused)

pub returns-in_err-files-clause-refused : goal.returns-in_err-files-clause-refused
returns-in_err-files-clause-refused g c =
    unread_parts (g.R.Sources.world c.args.rt.now) c.args.call.now (g.I.Read.remaining c.args.input.now) c.in_err-files.field-0.0 c.from_residual-in_err-files.result c.from_residual-in_err-files.ensures.1 c.in_err-files.ensures.unread

pub returns-clause-ends : goal.returns-clause-ends
returns-clause-ends g c = IfOk-weaker c.carry_out.result _ _ (λ status said. record {
  text = string_bytes c.in_ok-source.source;
  later = g.I.Read.remaining c.text_of.new.input;
  value = view c.in_ok-value.value;
  last = g.I.Read.remaining c.context.new.input;
  files = c.in_ok-files.files.items;
  folder = said.1.0;
  read = c.in_ok-source.ensures.text;
  left = c.text_of.ensures.kept;
  data_read = context_read (g.R.Sources.world c.args.rt.now) c.args.call.now.data c.of-words.result c.of-words.ensures (g.I.Read.remaining c.text_of.new.input) (view c.in_ok-value.value) (g.I.Read.remaining c.context.new.input) c.in_ok-value.ensures.read;
  listed_files = c.in_ok-files.ensures.files;
  taken = subst (λ functions. TakesFiles c.in_ok-files.files.items (tool_engine c.args.call.now.escape functions) said.1.0) c.standard.ensures said.1.1;
  trees = subst EachHasTree said.1.2 said.2;
  shown = λ standard. (
    (said.3.0 standard).0,
    page_shown c.args.call.now.escape (functions_if c.args.call.now.standard) c.in_ok-files.files.items said.1.0 said.0 c.args.call.now.file.now (view c.in_ok-value.value) c.limits_of.result (limits_asked c.args.call.now) (string_bytes c.in_ok-source.source) status (g.O.Write.contents c.args.out.now) (g.O.Write.contents c.carry_out.new.out)
        (subst (λ functions. TakesFiles c.in_ok-files.files.items (tool_engine c.args.call.now.escape functions) said.1.0) c.standard.ensures said.1.1) said.1.2 said.2 c.limits_of.ensures (said.3.0 standard).1,
  );
  filed = λ file. (
    (said.3.1 file).0,
    page_filed c.args.call.now.escape (functions_if c.args.call.now.standard) c.in_ok-files.files.items said.1.0 said.0 c.args.call.now.file.now (view c.in_ok-value.value) c.limits_of.result (limits_asked c.args.call.now) (string_bytes c.in_ok-source.source) (output_name c.args.call.now.out) status (g.T.Targets.written c.args.targets.now) (g.T.Targets.written c.carry_out.new.targets)
        (subst (λ functions. TakesFiles c.in_ok-files.files.items (tool_engine c.args.call.now.escape functions) said.1.0) c.standard.ensures said.1.1) said.1.2 said.2 c.limits_of.ensures (said.3.1 file).1,
  );
}) c.carry_out.ensures.ends
