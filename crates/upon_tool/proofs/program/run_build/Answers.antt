use Rattle.std.proofs.Common.{ap, subst}
use Rattle.std.proofs.lemmas.Result.{IfOk-weaker}
use Rattle.upon_types.specs.View.{view}
use Rattle.upon_tool.specs.Filled.{tool_engine, TakesFiles}
use Rattle.upon_tool.proofs.Calls.{context_read, no_context, wrong_words}
use Rattle.upon_tool.proofs.Filled.{nothing_sent}
use Rattle.upon_tool.proofs.ManyPages.{build_data_refused, build_moved, build_refused, unread_folder, unread_layout}
use Rattle.upon_calls.specs.Rendering.{EachHasTree}
use Rattle.upon_tool.proofs.program.run_build.Goals as goal

pub returns-in_err-check-clause-refused : goal.returns-in_err-check-clause-refused
returns-in_err-check-clause-refused g c =
    build_data_refused (g.R.Sources.world c.args.rt.now) c.args.call.now (g.I.Read.remaining c.args.input.now) c.in_err-check.field-0.0 c.from_residual.result c.from_residual.ensures.1
    (wrong_words (g.R.Sources.world c.args.rt.now) c.args.call.now.render.data c.of-words.result c.of-words.ensures _ _ (g.I.Read.remaining c.args.input.now) c.in_err-check.field-0.0 c.is_input.ensures c.in_err-check.ensures.refused)

pub returns-in_err-layout-clause-refused : goal.returns-in_err-layout-clause-refused
returns-in_err-layout-clause-refused g c =
    unread_layout (g.R.Sources.world c.args.rt.now) c.args.call.now (g.I.Read.remaining c.args.input.now) c.in_err-layout.field-0.0 c.from_residual-in_err-layout.result c.from_residual-in_err-layout.ensures.1 c.in_err-layout.ensures.unread

pub returns-in_err-value-clause-refused : goal.returns-in_err-value-clause-refused
returns-in_err-value-clause-refused g c =
    build_data_refused (g.R.Sources.world c.args.rt.now) c.args.call.now (g.I.Read.remaining c.args.input.now) c.in_err-value.field-0.0 c.from_residual-in_err-value.result c.from_residual-in_err-value.ensures.1
    (no_context (g.R.Sources.world c.args.rt.now) c.args.call.now.render.data c.of-words.result c.of-words.ensures _ (g.I.Read.remaining c.args.input.now) (g.I.Read.remaining c.layout_of.new.input) c.in_err-value.field-0.0 c.layout_of.ensures.kept c.in_err-value.ensures.refused)

pub returns-in_err-files-clause-refused : goal.returns-in_err-files-clause-refused
returns-in_err-files-clause-refused g c =
    unread_folder (g.R.Sources.world c.args.rt.now) c.args.call.now (g.I.Read.remaining c.args.input.now) c.in_err-files.field-0.0 c.from_residual-in_err-files.result c.from_residual-in_err-files.ensures.1 c.in_err-files.ensures.unread

pub returns-clause-unsent : goal.returns-clause-unsent
returns-clause-unsent g c = nothing_sent c.carry_out.result _ _ c.carry_out.ensures.ends (λ status said. said.3.0) c.carry_out.ensures.unsent

pub returns-clause-ends : goal.returns-clause-ends
returns-clause-ends g c = IfOk-weaker c.carry_out.result _ _ (λ status said. record {
  layout = c.in_ok-layout.layout;
  later = g.I.Read.remaining c.layout_of.new.input;
  value = view c.in_ok-value.value;
  last = g.I.Read.remaining c.context.new.input;
  files = c.in_ok-files.files.items;
  folder = said.1.0;
  read = c.in_ok-layout.ensures.read;
  left = c.layout_of.ensures.kept;
  data_read = context_read (g.R.Sources.world c.args.rt.now) c.args.call.now.render.data c.of-words.result c.of-words.ensures (g.I.Read.remaining c.layout_of.new.input) (view c.in_ok-value.value) (g.I.Read.remaining c.context.new.input) c.in_ok-value.ensures.read;
  listed_files = c.in_ok-files.ensures.files;
  taken = subst (λ functions. TakesFiles c.in_ok-files.files.items (tool_engine c.args.call.now.render.escape functions) said.1.0) c.standard.ensures said.1.1;
  trees = subst EachHasTree said.1.2 said.2;
  built = build_moved (g.R.Sources.world c.args.rt.now) _ _ _ _ _ status _ _ said.1.2
      (ap (λ limits. record { source = c.args.call.now.render.file; follows = c.args.call.now.render.follow; out = c.args.call.now.out; layout = c.args.call.now.layout; limits = limits; keep_going = c.args.call.now.keep_going }) c.limits_set.ensures) said.3.1;
}) c.carry_out.ensures.ends

pub returns-clause-refused : goal.returns-clause-refused
returns-clause-refused g c = build_refused (g.R.Sources.world c.args.rt.now) c.args.call.now c.in_ok-layout.layout (g.I.Read.remaining c.args.input.now) c.carry_out.result c.in_ok-layout.ensures.read c.carry_out.ensures.refused
