use Rattle.std.proofs.Common.{true, false, string_bytes, subst}
use Rattle.upon_types.specs.View.{view}
use Rattle.upon_engine.specs.Texts.{texts_of}
use Rattle.upon_tool_many.specs.Build.{EndsOfCopy, EndsOfTemplate}
use Rattle.upon_tool_many.proofs.Ends.{ends_known, ends_read}
use Rattle.upon_tool_many.proofs.build.end_of.Goals as goal

pub returns-in-Some : goal.returns-in-Some
returns-in-Some g c = ends_known (g.R.Sources.world c.args.rt.now) c.args.name.now (string_bytes c.args.from.path) c.args.from.fault c.in-Some.fault c.args.from.is_template (texts_of (λ f. (g.dyn-1.0.entry f.vtable).1.formats f.value) (λ f. (g.dyn-2.0.entry f.vtable).1.answers f.value) c.args.engine.now) c.args.asked.now (view c.args.context.now) (g.T.Targets.written c.args.targets.now) c.in-Some.is

pub returns-then-is_template : goal.returns-then-is_template
returns-then-is_template g c = ends_read (g.R.Sources.world c.args.rt.now) c.args.name.now (string_bytes c.args.from.path) c.args.from.fault c.args.from.is_template true (texts_of (λ f. (g.dyn-1.0.entry f.vtable).1.formats f.value) (λ f. (g.dyn-2.0.entry f.vtable).1.answers f.value) c.args.engine.now) c.args.asked.now (view c.args.context.now) c.end_of_template.result (g.T.Targets.written c.args.targets.now) (g.T.Targets.written c.end_of_template.new.targets) c.in_default.is c.if-is_template.true (subst (λ path. EndsOfTemplate (g.R.Sources.world c.args.rt.now) c.args.name.now path (texts_of (λ f. (g.dyn-1.0.entry f.vtable).1.formats f.value) (λ f. (g.dyn-2.0.entry f.vtable).1.answers f.value) c.args.engine.now) c.args.asked.now (view c.args.context.now) c.end_of_template.result (g.T.Targets.written c.args.targets.now) (g.T.Targets.written c.end_of_template.new.targets)) c.as_str.ensures.value c.end_of_template.ensures)

pub returns : goal.returns
returns g c = ends_read (g.R.Sources.world c.args.rt.now) c.args.name.now (string_bytes c.args.from.path) c.args.from.fault c.args.from.is_template false (texts_of (λ f. (g.dyn-1.0.entry f.vtable).1.formats f.value) (λ f. (g.dyn-2.0.entry f.vtable).1.answers f.value) c.args.engine.now) c.args.asked.now (view c.args.context.now) c.copy_file.result (g.T.Targets.written c.args.targets.now) (g.T.Targets.written c.copy_file.new.targets) c.in_default.is c.if-is_template.false (subst (λ path. EndsOfCopy (g.R.Sources.world c.args.rt.now) path c.args.asked.now c.copy_file.result (g.T.Targets.written c.args.targets.now) (g.T.Targets.written c.copy_file.new.targets)) c.as_str-else-is_template.ensures.value c.copy_file.ensures)
