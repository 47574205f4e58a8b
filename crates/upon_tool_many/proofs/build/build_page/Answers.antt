use Rattle.std.proofs.Common.{refl, subst, string_bytes}
use Rattle.upon_types.specs.View.{view}
use Rattle.upon_engine.specs.Texts.{texts_of}
use Rattle.upon_tool_many.specs.Build.{EndsOf}
use Rattle.upon_tool_many.proofs.build.build_page.Goals as goal

pub returns : goal.returns
returns g c = (
  refl,
  subst (λ name. EndsOf (g.R.Sources.world c.args.rt.now) c.args.page.from.fault c.args.page.from.is_template name (string_bytes c.args.page.from.path) (texts_of (λ f. (g.dyn-1.0.entry f.vtable).1.formats f.value) (λ f. (g.dyn-2.0.entry f.vtable).1.answers f.value) c.args.engine.now) c.args.asked.now (view c.args.context.now) c.end_of-end.result (g.T.Targets.written c.args.targets.now) (g.T.Targets.written c.end_of-end.new.targets))
      c.as_str.ensures.value c.end_of-end.ensures,
)
