use Rattle.std.proofs.Common.{length, refl, subst, inl}
use Rattle.upon_types.specs.View.{view, entries_view}
use Rattle.upon_engine.specs.Texts.{texts_of}
use Rattle.upon_tool_many.specs.Names.{page_names, DifferBelow}
use Rattle.upon_tool_many.specs.declared.each.EachFault.TheVariants.{OutOfMemory}
use Rattle.upon_tool_many.proofs.Refused.{names_refused, twice_refused}
use Rattle.upon_tool_many.proofs.each.render_each.Goals as goal

pub returns-clause-done : goal.returns-clause-done
returns-clause-done g c = record {
  others = entries_view c.in-Some.others.entries;
  items = c.in-Some.items.items;
  pages = c.in_ok-pages.pages.items;
  listed = c.in-Some.ensures.split;
  named = c.in_ok-pages.ensures.named;
  differ = subst (λ pages. DifferBelow (page_names pages) (length (page_names pages))) c.as_slice.ensures.value c.in_ok-refuse_twice.ensures.differ;
  done_in_order = c.in_ok-render_all.ensures.done;
}

pub returns-in_err-pages-clause-refused : goal.returns-in_err-pages-clause-refused
returns-in_err-pages-clause-refused g c =
    names_refused (texts_of (λ f. (g.dyn-1.0.entry f.vtable).1.formats f.value) (λ f. (g.dyn-2.0.entry f.vtable).1.answers f.value) c.args.engine.now) c.args.asked.now (view c.args.context) (entries_view c.in-Some.others.entries) c.in-Some.items.items c.in_err-pages.field-0.0 c.from_residual.result c.in-Some.ensures.split c.from_residual.ensures.1 c.in_err-pages.ensures.refused

pub returns-in_err-refuse_twice-clause-refused : goal.returns-in_err-refuse_twice-clause-refused
returns-in_err-refuse_twice-clause-refused g c =
    twice_refused (texts_of (λ f. (g.dyn-1.0.entry f.vtable).1.formats f.value) (λ f. (g.dyn-2.0.entry f.vtable).1.answers f.value) c.args.engine.now) c.args.asked.now (view c.args.context) (entries_view c.in-Some.others.entries) c.in-Some.items.items c.in_ok-pages.pages.items c.as_slice.result.now c.in_err-refuse_twice.field-0.0 c.from_residual-in_err-refuse_twice.result
    c.in-Some.ensures.split c.in_ok-pages.ensures.named c.as_slice.ensures.value c.from_residual-in_err-refuse_twice.ensures.1 c.in_err-refuse_twice.ensures.refused

pub returns-in_err-render_all-clause-refused : goal.returns-in_err-render_all-clause-refused
returns-in_err-render_all-clause-refused g c =
    names_refused (texts_of (λ f. (g.dyn-1.0.entry f.vtable).1.formats f.value) (λ f. (g.dyn-2.0.entry f.vtable).1.answers f.value) c.args.engine.now) c.args.asked.now (view c.args.context) (entries_view c.in-Some.others.entries) c.in-Some.items.items OutOfMemory c.from_residual-in_err-render_all.result c.in-Some.ensures.split c.from_residual-in_err-render_all.ensures.1 (inl refl)
