use Rattle.std.proofs.Common.{◌∙◌, IfSome, ap, subst}
use Rattle.upon_shape.specs.View.{shape_view}
use Rattle.upon_calls.specs.Templates.{lent_pairs}
use Rattle.upon_tool_pages.specs.Contexts.{HasShape}
use Rattle.upon_tool.specs.Checked.{ChecksCall}
use Rattle.upon_tool.specs.Fitting.{texts_read, EachFits}
use Rattle.upon_tool.proofs.fitting.run_fit.Goals as goal

pub returns-then-branch-clause-ends : goal.returns-then-branch-clause-ends
returns-then-branch-clause-ends g c = λ zero.
    let call = c.args.call.now in
    record {
      shape = shape_view c.in-Some.shape;
      later = g.I.Read.remaining c.shape_of.new.input;
      files = c.in_ok-files.files.items;
      known = subst (λ shape. IfSome shape (λ s. HasShape (g.R.Sources.world c.args.rt.now) call.contexts (g.I.Read.remaining c.args.input.now) (shape_view s))) c.in-Some.is c.in_ok-shape.ensures;
      checked = subst (ChecksCall (g.R.Sources.world c.args.rt.now) call.check (g.I.Read.remaining c.shape_of.new.input)) c.if-status-ne0.false c.in_ok-status.ensures.ends;
      listed = c.in_ok-files.ensures.files;
      ends = subst (λ folder. EachFits (g.R.Sources.world c.args.rt.now) call.check.escape call.check.standard folder (shape_view c.in-Some.shape) call.check.files.items) (ap lent_pairs c.as_slice-2.ensures.value ∙ c.in_ok-folder.ensures ∙ ap texts_read c.as_slice.ensures.value)
          (subst (EachFits (g.R.Sources.world c.args.rt.now) call.check.escape call.check.standard (lent_pairs c.as_slice-2.result.now) (shape_view c.in-Some.shape)) c.as_slice-3.ensures.value (c.in_ok-each_fits.ensures.fits c.if-branch.true));
    }
