use Rattle.upon_shape.specs.View.{shape_view}
use Rattle.upon_calls.specs.Asked.{asked_by}
use Rattle.upon_tool_pages.proofs.Ending.{file_fits}
use Rattle.upon_tool_pages.proofs.fitting.fits.Goals as goal

pub returns-in-Ok : goal.returns-in-Ok
returns-in-Ok g c = λ right.
    file_fits c.args.on.escape c.args.on.standard (asked_by c.options_of-options.result) c.args.on.folder.now c.as_slice.result.now c.in_ok-sources.sources.items c.args.file (shape_view c.args.on.shape.now) c.as_slice-2.result.now
    c.options_of-options.ensures c.as_slice.ensures.value c.in_ok-sources.ensures c.as_slice-2.ensures c.in-Ok.ensures.trees c.in-Ok.ensures.ends
