use Rattle.std.proofs.Common.{subst, ◌∙◌}
use Rattle.upon_tool_io.specs.Written.{Changes}
use Rattle.upon_tool_many.proofs.FilesRead.{changes_from}
use Rattle.upon_tool_many.proofs.written.write_page.Goals as goal

pub returns : goal.returns
returns g c =
    changes_from (g.R.Sources.world c.args.rt.now) c.args.bytes.now c.write_changed.result _ _ _ _ _ (c.as_str-2.ensures.value ∙ c.in_ok-path.ensures) c.make_folders.ensures c.write_changed.ensures
