use Rattle.upon_tool_pages.proofs.FolderReads.{known_fault, no_fault}
use Rattle.upon_tool_pages.proofs.sources.read_unless.Goals as goal

pub returns-in-Some : goal.returns-in-Some
returns-in-Some g c = known_fault (g.R.Sources.world c.args.rt.now) c.args.fault c.in-Some.fault c.args.path.now c.in-Some.is

pub returns-in-None : goal.returns-in-None
returns-in-None g c = no_fault (g.R.Sources.world c.args.rt.now) c.args.fault c.args.path.now c.read_file.result c.in-None.is c.read_file.ensures
