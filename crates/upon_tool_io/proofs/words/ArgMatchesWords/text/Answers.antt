use Rattle.std.proofs.Common.{◌∙◌}
use Rattle.clap.specs.Matches.{found_of}
use Rattle.upon_tool_io.proofs.Rows.{first-found}
use Rattle.upon_tool_io.proofs.words.ArgMatchesWords.text.Goals as goal

pub returns : goal.returns
returns c = c.get_str.ensures ∙ first-found (found_of c.args.self.now) c.args.name.now
