use Rattle.clap.specs.Matches.{found_of}
use Rattle.upon_tool_io.proofs.Rows.{number-found}
use Rattle.upon_tool_io.proofs.words.ArgMatchesWords.number.Goals as goal

pub returns : goal.returns
returns c =
    let said = c.get_one.ensures in
    number-found (found_of c.args.self.now) c.args.name.now c.get_one.result said.none said.value
