use Rattle.clap.specs.Matches.{found_of}
use Rattle.upon_tool_io.proofs.Rows.{flag-found}
use Rattle.upon_tool_io.proofs.words.ArgMatchesWords.flag.Goals as goal

pub returns : goal.returns
returns c =
    let said = c.get_flag.ensures in
    flag-found (found_of c.args.self.now) c.args.name.now c.get_flag.result said.none said.value said.other
