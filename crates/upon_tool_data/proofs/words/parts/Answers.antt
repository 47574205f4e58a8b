use Rattle.std.proofs.Common.{arith}
use Rattle.std.proofs.lemmas.Str.Pattern.{split_once_first, split_parts}
use Rattle.upon_tool_data.proofs.Parts.{cut_after, cut_before, cut_has, uncut_lacks}
use Rattle.upon_tool_data.proofs.words.parts.Goals as goal

pub returns-clause-before : goal.returns-clause-before
returns-clause-before c = cut_before c.args.word.now c.split_once.result (split_once_first 61 c.args.word.now c.split_once.result c.split_once.ensures.cases (omega arith))

pub returns-clause-after : goal.returns-clause-after
returns-clause-after c = cut_after c.args.word.now c.split_once.result (split_once_first 61 c.args.word.now c.split_once.result c.split_once.ensures.cases (omega arith))

pub returns-clause-some : goal.returns-clause-some
returns-clause-some c = cut_has c.args.word.now c.split_once.result (split_parts 61 c.args.word.now c.split_once.result c.split_once.ensures.cases (omega arith))

pub returns-clause-none : goal.returns-clause-none
returns-clause-none c = uncut_lacks c.args.word.now c.split_once.result (split_parts 61 c.args.word.now c.split_once.result c.split_once.ensures.cases (omega arith))
