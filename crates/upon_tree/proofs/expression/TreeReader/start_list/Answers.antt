use Rattle.upon_tag_parser.specs.TagTokens.{lexemes_of}
use Rattle.upon_tree.proofs.Lists as lists
use Rattle.upon_tree.proofs.expression.TreeReader.start_list.Goals as goal

pub returns-clause-step : goal.returns-clause-step
returns-clause-step c whole before g =
    c.start_item.ensures.step whole before (lists.list_begun c.args.self.now.parser.source.now (record { items = c.new-items.result; opening = c.args.opening }) before (lexemes_of c.args.tokens.now) g c.new-items.ensures.items)
