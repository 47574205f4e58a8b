use Rattle.upon_tag_parser.specs.TagTokens.{lexemes_of}
use Rattle.upon_tree.proofs.Lists as lists
use Rattle.upon_tree.proofs.expression.TreeReader.start_item.Goals as goal

pub returns-in-None-clause-step : goal.returns-in-None-clause-step
returns-in-None-clause-step c whole from h =
    (h, c.in-None.ensures.token)

pub returns-in-Some-clause-step : goal.returns-in-Some-clause-step
returns-in-Some-clause-step c whole from h =
    lists.list_closes c.args.self.now.parser.source.now c.args.list c.closed_list.result from (lexemes_of c.args.tokens.now) (lexemes_of c.in-Some.rest.now) c.in-Some.closing h c.in-Some.ensures.token c.closed_list.ensures
