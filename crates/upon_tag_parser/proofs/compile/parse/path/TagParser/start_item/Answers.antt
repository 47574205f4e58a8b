use Rattle.upon_tag_parser.specs.Brackets.{place_of}
use Rattle.upon_tag_parser.proofs.Steps.Lists.{list_closes}
use Rattle.upon_tag_parser.proofs.compile.parse.path.TagParser.start_item.Goals as goal

pub returns-in-None-clause-step : goal.returns-in-None-clause-step
returns-in-None-clause-step c whole from h =
    (h, c.in-None.ensures.token)

pub returns-in-Some-clause-step : goal.returns-in-Some-clause-step
returns-in-Some-clause-step c whole from h =
    list_closes c.args.self.now.source.now c.args.start from (place_of c.args.tokens.now c.args.code.now.items) (place_of c.in-Some.rest.now c.close_list.new.code.items) c.in-Some.closing c.close_list.result h c.in-Some.ensures.token c.close_list.ensures.code c.close_list.ensures.span
