use Rattle.upon_tag_parser.specs.TagTokens.{IsRest}
use Rattle.upon_tag_parser.specs.Brackets.{Place, place_of, PartRead}
use Rattle.std.proofs.Common.{◌≤◌, length}
use Rattle.upon_tag_parser.proofs.compile.parse.path.TagParser.after_part.Given as goal

abbrev pub invariant-filters : goal.invariant-filters
invariant-filters l = record {
  read : (start : Place) → PartRead l.self.source.now l.fn.first start (place_of l.tokens l.fn.code.items) → PartRead l.self.source.now l.span start (place_of l.left l.code.items);
  rest : IsRest l.left l.tokens;
  shorter : length l.left ≤ length l.tokens;
}

abbrev pub decreases-filters : goal.decreases-filters
decreases-filters l = length l.left
