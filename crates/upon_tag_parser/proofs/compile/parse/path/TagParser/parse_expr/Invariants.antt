use Rattle.std.proofs.Common.{◌+◌}
use Rattle.upon_tag_parser.specs.TagTokens.{IsRest}
use Rattle.upon_tag_parser.specs.Brackets.{place_of, AreRead, weight}
use Rattle.std.proofs.Common.{◌<◌, ◌*◌, length}
use Rattle.upon_tag_parser.proofs.compile.parse.path.TagParser.parse_expr.Given as goal

abbrev pub invariant-steps : goal.invariant-steps
invariant-steps l = record {
  read : AreRead l.self.source.now l.stack.items l.last (place_of l.tokens l.fn.code.items) (place_of l.left l.code.items);
  rest : IsRest l.left l.tokens;
  shorter : length l.left < length l.tokens;
}

abbrev pub decreases-steps : goal.decreases-steps
decreases-steps l = 2 * length l.left + weight l.last + length l.stack.items
