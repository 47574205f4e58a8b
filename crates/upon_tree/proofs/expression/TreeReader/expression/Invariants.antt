use Rattle.std.proofs.Common.{◌+◌, ◌*◌, length}
use Rattle.upon_tag_parser.specs.TagTokens.{lexemes_of, IsRest}
use Rattle.upon_tree.specs.Opened.{AreTreesRead, step_weight}
use Rattle.upon_tree.proofs.expression.TreeReader.expression.Given as goal

abbrev pub invariant-steps : goal.invariant-steps
invariant-steps l = record {
  read : AreTreesRead l.self.parser.source.now l.stack.items l.last (lexemes_of l.tokens) (lexemes_of l.left);
  rest : IsRest l.left l.tokens;
}

abbrev pub decreases-steps : goal.decreases-steps
decreases-steps l = 2 * length l.left + step_weight l.last + length l.stack.items
