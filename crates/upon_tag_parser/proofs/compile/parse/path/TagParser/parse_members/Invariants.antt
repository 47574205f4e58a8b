use Rattle.std.proofs.Common.{◌≡◌, List, length, ◌≤◌, ◌∷◌, map}
use Rattle.upon_types.specs.declared.types.ast.path.Member.{Member}
use Rattle.upon_types.specs.AstPath.{member_of}
use Rattle.upon_language_spec.specs.Expressions.{AreMembers}
use Rattle.upon_tag_parser.specs.TagTokens.{lexemes_of, IsRest}
use Rattle.upon_tag_parser.proofs.compile.parse.path.TagParser.parse_members.Given as goal

abbrev pub invariant-members : goal.invariant-members
invariant-members l = record {
  read : (members : List Member) × (l.path.items ≡ l.fn.first ∷ members) × AreMembers l.self.source.now (map member_of members) (lexemes_of l.fn.tokens) (lexemes_of l.left);
  rest : IsRest l.left l.fn.tokens;
  shorter : length l.left ≤ length l.fn.tokens;
}

abbrev pub decreases-members : goal.decreases-members
decreases-members l = length l.left
