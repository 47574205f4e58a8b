use Rattle.std.proofs.Common.{true, subst}
use Rattle.upon_tag_parser.specs.TagParsing.{OnStuck}
use Rattle.upon_tag_parser.specs.TagTokens.{lexemes_of}
use Rattle.upon_tag_parser.specs.declared.compile.parse.path.Failure.{Failure}
use Rattle.upon_tag_parser.specs.Brackets.{StuckFrom}
use Rattle.upon_tree.specs.Opened.{tree_reader_text}
use Rattle.upon_tree.proofs.expression.TreeReader.known.Goals as goal

pub unreachable-requires : goal.unreachable-requires
unreachable-requires c =
    let F : Failure → Type 0 = λ f. OnStuck f (StuckFrom (tree_reader_text c.args.self.now) true (lexemes_of c.args.tokens.now)) in
    c.requires.known.1.free _ _ (subst F c.in-Err-Stuck.field-0-is c.in-Err-Stuck.ensures.stuck)

pub returns-in-Ok : goal.returns-in-Ok
returns-in-Ok c = λ e known. known.only _ _ c.in-Ok.ensures.expression
