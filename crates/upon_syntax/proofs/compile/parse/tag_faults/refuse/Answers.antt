use Rattle.std.proofs.Common.{List, subst}
use Rattle.upon_lexer.specs.declared.literal.Lexed.{Lexed}
use Rattle.upon_syntax.specs.TagFaults.{GoesNoFurther}
use Rattle.upon_syntax.proofs.TagRefused.{refused_inside}
use Rattle.upon_syntax.proofs.compile.parse.tag_faults.refuse.Goals as goal

pub returns-in-Some : goal.returns-in-Some
returns-in-Some c = λ delimiters g. refused_inside delimiters c.args.source.now c.args.want c.args.left.now c.args.ended g c.in-Some.found c.in-Some.field-0-1.now c.refuse_token.result c.in-Some.ensures c.refuse_token.ensures

pub returns-in-None : goal.returns-in-None
returns-in-None c = λ delimiters g.
    let F : List Lexed → Type 0 = λ x. GoesNoFurther delimiters c.args.source.now c.args.want x c.args.ended in
    c.refuse_end.ensures delimiters (subst F c.in-None.ensures g)
