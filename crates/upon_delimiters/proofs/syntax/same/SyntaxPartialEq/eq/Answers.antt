use Rattle.std.proofs.lemmas.Bool.Decides.{same_from_decides}
use Rattle.upon_language_spec.proofs.SameDelimiters.{delimiters_eq-Decides}
use Rattle.upon_delimiters.specs.Syntax.{syntax_delimiters}
use Rattle.upon_delimiters.proofs.syntax.same.SyntaxPartialEq.eq.Goals as goal

pub returns : goal.returns
returns c =
    let decides = delimiters_eq-Decides (syntax_delimiters c.args.self.now) (syntax_delimiters c.args.other.now) in
    same_from_decides _ _ c.is_same.ensures decides
