use Rattle.std.proofs.Common.{List, ℕ, subst}
use Rattle.std.specs.Str.{IsTrimEnd}
use Rattle.upon_lexer.proofs.Trims.{trimmed_end}
use Rattle.upon_lexer.proofs.compile.trim.trim_end.Goals as goal

pub returns-clause-span : goal.returns-clause-span
returns-clause-span c =
    let F : List ℕ → Type 0 = λ x. IsTrimEnd x c.trim_end.result.now in
    trimmed_end c.args.source.now c.trim_end.result.now c.args.span c.utf8.source c.trim_end.utf8 c.requires (subst F c.slice.ensures c.trim_end.ensures.value)
