use Rattle.std.proofs.Common.{List, ℕ, subst}
use Rattle.std.specs.Str.{IsTrimStart}
use Rattle.upon_lexer.proofs.Trims.{trimmed_start}
use Rattle.upon_lexer.proofs.compile.trim.trim_start.Goals as goal

pub returns-clause-span : goal.returns-clause-span
returns-clause-span c =
    let F : List ℕ → Type 0 = λ x. IsTrimStart x c.trim_start.result.now in
    trimmed_start c.args.source.now c.trim_start.result.now c.args.span c.utf8.source c.trim_start.utf8 c.requires (subst F c.slice.ensures c.trim_start.ensures.value)
