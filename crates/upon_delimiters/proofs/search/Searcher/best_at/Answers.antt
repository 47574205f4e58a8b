use Rattle.std.proofs.Common.{List, MatchOption, sym, subst}
use Rattle.upon_language_spec.specs.Search.{DelimiterText, NoneAt, IsBestDelimiter}
use Rattle.upon_delimiters.proofs.search.Searcher.best_at.Goals as goal

pub returns-then-is_default-clause-best : goal.returns-then-is_default-clause-best
returns-then-is_default-clause-best c =
    let At : List DelimiterText → Type 0 = λ ds. MatchOption c.best_at.result (NoneAt ds c.args.source.now c.args.at) (λ best. IsBestDelimiter ds c.args.source.now best.0 c.args.at best.1) in
    subst At (sym (c.is_default.ensures c.if-is_default.true)) c.best_at.ensures.best
