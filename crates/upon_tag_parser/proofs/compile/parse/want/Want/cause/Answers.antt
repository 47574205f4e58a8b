use Rattle.std.proofs.Common.{◌≡◌, sym, subst}
use Rattle.std.specs.Result.{IfOk}
use Rattle.upon_types.specs.Cause.{cause_text}
use Rattle.upon_language_spec.specs.Tags.{word_of}
use Rattle.upon_language_spec.specs.Wanted.{reason_for, reason_for_keyword}
use Rattle.upon_tag_parser.specs.Wants.{wanted_of}
use Rattle.upon_tag_parser.proofs.compile.parse.want.Want.cause.Goals as goal

pub returns-in-Keyword : goal.returns-in-Keyword
returns-in-Keyword c =
    subst (λ token. IfOk c.keyword_cause.result (λ cause. cause_text cause ≡ reason_for (wanted_of c.args.self) token (word_of c.args.source.now token c.args.found.span))) (sym c.in-Keyword.is)
    (subst (λ word. IfOk c.keyword_cause.result (λ cause. cause_text cause ≡ reason_for_keyword (wanted_of c.args.self) word)) c.slice.ensures c.keyword_cause.ensures)
