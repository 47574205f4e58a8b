use Rattle.std.proofs.Common.{◌≡◌, ◌≤◌, ◌-◌, ◌+◌, arith, sym, ap, codes, subst}
use Rattle.upon_types.specs.declared.types.Span.{Span}
use Rattle.upon_types.specs.Span.{LiesIn}
use Rattle.upon_language_spec.specs.LaterFaults.{Report}
use Rattle.upon_language_spec.specs.Faults.{span_of}
use Rattle.upon_language_spec.proofs.Spans.Literals.{escape_lies}
use Rattle.upon_syntax.proofs.compile.parse.tag_tokens.refuse_string.Goals as goal

whole : (place : Span) → place.m ≤ place.n → span_of place.m (place.m + (place.n - place.m)) ≡ place
whole place l = let end : place.m + (place.n - place.m) ≡ place.n = omega (arith, l) in λ i. record { m = place.m; n = end i }

pub returns-in-Some-clause-string : goal.returns-in-Some-clause-string
returns-in-Some-clause-string c = λ before string.
    let place = c.in-Some.strange in
    let found = c.in-Some.ensures string in
    let F : Span → Report = λ x. record { span = x; reason = codes "unknown escape character" } in
    (place.m, place.n - place.m, found.1, ap F (sym (whole place found.0)))

pub returns-in-Some-clause-span : goal.returns-in-Some-clause-span
returns-in-Some-clause-span c =
    let place = c.in-Some.strange in
    let found = c.in-Some.ensures c.requires.spelled in
    subst (LiesIn c.args.source.now) (whole place found.0) (escape_lies c.args.source.now c.utf8.source c.args.span.m c.args.span.n place.m (place.n - place.m) c.requires.span.start c.requires.spelled found.1)
