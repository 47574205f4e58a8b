use Rattle.std.proofs.Common.{drop, ap, ◌∙◌}
use Rattle.std.proofs.lemmas.List.{take_rest}
use Rattle.upon_lexer.proofs.Lines.{line_found, line_unfound}
use Rattle.upon_lexer.proofs.compile.inside.line_end.Goals as goal

pub returns-in-Some-clause-line : goal.returns-in-Some-clause-line
returns-in-Some-clause-line c =
    let is = take_rest c.as_bytes.result.now c.args.at ∙ ap (λ t. drop c.args.at t) c.as_bytes.ensures.value in
    line_found c.args.source.now _ c.args.at c.requires.0 is c.in-Some.found c.in-Some.ensures.0 c.in-Some.ensures.1

pub returns-in-None-clause-line : goal.returns-in-None-clause-line
returns-in-None-clause-line c =
    let is = take_rest c.as_bytes.result.now c.args.at ∙ ap (λ t. drop c.args.at t) c.as_bytes.ensures.value in
    line_unfound c.args.source.now _ c.args.at c.requires.0 is c.in-None.ensures
