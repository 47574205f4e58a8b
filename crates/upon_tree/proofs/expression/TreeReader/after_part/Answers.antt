use Rattle.std.proofs.Common.{refl, arith, ◌+◌, ◌≤◌, length, ap}
use Rattle.std.proofs.lemmas.Result.{err_from_is_err_and}
use Rattle.upon_tag_parser.proofs.Stops.{rest_on}
use Rattle.upon_tag_parser.proofs.Stuck.{handed_on, stuck_same, ok_map}
use Rattle.upon_tag_parser.proofs.TagTokens.{rest_then, tokens_rest, rest_all}
use Rattle.upon_tag_parser.specs.TagParsing.{IsRefused}
use Rattle.upon_tag_parser.specs.TagTokens.{lexemes_of}
use Rattle.upon_tree.specs.Opened.{PartTreeGoesOn, PartTreeStuck, EndTreeGoesOn, EndTreeStuck, step_weight}
use Rattle.upon_types.specs.AstPath.{ident_of}
use Rattle.upon_tag_parser.specs.declared.compile.parse.want.Want.TheVariants as want
use Rattle.upon_types.specs.declared.types.token.Token.TheVariants as token
use Rattle.upon_tree.proofs.Filters as steps
use Rattle.upon_tree.specs.declared.opened.Applied.{Applied}
use Rattle.upon_tree.specs.declared.opened.Receiver.{Receiver}
use Rattle.upon_types.specs.declared.types.Span.{Span}
use Rattle.upon_tree.proofs.expression.TreeReader.after_part.Goals as goal

pub filters-init : goal.filters-init
filters-init c =
    record { read = λ start h. h; rest = rest_all (lexemes_of c.args.tokens.now); shorter = omega arith }

pub parse_ident-requires : goal.parse_ident-requires
parse_ident-requires c =
    record { tokens = tokens_rest c.args.self.now.parser.source.now c.args.tokens.now c.in-Some.rest.now c.requires.tokens (rest_then (lexemes_of c.args.tokens.now) (lexemes_of c.filters.left.now) (lexemes_of c.in-Some.rest.now) c.filters.invariant.rest (c.in-Some.ensures.rest refl)) }

pub returns-in-Some-take-clause-shorter : goal.returns-in-Some-take-clause-shorter
returns-in-Some-take-clause-shorter c =
    omega (arith, c.filters.invariant.shorter, c.in-Some.ensures.shorter, c.in_ok-name.ensures.shorter, c.in-Some-take.ensures.shorter)

pub returns-clause-shorter : goal.returns-clause-shorter
returns-clause-shorter c =
    ok_map c.end_part.result
    (λ r. length r.1.now + step_weight r.0 ≤ length c.filters.left.now)
    (λ r. length r.1.now + step_weight r.0 ≤ length c.args.tokens.now)
    (λ r h. omega (arith, h, c.filters.invariant.shorter))
    c.end_part.ensures.shorter

pub returns-in_err-name-clause-stuck : goal.returns-in_err-name-clause-stuck
returns-in_err-name-clause-stuck c =
    handed_on c.from_residual.result c.in_err-name.field-0.0 (IsRefused token.Ident want.Name c.in-Some.rest.now) (PartTreeStuck c.args.self.now.parser.source.now c.args.opening c.args.first (lexemes_of c.args.tokens.now))
    (err_from_is_err_and c.from_residual.result c.from_residual.ensures.1)
    (λ w left refused whole from start begins h. steps.name_stuck c.args.self.now.parser.source.now whole c.args.opening c.filters.part from start (lexemes_of c.filters.left.now) c.in-Some.rest.now left w begins (c.filters.invariant.read start h) (c.in-Some.field-0-0, c.in-Some.ensures.token) refused)
    c.in_err-name.ensures.stuck

pub returns-in-Some-take-clause-step : goal.returns-in-Some-take-clause-step
returns-in-Some-take-clause-step c whole from start begins h =
    let receiver : Receiver = record { opening = c.args.opening; expr = c.filters.part; colon = c.in-Some-take.colon } in
    let applied : Applied = record { name = c.in_ok-name.name; values = c.new-values.result } in
    steps.filter_begun c.args.self.now.parser.source.now whole receiver applied from start (lexemes_of c.filters.left.now) (lexemes_of c.in-Some.rest.now) (lexemes_of c.in_ok-name.rest.now) (lexemes_of c.in-Some-take.inside.now) begins (c.filters.invariant.read start h) c.new-values.ensures.items (c.in-Some.field-0-0, c.in-Some.ensures.token) c.in_ok-name.ensures.name c.in-Some-take.ensures.token

pub returns-in-Some-take-clause-rest : goal.returns-in-Some-take-clause-rest
returns-in-Some-take-clause-rest c =
    rest_then (lexemes_of c.args.tokens.now) (lexemes_of c.filters.left.now) (lexemes_of c.in-Some-take.inside.now) c.filters.invariant.rest (rest_then (lexemes_of c.filters.left.now) (lexemes_of c.in-Some.rest.now) (lexemes_of c.in-Some-take.inside.now) (c.in-Some.ensures.rest refl) (rest_then (lexemes_of c.in-Some.rest.now) (lexemes_of c.in_ok-name.rest.now) (lexemes_of c.in-Some-take.inside.now) c.in_ok-name.ensures.rest (c.in-Some-take.ensures.rest refl)))

pub filters-preserved : goal.filters-preserved
filters-preserved c =
    let place : Span = record { m = c.span.result.m; n = c.in_ok-name.name.span.n } in
    record {
      read = λ start h. steps.filter_alone c.args.self.now.parser.source.now c.filters.part c.in_ok-part.part start (lexemes_of c.filters.left.now) (lexemes_of c.in-Some.rest.now) (lexemes_of c.in_ok-name.rest.now) (ident_of c.in_ok-name.name) place (c.filters.invariant.read start h) (c.in-Some.field-0-0, c.in-Some.ensures.token) c.in_ok-name.ensures.name c.in_default-take.ensures.token (ap (λ (x : Span). record { m = x.m; n = c.in_ok-name.name.span.n }) c.span.ensures) c.in_ok-part.ensures;
      rest = rest_then (lexemes_of c.args.tokens.now) (lexemes_of c.filters.left.now) (lexemes_of c.in_ok-name.rest.now) c.filters.invariant.rest (rest_then (lexemes_of c.filters.left.now) (lexemes_of c.in-Some.rest.now) (lexemes_of c.in_ok-name.rest.now) (c.in-Some.ensures.rest refl) c.in_ok-name.ensures.rest);
      shorter = omega (arith, c.filters.invariant.shorter, c.in-Some.ensures.shorter, c.in_ok-name.ensures.shorter);
    }

pub returns-clause-step : goal.returns-clause-step
returns-clause-step c =
    ok_map c.end_part.result
    (λ r. EndTreeGoesOn c.args.self.now.parser.source.now c.args.opening c.filters.part (lexemes_of c.filters.left.now) r.0 (lexemes_of r.1.now))
    (λ r. PartTreeGoesOn c.args.self.now.parser.source.now c.args.opening c.args.first (lexemes_of c.args.tokens.now) r.0 (lexemes_of r.1.now))
    (λ r f whole from start begins h. f whole from start begins (steps.part_ends c.args.self.now.parser.source.now c.filters.part start (lexemes_of c.filters.left.now) (c.filters.invariant.read start h) c.in_default.ensures.token))
    c.end_part.ensures.step

pub returns-clause-rest : goal.returns-clause-rest
returns-clause-rest c =
    rest_on c.end_part.result c.filters.left.now c.args.tokens.now c.filters.invariant.rest c.end_part.ensures.rest

pub returns-clause-stuck : goal.returns-clause-stuck
returns-clause-stuck c =
    stuck_same c.end_part.result (EndTreeStuck c.args.self.now.parser.source.now c.args.opening c.filters.part (lexemes_of c.filters.left.now)) (PartTreeStuck c.args.self.now.parser.source.now c.args.opening c.args.first (lexemes_of c.args.tokens.now))
    (λ w left f whole from start begins h. f whole from start begins (steps.part_ends c.args.self.now.parser.source.now c.filters.part start (lexemes_of c.filters.left.now) (c.filters.invariant.read start h) c.in_default.ensures.token))
    c.end_part.ensures.stuck
