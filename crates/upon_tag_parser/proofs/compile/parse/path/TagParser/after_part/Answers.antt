use Rattle.std.proofs.Common.{arith, ◌+◌, refl}
use Rattle.std.proofs.lemmas.Result.{err_from_is_err_and}
use Rattle.upon_types.specs.declared.types.token.Token.TheVariants.{Ident as Identifier}
use Rattle.upon_types.specs.AstPath.{ident_of}
use Rattle.upon_compiler.specs.Program.{program_view}
use Rattle.upon_tag_parser.specs.declared.compile.parse.want.Want.TheVariants as want
use Rattle.upon_tag_parser.specs.declared.compile.parse.brackets.Applied.{Applied}
use Rattle.upon_tag_parser.specs.declared.compile.parse.brackets.Receiver.{Receiver}
use Rattle.upon_tag_parser.specs.TagTokens.{lexemes_of}
use Rattle.upon_tag_parser.specs.TagParsing.{IsRefused}
use Rattle.upon_tag_parser.specs.Brackets.{place_of, PartGoesOn, PartStuck, EndGoesOn, EndStuck, weight}
use Rattle.upon_tag_parser.proofs.TagTokens.{rest_all, rest_then, tokens_rest}
use Rattle.upon_tag_parser.proofs.Stuck.{stuck_same, handed_on, ok_map}
use Rattle.upon_tag_parser.proofs.Stops.{rest_on}
use Rattle.upon_tag_parser.proofs.Steps.Filters as steps
use Rattle.std.proofs.Common.{◌≤◌, length}
use Rattle.upon_tag_parser.proofs.compile.parse.path.TagParser.after_part.Goals as goal

pub filters-init : goal.filters-init
filters-init c =
    record { read = λ start h. h; rest = rest_all (lexemes_of c.args.tokens.now); shorter = omega arith }

pub parse_ident-requires : goal.parse_ident-requires
parse_ident-requires c =
    record { tokens = tokens_rest c.args.self.now.source.now c.args.tokens.now c.in-Some.rest.now c.requires.tokens (rest_then (lexemes_of c.args.tokens.now) (lexemes_of c.filters.left.now) (lexemes_of c.in-Some.rest.now) c.filters.invariant.rest (c.in-Some.ensures.rest refl)) }

pub returns-in-Some-take-clause-shorter : goal.returns-in-Some-take-clause-shorter
returns-in-Some-take-clause-shorter c =
    omega (arith, c.filters.invariant.shorter, c.in-Some.ensures.shorter, c.in_ok-name.ensures.shorter, c.in-Some-take.ensures.shorter)

pub returns-clause-shorter : goal.returns-clause-shorter
returns-clause-shorter c =
    ok_map c.end_part.result
    (λ r. length r.1.now + weight r.0 ≤ length c.filters.left.now)
    (λ r. length r.1.now + weight r.0 ≤ length c.args.tokens.now)
    (λ r h. omega (arith, h, c.filters.invariant.shorter))
    c.end_part.ensures.shorter

pub returns-in_err-name-clause-stuck : goal.returns-in_err-name-clause-stuck
returns-in_err-name-clause-stuck c =
    handed_on c.from_residual.result c.in_err-name.field-0.0 (IsRefused Identifier want.Name c.in-Some.rest.now) (PartStuck c.args.self.now.source.now c.args.opening c.args.first (place_of c.args.tokens.now c.args.code.now.items))
    (err_from_is_err_and c.from_residual.result c.from_residual.ensures.1)
    (λ w left refused whole from start begins h. steps.name_stuck c.args.self.now.source.now whole c.args.opening from start (place_of c.filters.left.now c.filters.code.items) c.filters.span c.in-Some.rest.now left w begins (c.filters.invariant.read start h) (c.in-Some.field-0-0, c.in-Some.ensures.token) refused)
    c.in_err-name.ensures.stuck

pub returns-in-Some-take-clause-step : goal.returns-in-Some-take-clause-step
returns-in-Some-take-clause-step c whole from start begins h =
    let receiver : Receiver = record { opening = c.args.opening; start = c.filters.span.m } in
    let applied : Applied = record { name = c.in_ok-name.name; count = 0 } in
    steps.filter_begun c.args.self.now.source.now whole receiver applied from start (place_of c.filters.left.now c.filters.code.items) (place_of c.in-Some-take.inside.now c.filters.code.items) c.filters.span (lexemes_of c.in-Some.rest.now) (lexemes_of c.in_ok-name.rest.now) begins (c.filters.invariant.read start h) refl refl (c.in-Some.field-0-0, c.in-Some.ensures.token) c.in_ok-name.ensures.name (c.in-Some-take.field-0-0, c.in-Some-take.ensures.token) refl

pub returns-in-Some-take-clause-rest : goal.returns-in-Some-take-clause-rest
returns-in-Some-take-clause-rest c =
    rest_then (lexemes_of c.args.tokens.now) (lexemes_of c.filters.left.now) (lexemes_of c.in-Some-take.inside.now) c.filters.invariant.rest (rest_then (lexemes_of c.filters.left.now) (lexemes_of c.in-Some.rest.now) (lexemes_of c.in-Some-take.inside.now) (c.in-Some.ensures.rest refl) (rest_then (lexemes_of c.in-Some.rest.now) (lexemes_of c.in_ok-name.rest.now) (lexemes_of c.in-Some-take.inside.now) c.in_ok-name.ensures.rest (c.in-Some-take.ensures.rest refl)))

pub filters-preserved : goal.filters-preserved
filters-preserved c =
    record {
      read = λ start h. steps.filter_alone c.args.self.now.source.now start (place_of c.filters.left.now c.filters.code.items) (place_of c.in_ok-name.rest.now c.append.new.code.items) c.filters.span (record { m = c.filters.span.m; n = c.in_ok-name.name.span.n }) (ident_of c.in_ok-name.name) (lexemes_of c.in-Some.rest.now) (c.filters.invariant.read start h) (c.in-Some.field-0-0, c.in-Some.ensures.token) c.in_ok-name.ensures.name c.in_default-take.ensures.token refl c.in_ok-append.ensures;
      rest = rest_then (lexemes_of c.args.tokens.now) (lexemes_of c.filters.left.now) (lexemes_of c.in_ok-name.rest.now) c.filters.invariant.rest (rest_then (lexemes_of c.filters.left.now) (lexemes_of c.in-Some.rest.now) (lexemes_of c.in_ok-name.rest.now) (c.in-Some.ensures.rest refl) c.in_ok-name.ensures.rest);
      shorter = omega (arith, c.filters.invariant.shorter, c.in-Some.ensures.shorter, c.in_ok-name.ensures.shorter);
    }

pub returns-clause-step : goal.returns-clause-step
returns-clause-step c =
    let new = c.filters.code.items in
    ok_map c.end_part.result
    (λ r. EndGoesOn c.args.self.now.source.now c.args.opening c.filters.span (lexemes_of c.filters.left.now) r.0 (lexemes_of r.1.now))
    (λ r. PartGoesOn c.args.self.now.source.now c.args.opening c.args.first (place_of c.args.tokens.now c.args.code.now.items) r.0 (place_of r.1.now new))
    (λ r f whole from start begins h. f whole from start (program_view new) begins (steps.part_ends c.args.self.now.source.now c.filters.span start (place_of c.filters.left.now c.filters.code.items) (c.filters.invariant.read start h) c.in_default.ensures.token))
    c.end_part.ensures.step

pub returns-clause-rest : goal.returns-clause-rest
returns-clause-rest c =
    rest_on c.end_part.result c.filters.left.now c.args.tokens.now c.filters.invariant.rest c.end_part.ensures.rest

pub returns-clause-stuck : goal.returns-clause-stuck
returns-clause-stuck c =
    stuck_same c.end_part.result (EndStuck c.args.self.now.source.now c.args.opening c.filters.span (lexemes_of c.filters.left.now)) (PartStuck c.args.self.now.source.now c.args.opening c.args.first (place_of c.args.tokens.now c.args.code.now.items))
    (λ w left f whole from start begins h. f whole from start (program_view c.filters.code.items) begins (steps.part_ends c.args.self.now.source.now c.filters.span start (place_of c.filters.left.now c.filters.code.items) (c.filters.invariant.read start h) c.in_default.ensures.token))
    c.end_part.ensures.stuck
