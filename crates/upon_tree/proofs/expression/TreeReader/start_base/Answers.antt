use Rattle.std.proofs.Common.{refl, sym, subst, Bool, List, ◌∷◌}
use Rattle.std.proofs.lemmas.Result.{err_from_is_err_and}
use Rattle.upon_language_spec.specs.Cut.{Lexeme}
use Rattle.upon_language_spec.specs.PartTails.{TakesBase}
use Rattle.upon_language_spec.specs.Parts.{Part, a_member, after_name, map_start}
use Rattle.upon_language_spec.specs.Tokens.{Goes}
use Rattle.upon_tag_parser.proofs.BaseStarts.{base_stuck}
use Rattle.upon_tag_parser.proofs.Stops.{StopsBase, StopsAt, rest_on}
use Rattle.upon_tag_parser.proofs.Stuck.{handed_on, stuck_same, ok_map}
use Rattle.upon_tag_parser.proofs.TagTokens.{rest_then}
use Rattle.upon_tag_parser.specs.TagParsing.{IsStuck, ReadsBase}
use Rattle.upon_tag_parser.specs.TagTokens.{lexemes_of}
use Rattle.upon_tag_parser.specs.Wants.{wanted_of}
use Rattle.upon_tree.specs.Opened.{IsTreeStep}
use Rattle.upon_types.specs.Expression.{Base}
use Rattle.upon_types.specs.View.{view}
use Rattle.upon_types.specs.declared.types.token.Token.TheVariants as token
use Rattle.upon_tag_parser.proofs.Bases as bases
use Rattle.upon_tree.proofs.expression.TreeReader.start_base.Goals as goal

pub returns-in-Some-clause-step : goal.returns-in-Some-clause-step
returns-in-Some-clause-step c =
    ok_map c.start_name.result
    (λ r. (whole : Bool) (before : List Lexeme) → Goes token.Ident c.in-Some.span before (lexemes_of c.in-Some.rest.now) → IsTreeStep c.args.self.now.parser.source.now whole r.0 before (lexemes_of r.1.now))
    (λ r. (whole : Bool) → IsTreeStep c.args.self.now.parser.source.now whole r.0 (lexemes_of c.args.tokens.now) (lexemes_of r.1.now))
    (λ r f whole. f whole (lexemes_of c.args.tokens.now) c.in-Some.ensures.token)
    c.start_name.ensures.step

pub returns-in-Some-clause-rest : goal.returns-in-Some-clause-rest
returns-in-Some-clause-rest c =
    rest_on c.start_name.result c.in-Some.rest.now c.args.tokens.now (c.in-Some.ensures.rest refl) c.start_name.ensures.rest

pub returns-in-Some-clause-stuck : goal.returns-in-Some-clause-stuck
returns-in-Some-clause-stuck c =
    stuck_same c.start_name.result (StopsAt (λ ps. after_name ∷ ps) c.args.self.now.parser.source.now c.in-Some.rest.now) (StopsBase c.args.self.now.parser.source.now c.args.tokens.now)
    (λ w left h. bases.name_stuck c.args.self.now.parser.source.now (lexemes_of c.args.tokens.now) (lexemes_of c.in-Some.rest.now) (lexemes_of left) (wanted_of w) c.in-Some.span c.in-Some.ensures.token h)
    c.start_name.ensures.stuck

pub returns-in_err-path-clause-stuck : goal.returns-in_err-path-clause-stuck
returns-in_err-path-clause-stuck c =
    handed_on c.from_residual.result c.in_err-path.field-0.0 (StopsAt (λ ps. a_member ∷ ps) c.args.self.now.parser.source.now c.in-Some-take_op.rest.now) (StopsBase c.args.self.now.parser.source.now c.args.tokens.now)
    (err_from_is_err_and c.from_residual.result c.from_residual.ensures.1)
    (λ w left h. bases.member_stuck c.args.self.now.parser.source.now (lexemes_of c.args.tokens.now) (lexemes_of c.in-Some-take_op.rest.now) (lexemes_of left) (wanted_of w) c.in-Some-take_op.op c.in-Some-take_op.at c.in-Some-take_op.ensures.op h)
    c.in_err-path.ensures.stuck

pub returns-in-Some-take_op-clause-step : goal.returns-in-Some-take_op-clause-step
returns-in-Some-take_op-clause-step c whole =
    let F : Base → Type 0 = λ x. ReadsBase c.args.self.now.parser.source.now x (lexemes_of c.args.tokens.now) (lexemes_of c.in_ok-path.left.now) in
    subst F (sym c.path_base.ensures) (c.in_ok-path.ensures.path (lexemes_of c.args.tokens.now) c.in-Some-take_op.ensures.op)

pub returns-in-Some-take_op-clause-rest : goal.returns-in-Some-take_op-clause-rest
returns-in-Some-take_op-clause-rest c =
    rest_then (lexemes_of c.args.tokens.now) (lexemes_of c.in-Some-take_op.rest.now) (lexemes_of c.in_ok-path.left.now) c.in-Some-take_op.ensures.rest c.in_ok-path.ensures.rest

pub returns-in-Some-take-clause-step : goal.returns-in-Some-take-clause-step
returns-in-Some-take-clause-step c whole =
    c.start_list.ensures.step whole (lexemes_of c.args.tokens.now) c.in-Some-take.ensures.token

pub returns-in-Some-take-clause-rest : goal.returns-in-Some-take-clause-rest
returns-in-Some-take-clause-rest c =
    rest_then (lexemes_of c.args.tokens.now) (lexemes_of c.in-Some-take.rest.now) _ (c.in-Some-take.ensures.rest refl) c.start_list.ensures.rest

pub returns-in-Some-take-2-clause-step : goal.returns-in-Some-take-2-clause-step
returns-in-Some-take-2-clause-step c =
    ok_map c.start_map.result
    (λ r. (whole : Bool) (before : List Lexeme) → Goes token.OpenBrace c.in-Some-take-2.opening before (lexemes_of c.in-Some-take-2.rest.now) → IsTreeStep c.args.self.now.parser.source.now whole r.0 before (lexemes_of r.1.now))
    (λ r. (whole : Bool) → IsTreeStep c.args.self.now.parser.source.now whole r.0 (lexemes_of c.args.tokens.now) (lexemes_of r.1.now))
    (λ r f whole. f whole (lexemes_of c.args.tokens.now) c.in-Some-take-2.ensures.token)
    c.start_map.ensures.step

pub returns-in-Some-take-2-clause-rest : goal.returns-in-Some-take-2-clause-rest
returns-in-Some-take-2-clause-rest c =
    rest_on c.start_map.result c.in-Some-take-2.rest.now c.args.tokens.now (c.in-Some-take-2.ensures.rest refl) c.start_map.ensures.rest

pub returns-in-Some-take-2-clause-stuck : goal.returns-in-Some-take-2-clause-stuck
returns-in-Some-take-2-clause-stuck c =
    stuck_same c.start_map.result (StopsAt (λ ps. map_start ∷ ps) c.args.self.now.parser.source.now c.in-Some-take-2.rest.now) (StopsBase c.args.self.now.parser.source.now c.args.tokens.now)
    (λ w left h. bases.map_start_stuck c.args.self.now.parser.source.now (lexemes_of c.args.tokens.now) (lexemes_of c.in-Some-take-2.rest.now) (lexemes_of left) (wanted_of w) c.in-Some-take-2.opening c.in-Some-take-2.ensures.token h)
    c.start_map.ensures.stuck

pub returns-in-Some-take-3-clause-step : goal.returns-in-Some-take-3-clause-step
returns-in-Some-take-3-clause-step c whole =
    c.in-Some-take-3.ensures.token

pub returns-in_err-parse_literal-clause-stuck : goal.returns-in_err-parse_literal-clause-stuck
returns-in_err-parse_literal-clause-stuck c =
    handed_on c.from_residual-in_err-parse_literal.result c.in_err-parse_literal.field-0.0 (λ w left. (from parts : List Part) → TakesBase from parts → IsStuck c.args.self.now.parser.source.now from c.args.tokens.now w left) (StopsBase c.args.self.now.parser.source.now c.args.tokens.now)
    (err_from_is_err_and c.from_residual-in_err-parse_literal.result c.from_residual-in_err-parse_literal.ensures.1)
    (λ w left h from parts starts. h from parts starts.takes)
    c.in_err-parse_literal.ensures.stuck

pub returns-in-None-clause-stuck : goal.returns-in-None-clause-stuck
returns-in-None-clause-stuck c =
    base_stuck c.args.self.now.parser.source.now (lexemes_of c.args.tokens.now) c.in_default.ensures.token c.in_default-take_op.ensures.op c.in_default-take.ensures.token c.in_default-take-2.ensures.token c.in_default-take-3.ensures.token (rw c.in-None.is at c.in_ok-parse_literal.ensures.literal)

pub returns-in-Some-2-clause-step : goal.returns-in-Some-2-clause-step
returns-in-Some-2-clause-step c whole =
    let found = c.in-Some-2.literal in
    let F : Base → Type 0 = λ x. ReadsBase c.args.self.now.parser.source.now x (lexemes_of c.args.tokens.now) (lexemes_of c.in-Some-2.rest.now) in
    subst F (sym c.literal_base.ensures) (bases.literal_reads c.args.self.now.parser.source.now (view found.value) found.span (lexemes_of c.args.tokens.now) (lexemes_of c.in-Some-2.rest.now) (rw c.in-Some-2.is at c.in_ok-parse_literal.ensures.literal))
