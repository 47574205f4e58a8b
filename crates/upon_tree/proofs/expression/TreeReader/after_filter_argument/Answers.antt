use Rattle.upon_types.specs.Expression.{arguments, filtered}
use Rattle.std.proofs.Common.{refl, ◌≡◌, ◌∙◌, ap}
use Rattle.upon_tag_parser.proofs.Stuck.{stuck_same, ok_map}
use Rattle.upon_tag_parser.specs.TagTokens.{lexemes_of}
use Rattle.upon_tree.specs.AstExpression.{base_tree, expression_tree, bases_tree}
use Rattle.upon_tree.specs.Opened.{OpenTreeGoesOn, OpenTreeStuck, PartTreeGoesOn, PartTreeStuck}
use Rattle.upon_types.specs.AstPath.{ident_of}
use Rattle.upon_types.specs.Expression.{base_span, expression_span}
use Rattle.upon_tree.specs.declared.opened.Open.TheVariants as opened
use Rattle.upon_tree.proofs.Filters as steps
use Rattle.upon_types.specs.declared.types.Span.{Span}
use Rattle.upon_tree.proofs.expression.TreeReader.after_filter_argument.Goals as goal

pub returns-in-Some-clause-step : goal.returns-in-Some-clause-step
returns-in-Some-clause-step c whole from given =
    steps.filter_comma c.args.self.now.parser.source.now c.args.receiver c.args.filter c.push.new.self.items c.args.argument whole from (lexemes_of c.args.tokens.now) given c.in_ok-push.ensures.items (record { name = c.args.filter.name; values = c.push.new.self }) (lexemes_of c.in-Some.rest.now) c.in-Some.field-0-0 c.in-Some.ensures.token refl refl

pub returns-clause-step : goal.returns-clause-step
returns-clause-step c =
    let at : Span = record { m = c.args.receiver.colon.m; n = c.span-n.result.n } in
    let place : Span = record { m = c.span.result.m; n = c.span-n.result.n } in
    let ends : at ≡ record { m = c.args.receiver.colon.m; n = (base_span (base_tree c.args.argument)).n } = ap (λ (x : Span). record { m = c.args.receiver.colon.m; n = x.n }) c.span-n.ensures in
    let ends_place : place ≡ record { m = (expression_span (expression_tree c.args.receiver.expr)).m; n = (base_span (base_tree c.args.argument)).n } = cc in
    let denotes : expression_tree c.in_ok-part.part ≡ filtered (expression_tree c.args.receiver.expr) (ident_of c.args.filter.name) (arguments (bases_tree c.push.new.self.items) at) place =
    c.in_ok-part.ensures ∙ ap (λ x. filtered (expression_tree c.args.receiver.expr) (ident_of c.args.filter.name) x place) c.arguments_at-args.ensures in
    ok_map c.after_part.result
    (λ r. PartTreeGoesOn c.args.self.now.parser.source.now c.args.receiver.opening c.in_ok-part.part (lexemes_of c.args.tokens.now) r.0 (lexemes_of r.1.now))
    (λ r. OpenTreeGoesOn c.args.self.now.parser.source.now (opened.Filter c.args.receiver c.args.filter) c.args.argument (lexemes_of c.args.tokens.now) r.0 (lexemes_of r.1.now))
    (λ r f whole from given. f whole from given.around.start given.around.begins (steps.filter_applied c.args.self.now.parser.source.now c.args.receiver c.args.filter c.push.new.self.items c.args.argument whole from (lexemes_of c.args.tokens.now) given c.in_ok-push.ensures.items c.in_ok-part.part at place c.in_default.ensures.token ends ends_place denotes))
    c.after_part.ensures.step

pub returns-clause-stuck : goal.returns-clause-stuck
returns-clause-stuck c =
    let at : Span = record { m = c.args.receiver.colon.m; n = c.span-n.result.n } in
    let place : Span = record { m = c.span.result.m; n = c.span-n.result.n } in
    let ends : at ≡ record { m = c.args.receiver.colon.m; n = (base_span (base_tree c.args.argument)).n } = ap (λ (x : Span). record { m = c.args.receiver.colon.m; n = x.n }) c.span-n.ensures in
    let ends_place : place ≡ record { m = (expression_span (expression_tree c.args.receiver.expr)).m; n = (base_span (base_tree c.args.argument)).n } = cc in
    let denotes : expression_tree c.in_ok-part.part ≡ filtered (expression_tree c.args.receiver.expr) (ident_of c.args.filter.name) (arguments (bases_tree c.push.new.self.items) at) place =
    c.in_ok-part.ensures ∙ ap (λ x. filtered (expression_tree c.args.receiver.expr) (ident_of c.args.filter.name) x place) c.arguments_at-args.ensures in
    stuck_same c.after_part.result (PartTreeStuck c.args.self.now.parser.source.now c.args.receiver.opening c.in_ok-part.part (lexemes_of c.args.tokens.now)) (OpenTreeStuck c.args.self.now.parser.source.now (opened.Filter c.args.receiver c.args.filter) c.args.argument (lexemes_of c.args.tokens.now))
    (λ w left f whole from given. f whole from given.around.start given.around.begins (steps.filter_applied c.args.self.now.parser.source.now c.args.receiver c.args.filter c.push.new.self.items c.args.argument whole from (lexemes_of c.args.tokens.now) given c.in_ok-push.ensures.items c.in_ok-part.part at place c.in_default.ensures.token ends ends_place denotes))
    c.after_part.ensures.stuck
