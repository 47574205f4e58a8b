use Rattle.std.proofs.Common.{◌+◌, refl}
use Rattle.upon_types.specs.declared.types.Span.{Span}
use Rattle.upon_tag_parser.specs.declared.compile.parse.brackets.Open.TheVariants as opened
use Rattle.upon_tag_parser.specs.Brackets.{place_of, OpenGoesOnAt, OpenStuckAt, PartGoesOn, PartStuck}
use Rattle.upon_tag_parser.proofs.Stuck.{stuck_same, ok_map}
use Rattle.upon_tag_parser.proofs.Steps.Filters as steps
use Rattle.upon_tag_parser.proofs.compile.parse.path.TagParser.after_filter_argument.Goals as goal

pub returns-in-Some-clause-step : goal.returns-in-Some-clause-step
returns-in-Some-clause-step c whole from given =
    steps.filter_comma c.args.self.now.source.now c.args.receiver c.args.filter whole c.args.argument from (place_of c.args.tokens.now c.args.code.now.items) given (record { name = c.args.filter.name; count = c.args.filter.count + 1 }) (place_of c.in-Some.rest.now c.args.code.now.items) c.in-Some.field-0-0 c.in-Some.ensures.token refl refl refl

pub returns-clause-step : goal.returns-clause-step
returns-clause-step c =
    let spot : Span = record { m = c.args.receiver.start; n = c.args.argument.n } in
    let here = place_of c.args.tokens.now c.append.new.code.items in
    let new = c.after_part.new.code.items in
    ok_map c.after_part.result
    (λ r. PartGoesOn c.args.self.now.source.now c.args.receiver.opening spot here r.0 (place_of r.1.now new))
    (λ r. OpenGoesOnAt c.args.self.now.source.now (opened.Filter c.args.receiver c.args.filter) c.args.argument (place_of c.args.tokens.now c.args.code.now.items) r.0 (place_of r.1.now new))
    (λ r f whole from given. f whole from given.around.start given.around.begins (steps.filter_applied c.args.self.now.source.now c.args.receiver c.args.filter whole c.args.argument from (place_of c.args.tokens.now c.args.code.now.items) given (place_of c.args.tokens.now c.append.new.code.items) (c.args.filter.count + 1 + 1) (record { m = c.args.receiver.start; n = c.args.argument.n }) c.in_default.ensures.token refl refl refl c.in_ok-append.ensures))
    c.after_part.ensures.step

pub returns-clause-stuck : goal.returns-clause-stuck
returns-clause-stuck c =
    let spot : Span = record { m = c.args.receiver.start; n = c.args.argument.n } in
    let here = place_of c.args.tokens.now c.append.new.code.items in
    stuck_same c.after_part.result (PartStuck c.args.self.now.source.now c.args.receiver.opening spot here) (OpenStuckAt c.args.self.now.source.now (opened.Filter c.args.receiver c.args.filter) c.args.argument (place_of c.args.tokens.now c.args.code.now.items))
    (λ w left f whole from given. f whole from given.around.start given.around.begins (steps.filter_applied c.args.self.now.source.now c.args.receiver c.args.filter whole c.args.argument from (place_of c.args.tokens.now c.args.code.now.items) given (place_of c.args.tokens.now c.append.new.code.items) (c.args.filter.count + 1 + 1) (record { m = c.args.receiver.start; n = c.args.argument.n }) c.in_default.ensures.token refl refl refl c.in_ok-append.ensures))
    c.after_part.ensures.stuck
