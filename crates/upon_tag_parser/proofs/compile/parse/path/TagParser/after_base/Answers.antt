use Rattle.std.proofs.Common.{Some, sym, subst}
use Rattle.upon_tag_parser.specs.declared.compile.parse.brackets.Open.TheVariants as opened
use Rattle.upon_tag_parser.specs.Brackets.{place_of, OpenGoesOn, OpenGoesOnAt, OpenStuck, OpenStuckAt, PartGoesOn, PartStuck}
use Rattle.upon_tag_parser.proofs.Stuck.{stuck_same, ok_map}
use Rattle.upon_tag_parser.proofs.Steps.Filters as steps
use Rattle.upon_tag_parser.specs.declared.compile.parse.brackets.Open.{Open}
use Rattle.std.proofs.Common.{IfOk}
use Rattle.upon_tag_parser.specs.TagParsing.{IfStuck}
use Rattle.upon_tag_parser.proofs.compile.parse.path.TagParser.after_base.Goals as goal

pub returns-in-List-clause-step : goal.returns-in-List-clause-step
returns-in-List-clause-step c =
    let F : Open → Type 0 = λ o. IfOk c.after_item.result (λ r. OpenGoesOnAt c.args.self.now.source.now o c.args.span (place_of c.args.tokens.now c.args.code.now.items) r.0 (place_of r.1.now c.after_item.new.code.items)) in
    subst F (sym c.in-List.is) (ok_map c.after_item.result
    (λ r. OpenGoesOn c.args.self.now.source.now (opened.List c.in-List.start) (place_of c.args.tokens.now c.args.code.now.items) r.0 (place_of r.1.now c.after_item.new.code.items))
    (λ r. OpenGoesOnAt c.args.self.now.source.now (opened.List c.in-List.start) c.args.span (place_of c.args.tokens.now c.args.code.now.items) r.0 (place_of r.1.now c.after_item.new.code.items))
    (λ r f. f c.args.span) c.after_item.ensures.step)

pub returns-in-List-clause-stuck : goal.returns-in-List-clause-stuck
returns-in-List-clause-stuck c =
    let F : Open → Type 0 = λ o. IfStuck c.after_item.result (OpenStuckAt c.args.self.now.source.now o c.args.span (place_of c.args.tokens.now c.args.code.now.items)) in
    subst F (sym c.in-List.is) (stuck_same c.after_item.result (OpenStuck c.args.self.now.source.now (opened.List c.in-List.start) (place_of c.args.tokens.now c.args.code.now.items)) (OpenStuckAt c.args.self.now.source.now (opened.List c.in-List.start) c.args.span (place_of c.args.tokens.now c.args.code.now.items))
    (λ w left f. f c.args.span) c.after_item.ensures.stuck)

pub returns-in-Map-clause-step : goal.returns-in-Map-clause-step
returns-in-Map-clause-step c =
    let F : Open → Type 0 = λ o. IfOk c.after_entry.result (λ r. OpenGoesOnAt c.args.self.now.source.now o c.args.span (place_of c.args.tokens.now c.args.code.now.items) r.0 (place_of r.1.now c.after_entry.new.code.items)) in
    subst F (sym c.in-Map.is) (ok_map c.after_entry.result
    (λ r. OpenGoesOn c.args.self.now.source.now (opened.Map c.in-Map.start c.in-Map.key) (place_of c.args.tokens.now c.args.code.now.items) r.0 (place_of r.1.now c.after_entry.new.code.items))
    (λ r. OpenGoesOnAt c.args.self.now.source.now (opened.Map c.in-Map.start c.in-Map.key) c.args.span (place_of c.args.tokens.now c.args.code.now.items) r.0 (place_of r.1.now c.after_entry.new.code.items))
    (λ r f. f c.args.span) c.after_entry.ensures.step)

pub returns-in-Map-clause-stuck : goal.returns-in-Map-clause-stuck
returns-in-Map-clause-stuck c =
    let F : Open → Type 0 = λ o. IfStuck c.after_entry.result (OpenStuckAt c.args.self.now.source.now o c.args.span (place_of c.args.tokens.now c.args.code.now.items)) in
    subst F (sym c.in-Map.is) (stuck_same c.after_entry.result (OpenStuck c.args.self.now.source.now (opened.Map c.in-Map.start c.in-Map.key) (place_of c.args.tokens.now c.args.code.now.items)) (OpenStuckAt c.args.self.now.source.now (opened.Map c.in-Map.start c.in-Map.key) c.args.span (place_of c.args.tokens.now c.args.code.now.items))
    (λ w left f. f c.args.span) c.after_entry.ensures.stuck)

pub returns-in-Call-clause-step : goal.returns-in-Call-clause-step
returns-in-Call-clause-step c =
    let F : Open → Type 0 = λ o. IfOk c.after_argument.result (λ r. OpenGoesOnAt c.args.self.now.source.now o c.args.span (place_of c.args.tokens.now c.args.code.now.items) r.0 (place_of r.1.now c.after_argument.new.code.items)) in
    subst F (sym c.in-Call.is) (ok_map c.after_argument.result
    (λ r. OpenGoesOn c.args.self.now.source.now (opened.Call c.in-Call.call) (place_of c.args.tokens.now c.args.code.now.items) r.0 (place_of r.1.now c.after_argument.new.code.items))
    (λ r. OpenGoesOnAt c.args.self.now.source.now (opened.Call c.in-Call.call) c.args.span (place_of c.args.tokens.now c.args.code.now.items) r.0 (place_of r.1.now c.after_argument.new.code.items))
    (λ r f. f c.args.span) c.after_argument.ensures.step)

pub returns-in-Call-clause-stuck : goal.returns-in-Call-clause-stuck
returns-in-Call-clause-stuck c =
    let F : Open → Type 0 = λ o. IfStuck c.after_argument.result (OpenStuckAt c.args.self.now.source.now o c.args.span (place_of c.args.tokens.now c.args.code.now.items)) in
    subst F (sym c.in-Call.is) (stuck_same c.after_argument.result (OpenStuck c.args.self.now.source.now (opened.Call c.in-Call.call) (place_of c.args.tokens.now c.args.code.now.items)) (OpenStuckAt c.args.self.now.source.now (opened.Call c.in-Call.call) c.args.span (place_of c.args.tokens.now c.args.code.now.items))
    (λ w left f. f c.args.span) c.after_argument.ensures.stuck)

pub returns-in-Paren-clause-step : goal.returns-in-Paren-clause-step
returns-in-Paren-clause-step c =
    let F : Open → Type 0 = λ o. IfOk c.after_part.result (λ r. OpenGoesOnAt c.args.self.now.source.now o c.args.span (place_of c.args.tokens.now c.args.code.now.items) r.0 (place_of r.1.now c.after_part.new.code.items)) in
    subst F (sym c.in-Paren.is) (ok_map c.after_part.result
    (λ r. PartGoesOn c.args.self.now.source.now (Some c.in-Paren.opening) c.args.span (place_of c.args.tokens.now c.args.code.now.items) r.0 (place_of r.1.now c.after_part.new.code.items))
    (λ r. OpenGoesOnAt c.args.self.now.source.now (opened.Paren c.in-Paren.opening) c.args.span (place_of c.args.tokens.now c.args.code.now.items) r.0 (place_of r.1.now c.after_part.new.code.items))
    (λ r f whole from given. f whole from given.mid given.around (steps.part_of_base c.args.self.now.source.now c.args.span given.mid (place_of c.args.tokens.now c.args.code.now.items) given.read)) c.after_part.ensures.step)

pub returns-in-Paren-clause-stuck : goal.returns-in-Paren-clause-stuck
returns-in-Paren-clause-stuck c =
    let F : Open → Type 0 = λ o. IfStuck c.after_part.result (OpenStuckAt c.args.self.now.source.now o c.args.span (place_of c.args.tokens.now c.args.code.now.items)) in
    subst F (sym c.in-Paren.is) (stuck_same c.after_part.result (PartStuck c.args.self.now.source.now (Some c.in-Paren.opening) c.args.span (place_of c.args.tokens.now c.args.code.now.items)) (OpenStuckAt c.args.self.now.source.now (opened.Paren c.in-Paren.opening) c.args.span (place_of c.args.tokens.now c.args.code.now.items))
    (λ w left f whole from given. f whole from given.mid given.around (steps.part_of_base c.args.self.now.source.now c.args.span given.mid (place_of c.args.tokens.now c.args.code.now.items) given.read)) c.after_part.ensures.stuck)

pub returns-in-Filter-clause-step : goal.returns-in-Filter-clause-step
returns-in-Filter-clause-step c =
    let F : Open → Type 0 = λ o. IfOk c.after_filter_argument.result (λ r. OpenGoesOnAt c.args.self.now.source.now o c.args.span (place_of c.args.tokens.now c.args.code.now.items) r.0 (place_of r.1.now c.after_filter_argument.new.code.items)) in
    subst F (sym c.in-Filter.is) (ok_map c.after_filter_argument.result
    (λ r. OpenGoesOnAt c.args.self.now.source.now (opened.Filter c.in-Filter.receiver c.in-Filter.filter) c.args.span (place_of c.args.tokens.now c.args.code.now.items) r.0 (place_of r.1.now c.after_filter_argument.new.code.items))
    (λ r. OpenGoesOnAt c.args.self.now.source.now (opened.Filter c.in-Filter.receiver c.in-Filter.filter) c.args.span (place_of c.args.tokens.now c.args.code.now.items) r.0 (place_of r.1.now c.after_filter_argument.new.code.items))
    (λ r f. f) c.after_filter_argument.ensures.step)

pub returns-in-Filter-clause-stuck : goal.returns-in-Filter-clause-stuck
returns-in-Filter-clause-stuck c =
    let F : Open → Type 0 = λ o. IfStuck c.after_filter_argument.result (OpenStuckAt c.args.self.now.source.now o c.args.span (place_of c.args.tokens.now c.args.code.now.items)) in
    subst F (sym c.in-Filter.is) (stuck_same c.after_filter_argument.result (OpenStuckAt c.args.self.now.source.now (opened.Filter c.in-Filter.receiver c.in-Filter.filter) c.args.span (place_of c.args.tokens.now c.args.code.now.items)) (OpenStuckAt c.args.self.now.source.now (opened.Filter c.in-Filter.receiver c.in-Filter.filter) c.args.span (place_of c.args.tokens.now c.args.code.now.items))
    (λ w left f. f) c.after_filter_argument.ensures.stuck)
