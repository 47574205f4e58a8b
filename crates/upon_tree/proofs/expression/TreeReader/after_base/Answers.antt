use Rattle.std.proofs.Common.{sym, subst, Some, IfOk}
use Rattle.upon_tag_parser.proofs.Stuck.{stuck_same, ok_map}
use Rattle.upon_tag_parser.specs.TagParsing.{IfStuck}
use Rattle.upon_tag_parser.specs.TagTokens.{lexemes_of}
use Rattle.upon_tree.specs.Opened.{OpenTreeGoesOn, OpenTreeStuck, PartTreeGoesOn, PartTreeStuck}
use Rattle.upon_tree.specs.declared.opened.Open.TheVariants as opened
use Rattle.upon_tree.proofs.Filters as steps
use Rattle.upon_tree.specs.declared.opened.Open.{Open}
use Rattle.upon_tree.proofs.expression.TreeReader.after_base.Goals as goal

pub returns-in-List-clause-step : goal.returns-in-List-clause-step
returns-in-List-clause-step c =
    let F : Open → Type 0 = λ o. IfOk c.after_item.result (λ r. OpenTreeGoesOn c.args.self.now.parser.source.now o c.args.base (lexemes_of c.args.tokens.now) r.0 (lexemes_of r.1.now)) in
    subst F (sym c.in-List.is) c.after_item.ensures.step

pub returns-in-List-clause-stuck : goal.returns-in-List-clause-stuck
returns-in-List-clause-stuck c =
    let F : Open → Type 0 = λ o. IfStuck c.after_item.result (OpenTreeStuck c.args.self.now.parser.source.now o c.args.base (lexemes_of c.args.tokens.now)) in
    subst F (sym c.in-List.is) c.after_item.ensures.stuck

pub returns-in-Map-clause-step : goal.returns-in-Map-clause-step
returns-in-Map-clause-step c =
    let F : Open → Type 0 = λ o. IfOk c.after_entry.result (λ r. OpenTreeGoesOn c.args.self.now.parser.source.now o c.args.base (lexemes_of c.args.tokens.now) r.0 (lexemes_of r.1.now)) in
    subst F (sym c.in-Map.is) c.after_entry.ensures.step

pub returns-in-Map-clause-stuck : goal.returns-in-Map-clause-stuck
returns-in-Map-clause-stuck c =
    let F : Open → Type 0 = λ o. IfStuck c.after_entry.result (OpenTreeStuck c.args.self.now.parser.source.now o c.args.base (lexemes_of c.args.tokens.now)) in
    subst F (sym c.in-Map.is) c.after_entry.ensures.stuck

pub returns-in-Call-clause-step : goal.returns-in-Call-clause-step
returns-in-Call-clause-step c =
    let F : Open → Type 0 = λ o. IfOk c.after_argument.result (λ r. OpenTreeGoesOn c.args.self.now.parser.source.now o c.args.base (lexemes_of c.args.tokens.now) r.0 (lexemes_of r.1.now)) in
    subst F (sym c.in-Call.is) c.after_argument.ensures.step

pub returns-in-Call-clause-stuck : goal.returns-in-Call-clause-stuck
returns-in-Call-clause-stuck c =
    let F : Open → Type 0 = λ o. IfStuck c.after_argument.result (OpenTreeStuck c.args.self.now.parser.source.now o c.args.base (lexemes_of c.args.tokens.now)) in
    subst F (sym c.in-Call.is) c.after_argument.ensures.stuck

pub returns-in-Filter-clause-step : goal.returns-in-Filter-clause-step
returns-in-Filter-clause-step c =
    let F : Open → Type 0 = λ o. IfOk c.after_filter_argument.result (λ r. OpenTreeGoesOn c.args.self.now.parser.source.now o c.args.base (lexemes_of c.args.tokens.now) r.0 (lexemes_of r.1.now)) in
    subst F (sym c.in-Filter.is) c.after_filter_argument.ensures.step

pub returns-in-Filter-clause-stuck : goal.returns-in-Filter-clause-stuck
returns-in-Filter-clause-stuck c =
    let F : Open → Type 0 = λ o. IfStuck c.after_filter_argument.result (OpenTreeStuck c.args.self.now.parser.source.now o c.args.base (lexemes_of c.args.tokens.now)) in
    subst F (sym c.in-Filter.is) c.after_filter_argument.ensures.stuck

pub returns-in-Paren-clause-step : goal.returns-in-Paren-clause-step
returns-in-Paren-clause-step c =
    let F : Open → Type 0 = λ o. IfOk c.after_part.result (λ r. OpenTreeGoesOn c.args.self.now.parser.source.now o c.args.base (lexemes_of c.args.tokens.now) r.0 (lexemes_of r.1.now)) in
    subst F (sym c.in-Paren.is) (ok_map c.after_part.result
    (λ r. PartTreeGoesOn c.args.self.now.parser.source.now (Some c.in-Paren.opening) c.part_of.result (lexemes_of c.args.tokens.now) r.0 (lexemes_of r.1.now))
    (λ r. OpenTreeGoesOn c.args.self.now.parser.source.now (opened.Paren c.in-Paren.opening) c.args.base (lexemes_of c.args.tokens.now) r.0 (lexemes_of r.1.now))
    (λ r f whole from given. f whole from given.mid given.around (steps.part_of_base c.args.self.now.parser.source.now c.args.base c.part_of.result given.mid (lexemes_of c.args.tokens.now) c.part_of.ensures given.read)) c.after_part.ensures.step)

pub returns-in-Paren-clause-stuck : goal.returns-in-Paren-clause-stuck
returns-in-Paren-clause-stuck c =
    let F : Open → Type 0 = λ o. IfStuck c.after_part.result (OpenTreeStuck c.args.self.now.parser.source.now o c.args.base (lexemes_of c.args.tokens.now)) in
    subst F (sym c.in-Paren.is) (stuck_same c.after_part.result (PartTreeStuck c.args.self.now.parser.source.now (Some c.in-Paren.opening) c.part_of.result (lexemes_of c.args.tokens.now)) (OpenTreeStuck c.args.self.now.parser.source.now (opened.Paren c.in-Paren.opening) c.args.base (lexemes_of c.args.tokens.now))
    (λ w left f whole from given. f whole from given.mid given.around (steps.part_of_base c.args.self.now.parser.source.now c.args.base c.part_of.result given.mid (lexemes_of c.args.tokens.now) c.part_of.ensures given.read)) c.after_part.ensures.stuck)
