use Rattle.std.proofs.Common.{sym, None, [], ◌≡◌, ◌∙◌}
use Rattle.std.proofs.lemmas.List.{nil_from_length}
use Rattle.upon_tag_parser.proofs.Stuck.{stuck_same, ok_map}
use Rattle.upon_tag_parser.specs.TagTokens.{lexemes_of}
use Rattle.upon_tree.specs.Opened.{OpenTreeGoesOn, OpenTreeStuck, PartTreeGoesOn, PartTreeStuck, ReadsTreeOn, ReadsTreeStuck}
use Rattle.upon_tree.specs.declared.opened.Step.TheVariants as stepped
use Rattle.upon_tree.proofs.Stacks as stacks
use Rattle.upon_tree.proofs.expression.TreeReader.leave.Goals as goal

pub returns-in-None-clause-step : goal.returns-in-None-clause-step
returns-in-None-clause-step c =
    let old : c.args.stack.now.items ≡ [] = nil_from_length c.args.stack.now.items (sym c.args.stack.now.ok.0 ∙ c.in-None.ensures.cases.0) in
    let now : c.pop.new.self.items ≡ [] = nil_from_length c.pop.new.self.items (sym c.pop.new.self.ok.0 ∙ c.in-None.ensures.cases.1) in
    ok_map c.after_part.result
    (λ r. PartTreeGoesOn c.args.self.now.parser.source.now None c.part_of.result (lexemes_of c.args.tokens.now) r.0 (lexemes_of r.1.now))
    (λ r. ReadsTreeOn c.args.self.now.parser.source.now c.args.stack.now.items (stepped.Base c.args.base) (lexemes_of c.args.tokens.now) c.pop.new.self.items r.0 (lexemes_of r.1.now))
    (λ r f from h. stacks.left_alone c.args.self.now.parser.source.now c.args.stack.now.items c.pop.new.self.items c.args.base c.part_of.result r.0 from (lexemes_of c.args.tokens.now) (lexemes_of r.1.now) c.part_of.ensures old now h f)
    c.after_part.ensures.step

pub returns-in-None-clause-stuck : goal.returns-in-None-clause-stuck
returns-in-None-clause-stuck c =
    let old : c.args.stack.now.items ≡ [] = nil_from_length c.args.stack.now.items (sym c.args.stack.now.ok.0 ∙ c.in-None.ensures.cases.0) in
    stuck_same c.after_part.result (PartTreeStuck c.args.self.now.parser.source.now None c.part_of.result (lexemes_of c.args.tokens.now)) (ReadsTreeStuck c.args.self.now.parser.source.now c.args.stack.now.items (stepped.Base c.args.base) (lexemes_of c.args.tokens.now))
    (λ w left f from h. stacks.left_alone_stuck c.args.self.now.parser.source.now c.args.stack.now.items c.args.base c.part_of.result from (lexemes_of c.args.tokens.now) w left c.part_of.ensures old h f)
    c.after_part.ensures.stuck

pub returns-in-Some-clause-step : goal.returns-in-Some-clause-step
returns-in-Some-clause-step c =
    ok_map c.after_base.result
    (λ r. OpenTreeGoesOn c.args.self.now.parser.source.now c.in-Some.top c.args.base (lexemes_of c.args.tokens.now) r.0 (lexemes_of r.1.now))
    (λ r. ReadsTreeOn c.args.self.now.parser.source.now c.args.stack.now.items (stepped.Base c.args.base) (lexemes_of c.args.tokens.now) c.pop.new.self.items r.0 (lexemes_of r.1.now))
    (λ r f from h. stacks.left c.args.self.now.parser.source.now c.args.stack.now.items c.pop.new.self.items c.in-Some.top c.args.base r.0 from (lexemes_of c.args.tokens.now) (lexemes_of r.1.now) c.in-Some.ensures.items h f)
    c.after_base.ensures.step

pub returns-in-Some-clause-stuck : goal.returns-in-Some-clause-stuck
returns-in-Some-clause-stuck c =
    stuck_same c.after_base.result (OpenTreeStuck c.args.self.now.parser.source.now c.in-Some.top c.args.base (lexemes_of c.args.tokens.now)) (ReadsTreeStuck c.args.self.now.parser.source.now c.args.stack.now.items (stepped.Base c.args.base) (lexemes_of c.args.tokens.now))
    (λ w left f from h. stacks.left_stuck c.args.self.now.parser.source.now c.args.stack.now.items c.pop.new.self.items c.in-Some.top c.args.base from (lexemes_of c.args.tokens.now) w left c.in-Some.ensures.items h f)
    c.after_base.ensures.stuck
