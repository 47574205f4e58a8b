use Rattle.std.proofs.Common.{List, ◌∷◌, true, refl}
use Rattle.std.proofs.lemmas.Result.{err_from_is_err_and}
use Rattle.upon_language_spec.specs.Parts.{Part, a_base, filters, condition}
use Rattle.upon_tag_parser.specs.TagTokens.{lexemes_of}
use Rattle.upon_tag_parser.specs.Wants.{wanted_of}
use Rattle.upon_tag_parser.specs.TagParsing.{IsStuck}
use Rattle.upon_tag_parser.specs.Brackets.{StuckFrom}
use Rattle.upon_tag_parser.proofs.TagTokens.{rest_then}
use Rattle.upon_tag_parser.proofs.Stuck.{handed_on}
use Rattle.std.proofs.Common.{codes}
use Rattle.upon_language_spec.proofs.Wanted.ExpressionsLead.{leads_key}
use Rattle.upon_tag_parser.proofs.Stuck.{stuck_then}
use Rattle.upon_tag_parser.proofs.BaseStarts.{base_starts}
use Rattle.upon_tag_parser.proofs.Endings.{condition_starts}
use Rattle.upon_tag_parser.proofs.Tags.{condition_reads, not_reads}
use Rattle.upon_tag_parser.proofs.compile.parse.path.TagParser.parse_condition.Goals as goal

pub returns-in_err-left-in-None-clause-stuck : goal.returns-in_err-left-in-None-clause-stuck
returns-in_err-left-in-None-clause-stuck c =
    handed_on c.from_residual.result c.in_err-left-in-None.field-0.0 (StuckFrom c.args.self.now.source.now true (lexemes_of c.args.tokens.now)) (λ w left. (parts : List Part) → IsStuck c.args.self.now.source.now (condition ∷ parts) c.args.tokens.now w left)
    (err_from_is_err_and c.from_residual.result c.from_residual.ensures.1)
    (λ w left h parts. h (condition ∷ parts) parts (condition_starts c.args.self.now.source.now parts (lexemes_of c.args.tokens.now) c.in-None.ensures.word))
    c.in_err-left-in-None.ensures.stuck

pub returns-in_err-left-in-Some-clause-stuck : goal.returns-in_err-left-in-Some-clause-stuck
returns-in_err-left-in-Some-clause-stuck c =
    handed_on c.from_residual-in_err-left-in-Some.result c.in_err-left-in-Some.field-0.0 (StuckFrom c.args.self.now.source.now true (lexemes_of c.in-Some.rest.now)) (λ w left. (parts : List Part) → IsStuck c.args.self.now.source.now (condition ∷ parts) c.args.tokens.now w left)
    (err_from_is_err_and c.from_residual-in_err-left-in-Some.result c.from_residual-in_err-left-in-Some.ensures.1)
    (λ w left h parts. stuck_then c.args.self.now.source.now (condition ∷ parts) (a_base ∷ filters ∷ parts) (lexemes_of c.args.tokens.now) (lexemes_of c.in-Some.rest.now) (lexemes_of left) (wanted_of w) (leads_key c.args.self.now.source.now (codes "not") c.in-Some.ensures.word refl) (h (a_base ∷ filters ∷ parts) parts (base_starts c.args.self.now.source.now (filters ∷ parts) (lexemes_of c.in-Some.rest.now))))
    c.in_err-left-in-Some.ensures.stuck

pub returns-in_ok-left-in-None-clause-condition : goal.returns-in_ok-left-in-None-clause-condition
returns-in_ok-left-in-None-clause-condition c =
    let x = c.in_ok-left-in-None.ensures.expression in
    record { tree = x.tree; reads = condition_reads c.args.self.now.source.now x.tree (lexemes_of c.args.tokens.now) (lexemes_of c.in_ok-left-in-None.left.now) x.reads; code = x.code }

pub returns-in_ok-left-in-Some-clause-condition : goal.returns-in_ok-left-in-Some-clause-condition
returns-in_ok-left-in-Some-clause-condition c =
    let x = c.in_ok-left-in-Some.ensures.expression in
    record { tree = x.tree; reads = not_reads c.args.self.now.source.now x.tree (lexemes_of c.args.tokens.now) (lexemes_of c.in-Some.rest.now) (lexemes_of c.in_ok-left-in-Some.left.now) (_, c.in-Some.ensures.word) x.reads; code = x.code }

pub returns-in_ok-left-in-Some-clause-rest : goal.returns-in_ok-left-in-Some-clause-rest
returns-in_ok-left-in-Some-clause-rest c =
    rest_then (lexemes_of c.args.tokens.now) (lexemes_of c.in-Some.rest.now) (lexemes_of c.in_ok-left-in-Some.left.now) c.in-Some.ensures.rest c.in_ok-left-in-Some.ensures.rest
