use Rattle.std.proofs.Common.{[], ◌∷◌, true, ap, sym}
use Rattle.std.proofs.lemmas.Result.{err_from_is_err_and}
use Rattle.upon_language_spec.specs.Parts.{a_base, filters, end_block, loop_name}
use Rattle.upon_tag_parser.specs.TagTokens.{lexemes_of}
use Rattle.upon_tag_parser.specs.Wants.{wanted_of}
use Rattle.upon_tag_parser.specs.TagParsing.{IsStuck}
use Rattle.upon_tag_parser.specs.Brackets.{StuckFrom}
use Rattle.upon_tag_parser.proofs.TagTokens.{rest_then}
use Rattle.upon_tag_parser.proofs.Stuck.{handed_on}
use Rattle.std.proofs.Common.{codes}
use Rattle.upon_types.specs.AstPath.{loop_vars_of}
use Rattle.upon_language_spec.specs.Wanted.{an_in}
use Rattle.upon_language_spec.proofs.Wanted.ExpressionsLead.{leads_then, leads_key}
use Rattle.upon_tag_parser.specs.BlockTags.{opening_tag}
use Rattle.upon_types.specs.BlockKinds.{for_tag}
use Rattle.upon_tag_parser.proofs.Stuck.{stuck_here, stuck_then}
use Rattle.upon_tag_parser.proofs.BaseStarts.{base_starts}
use Rattle.upon_tag_parser.proofs.Tags.{for_reads}
use Rattle.upon_tag_parser.proofs.compile.parse.path.TagParser.parse_for.Goals as goal

pub returns-in_err-span-in-Some-clause-stuck : goal.returns-in_err-span-in-Some-clause-stuck
returns-in_err-span-in-Some-clause-stuck c =
    let vars = c.in_ok-vars.ensures.vars in
    handed_on c.from_residual-in_err-span-in-Some.result c.in_err-span-in-Some.field-0.0 (StuckFrom c.args.self.now.source.now true (lexemes_of c.in-Some.rest.now)) (IsStuck c.args.self.now.source.now (loop_name ∷ end_block ∷ []) c.args.tokens.now)
    (err_from_is_err_and c.from_residual-in_err-span-in-Some.result c.from_residual-in_err-span-in-Some.ensures.1)
    (λ w left h. stuck_then c.args.self.now.source.now (loop_name ∷ end_block ∷ []) (a_base ∷ filters ∷ end_block ∷ []) (lexemes_of c.args.tokens.now) (lexemes_of c.in-Some.rest.now) (lexemes_of left) (wanted_of w)
    (leads_then c.args.self.now.source.now (vars.leads (end_block ∷ [])) (leads_key c.args.self.now.source.now (codes "in") c.in-Some.ensures.word (vars.takes_in (end_block ∷ []))))
    (h (a_base ∷ filters ∷ end_block ∷ []) (end_block ∷ []) (base_starts c.args.self.now.source.now (filters ∷ end_block ∷ []) (lexemes_of c.in-Some.rest.now))))
    c.in_err-span-in-Some.ensures.stuck

pub returns-in-None-clause-stuck : goal.returns-in-None-clause-stuck
returns-in-None-clause-stuck c =
    let vars = c.in_ok-vars.ensures.vars in
    let rest = (lexemes_of c.in_ok-vars.rest.now) in
    stuck_then c.args.self.now.source.now (loop_name ∷ end_block ∷ []) (vars.last ∷ end_block ∷ []) (lexemes_of c.args.tokens.now) rest rest an_in (vars.leads (end_block ∷ [])) (stuck_here c.args.self.now.source.now (vars.last ∷ end_block ∷ []) rest an_in (vars.refuses (end_block ∷ []) c.in-None.ensures.word) (vars.wants_in (end_block ∷ [])))

pub returns-in_ok-names-in-Some-clause-tag : goal.returns-in_ok-names-in-Some-clause-tag
returns-in_ok-names-in-Some-clause-tag c before g =
    let x = c.in_ok-span-in-Some.ensures.expression in
    let vars = loop_vars_of c.in_ok-vars.vars in
    record {
      tree = opening_tag (for_tag vars) x.tree;
      reads = for_reads c.args.self.now.source.now vars x.tree before (lexemes_of c.args.tokens.now) (lexemes_of c.in_ok-vars.rest.now) (lexemes_of c.in-Some.rest.now) (lexemes_of c.in_ok-span-in-Some.left.now) g c.in_ok-vars.ensures.vars (_, c.in-Some.ensures.word) x.reads;
      keeps = (x.tree, ap (λ v. opening_tag (for_tag (loop_vars_of v)) x.tree) (sym c.in_ok-names-in-Some.ensures.ok), x.is_at);
      code = x.code;
    }

pub returns-in_ok-names-in-Some-clause-rest : goal.returns-in_ok-names-in-Some-clause-rest
returns-in_ok-names-in-Some-clause-rest c =
    rest_then (lexemes_of c.args.tokens.now) (lexemes_of c.in_ok-vars.rest.now) (lexemes_of c.in_ok-span-in-Some.left.now) c.in_ok-vars.ensures.rest (rest_then (lexemes_of c.in_ok-vars.rest.now) (lexemes_of c.in-Some.rest.now) (lexemes_of c.in_ok-span-in-Some.left.now) c.in-Some.ensures.rest c.in_ok-span-in-Some.ensures.rest)
