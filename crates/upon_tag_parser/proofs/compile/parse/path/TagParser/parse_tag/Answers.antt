use Rattle.std.proofs.Common.{◌∙◌, List, [], ◌∷◌, ◌++◌, refl, sym, ap}
use Rattle.std.proofs.lemmas.Result.{err_from_is_err_and}
use Rattle.upon_compiler.specs.Program.{program_view}
use Rattle.upon_language_spec.specs.Cut.{Lexeme}
use Rattle.upon_language_spec.specs.Parts.{Part, a_base, filters, condition, end_block, block_word, else_rest, loop_name, as_word, include_name}
use Rattle.upon_tag_parser.specs.TagTokens.{lexemes_of}
use Rattle.upon_tag_parser.specs.Wants.{wanted_of}
use Rattle.upon_tag_parser.specs.TagParsing.{IsStuck}
use Rattle.upon_tag_parser.specs.Brackets.{place, place_of}
use Rattle.upon_tag_parser.proofs.TagTokens.{rest_then}
use Rattle.upon_tag_parser.proofs.Stuck.{stuck_same, handed_on, ok_map}
use Rattle.upon_tag_parser.proofs.Stops.{rest_on}
use Rattle.std.proofs.Common.{codes, append-nil}
use Rattle.upon_language_spec.specs.Tokens.{GoesKeyword}
use Rattle.upon_language_spec.proofs.Wanted.ExpressionsLead.{leads_key}
use Rattle.upon_tag_parser.specs.BlockTags.{opening_tag}
use Rattle.upon_types.specs.BlockKinds.{if_tag}
use Rattle.upon_tag_parser.specs.WholeTags.{TagRead, ClosingRead}
use Rattle.upon_tag_parser.proofs.Stuck.{stuck_then}
use Rattle.upon_tag_parser.proofs.Tags.{if_reads}
use Rattle.upon_tag_parser.proofs.compile.parse.path.TagParser.parse_tag.Goals as goal

pub returns-in_err-not-clause-stuck : goal.returns-in_err-not-clause-stuck
returns-in_err-not-clause-stuck c =
    handed_on c.from_residual.result c.in_err-not.field-0.0 (λ w left. (parts : List Part) → IsStuck c.args.self.now.source.now (condition ∷ parts) c.in-Some.rest.now w left) (IsStuck c.args.self.now.source.now (block_word ∷ []) c.args.tokens.now)
    (err_from_is_err_and c.from_residual.result c.from_residual.ensures.1)
    (λ w left h. stuck_then c.args.self.now.source.now (block_word ∷ []) (condition ∷ end_block ∷ []) (lexemes_of c.args.tokens.now) (lexemes_of c.in-Some.rest.now) (lexemes_of left) (wanted_of w) (leads_key c.args.self.now.source.now (codes "if") c.in-Some.ensures.word refl) (h (end_block ∷ [])))
    c.in_err-not.ensures.stuck

pub returns-in-Some-clause-tag : goal.returns-in-Some-clause-tag
returns-in-Some-clause-tag c =
    let x = c.in_ok-not.ensures.condition in
    let negated = c.in_ok-not.not in
    record {
      tree = opening_tag (if_tag negated) x.tree;
      reads = if_reads c.args.self.now.source.now negated x.tree (lexemes_of c.args.tokens.now) (lexemes_of c.in-Some.rest.now) (lexemes_of c.in_ok-not.left.now) (_, c.in-Some.ensures.word) x.reads;
      keeps = (x.tree, refl);
      code = x.code;
    }

pub returns-in-Some-clause-rest : goal.returns-in-Some-clause-rest
returns-in-Some-clause-rest c =
    rest_then (lexemes_of c.args.tokens.now) (lexemes_of c.in-Some.rest.now) (lexemes_of c.in_ok-not.left.now) c.in-Some.ensures.rest c.in_ok-not.ensures.rest

pub returns-in-Some-take_keyword-clause-tag : goal.returns-in-Some-take_keyword-clause-tag
returns-in-Some-take_keyword-clause-tag c =
    ok_map c.parse_else.result
    (λ r. (before : List Lexeme) → GoesKeyword c.args.self.now.source.now (codes "else") before (lexemes_of c.in-Some-take_keyword.rest.now) → TagRead c.args.self.now.source.now r.0 (place before c.args.code.now.items) (place_of r.1.now c.parse_else.new.code.items))
    (λ r. TagRead c.args.self.now.source.now r.0 (place_of c.args.tokens.now c.args.code.now.items) (place_of r.1.now c.parse_else.new.code.items))
    (λ r f. f (lexemes_of c.args.tokens.now) (_, c.in-Some-take_keyword.ensures.word))
    c.parse_else.ensures.tag

pub returns-in-Some-take_keyword-clause-rest : goal.returns-in-Some-take_keyword-clause-rest
returns-in-Some-take_keyword-clause-rest c =
    rest_on c.parse_else.result c.in-Some-take_keyword.rest.now c.args.tokens.now c.in-Some-take_keyword.ensures.rest c.parse_else.ensures.rest

pub returns-in-Some-take_keyword-clause-stuck : goal.returns-in-Some-take_keyword-clause-stuck
returns-in-Some-take_keyword-clause-stuck c =
    stuck_same c.parse_else.result (IsStuck c.args.self.now.source.now (else_rest ∷ []) c.in-Some-take_keyword.rest.now) (IsStuck c.args.self.now.source.now (block_word ∷ []) c.args.tokens.now)
    (λ w left. stuck_then c.args.self.now.source.now (block_word ∷ []) (else_rest ∷ []) (lexemes_of c.args.tokens.now) (lexemes_of c.in-Some-take_keyword.rest.now) (lexemes_of left) (wanted_of w) (leads_key c.args.self.now.source.now (codes "else") c.in-Some-take_keyword.ensures.word refl))
    c.parse_else.ensures.stuck

pub returns-in-Some-take_keyword-2-clause-tag : goal.returns-in-Some-take_keyword-2-clause-tag
returns-in-Some-take_keyword-2-clause-tag c =
    ok_map c.parse_for.result
    (λ r. (before : List Lexeme) → GoesKeyword c.args.self.now.source.now (codes "for") before (lexemes_of c.in-Some-take_keyword-2.rest.now) → TagRead c.args.self.now.source.now r.0 (place before c.args.code.now.items) (place_of r.1.now c.parse_for.new.code.items))
    (λ r. TagRead c.args.self.now.source.now r.0 (place_of c.args.tokens.now c.args.code.now.items) (place_of r.1.now c.parse_for.new.code.items))
    (λ r f. f (lexemes_of c.args.tokens.now) (_, c.in-Some-take_keyword-2.ensures.word))
    c.parse_for.ensures.tag

pub returns-in-Some-take_keyword-2-clause-rest : goal.returns-in-Some-take_keyword-2-clause-rest
returns-in-Some-take_keyword-2-clause-rest c =
    rest_on c.parse_for.result c.in-Some-take_keyword-2.rest.now c.args.tokens.now c.in-Some-take_keyword-2.ensures.rest c.parse_for.ensures.rest

pub returns-in-Some-take_keyword-2-clause-stuck : goal.returns-in-Some-take_keyword-2-clause-stuck
returns-in-Some-take_keyword-2-clause-stuck c =
    stuck_same c.parse_for.result (IsStuck c.args.self.now.source.now (loop_name ∷ end_block ∷ []) c.in-Some-take_keyword-2.rest.now) (IsStuck c.args.self.now.source.now (block_word ∷ []) c.args.tokens.now)
    (λ w left. stuck_then c.args.self.now.source.now (block_word ∷ []) (loop_name ∷ end_block ∷ []) (lexemes_of c.args.tokens.now) (lexemes_of c.in-Some-take_keyword-2.rest.now) (lexemes_of left) (wanted_of w) (leads_key c.args.self.now.source.now (codes "for") c.in-Some-take_keyword-2.ensures.word refl))
    c.parse_for.ensures.stuck

pub returns-in-Some-take_keyword-3-clause-tag : goal.returns-in-Some-take_keyword-3-clause-tag
returns-in-Some-take_keyword-3-clause-tag c =
    ok_map c.parse_with.result
    (λ r. (before : List Lexeme) → GoesKeyword c.args.self.now.source.now (codes "with") before (lexemes_of c.in-Some-take_keyword-3.rest.now) → TagRead c.args.self.now.source.now r.0 (place before c.args.code.now.items) (place_of r.1.now c.parse_with.new.code.items))
    (λ r. TagRead c.args.self.now.source.now r.0 (place_of c.args.tokens.now c.args.code.now.items) (place_of r.1.now c.parse_with.new.code.items))
    (λ r f. f (lexemes_of c.args.tokens.now) (_, c.in-Some-take_keyword-3.ensures.word))
    c.parse_with.ensures.tag

pub returns-in-Some-take_keyword-3-clause-rest : goal.returns-in-Some-take_keyword-3-clause-rest
returns-in-Some-take_keyword-3-clause-rest c =
    rest_on c.parse_with.result c.in-Some-take_keyword-3.rest.now c.args.tokens.now c.in-Some-take_keyword-3.ensures.rest c.parse_with.ensures.rest

pub returns-in-Some-take_keyword-3-clause-stuck : goal.returns-in-Some-take_keyword-3-clause-stuck
returns-in-Some-take_keyword-3-clause-stuck c =
    stuck_same c.parse_with.result (IsStuck c.args.self.now.source.now (a_base ∷ filters ∷ as_word ∷ end_block ∷ []) c.in-Some-take_keyword-3.rest.now) (IsStuck c.args.self.now.source.now (block_word ∷ []) c.args.tokens.now)
    (λ w left. stuck_then c.args.self.now.source.now (block_word ∷ []) (a_base ∷ filters ∷ as_word ∷ end_block ∷ []) (lexemes_of c.args.tokens.now) (lexemes_of c.in-Some-take_keyword-3.rest.now) (lexemes_of left) (wanted_of w) (leads_key c.args.self.now.source.now (codes "with") c.in-Some-take_keyword-3.ensures.word refl))
    c.parse_with.ensures.stuck

pub returns-in-Some-take_keyword-4-clause-tag : goal.returns-in-Some-take_keyword-4-clause-tag
returns-in-Some-take_keyword-4-clause-tag c =
    ok_map c.parse_include.result
    (λ r. (before : List Lexeme) → GoesKeyword c.args.self.now.source.now (codes "include") before (lexemes_of c.in-Some-take_keyword-4.rest.now) → TagRead c.args.self.now.source.now r.0 (place before c.args.code.now.items) (place_of r.1.now c.parse_include.new.code.items))
    (λ r. TagRead c.args.self.now.source.now r.0 (place_of c.args.tokens.now c.args.code.now.items) (place_of r.1.now c.parse_include.new.code.items))
    (λ r f. f (lexemes_of c.args.tokens.now) (_, c.in-Some-take_keyword-4.ensures.word))
    c.parse_include.ensures.tag

pub returns-in-Some-take_keyword-4-clause-rest : goal.returns-in-Some-take_keyword-4-clause-rest
returns-in-Some-take_keyword-4-clause-rest c =
    rest_on c.parse_include.result c.in-Some-take_keyword-4.rest.now c.args.tokens.now c.in-Some-take_keyword-4.ensures.rest c.parse_include.ensures.rest

pub returns-in-Some-take_keyword-4-clause-stuck : goal.returns-in-Some-take_keyword-4-clause-stuck
returns-in-Some-take_keyword-4-clause-stuck c =
    stuck_same c.parse_include.result (IsStuck c.args.self.now.source.now (include_name ∷ []) c.in-Some-take_keyword-4.rest.now) (IsStuck c.args.self.now.source.now (block_word ∷ []) c.args.tokens.now)
    (λ w left. stuck_then c.args.self.now.source.now (block_word ∷ []) (include_name ∷ []) (lexemes_of c.args.tokens.now) (lexemes_of c.in-Some-take_keyword-4.rest.now) (lexemes_of left) (wanted_of w) (leads_key c.args.self.now.source.now (codes "include") c.in-Some-take_keyword-4.ensures.word refl))
    c.parse_include.ensures.stuck

pub returns-clause-tag : goal.returns-clause-tag
returns-clause-tag c =
    ok_map c.parse_closing_tag.result
    (λ r. ClosingRead c.args.self.now.source.now r.0 (lexemes_of c.args.tokens.now) (lexemes_of r.1.now))
    (λ r. TagRead c.args.self.now.source.now r.0 (place_of c.args.tokens.now c.args.code.now.items) (place_of r.1.now c.args.code.now.items))
    (λ r h. record { tree = h.tree; reads = h.reads; keeps = h.keeps; code = sym (append-nil (program_view c.args.code.now.items)) ∙ ap (λ made. (program_view c.args.code.now.items) ++ made) (sym h.code) })
    c.parse_closing_tag.ensures.tag
