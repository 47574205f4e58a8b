use Rattle.std.proofs.Common.{List, ◌∷◌}
use Rattle.upon_types.specs.AstPath.{access_of, member_of, first_member, rest_members}
use Rattle.upon_types.specs.Expression.{var}
use Rattle.upon_language_spec.specs.Cut.{Lexeme}
use Rattle.upon_language_spec.specs.Tokens.{Goes}
use Rattle.upon_language_spec.specs.Expressions.{op_token}
use Rattle.upon_language_spec.specs.Parts.{Part, a_member, after_member}
use Rattle.upon_language_spec.specs.PartTails.{TakesOp}
use Rattle.upon_language_spec.proofs.Wanted.ExpressionsLead.{access_leads}
use Rattle.upon_tag_parser.specs.TagTokens.{lexemes_of, IsRest}
use Rattle.upon_tag_parser.specs.Wants.{wanted_of}
use Rattle.upon_tag_parser.specs.TagParsing.{IsStuck, ReadsBase, ReadsMembers}
use Rattle.upon_tag_parser.proofs.TagTokens.{rest_then, tokens_rest}
use Rattle.upon_tag_parser.proofs.Stuck.{ok_map, stuck_same, stuck_then, member_op}
use Rattle.upon_tag_parser.proofs.Paths.{path_reads}
use Rattle.upon_tag_parser.proofs.compile.parse.path.TagParser.parse_path_from.Goals as goal

pub parse_members-requires : goal.parse_members-requires
parse_members-requires c = record { tokens = tokens_rest c.args.self.now.source.now c.args.tokens.now c.in_ok-first.rest.now c.requires.tokens c.in_ok-first.ensures.rest }

pub returns-clause-rest : goal.returns-clause-rest
returns-clause-rest c = ok_map c.parse_members.result (λ r. IsRest r.1.now c.in_ok-first.rest.now) (λ r. IsRest r.1.now c.args.tokens.now) (λ r. rest_then (lexemes_of c.args.tokens.now) (lexemes_of c.in_ok-first.rest.now) (lexemes_of r.1.now) c.in_ok-first.ensures.rest) c.parse_members.ensures.rest

pub returns-clause-stuck : goal.returns-clause-stuck
returns-clause-stuck c =
    let s = c.args.self.now.source.now in
    let ts = lexemes_of c.args.tokens.now in
    let us = lexemes_of c.in_ok-first.rest.now in
    stuck_same c.parse_members.result (λ w left. (from parts : List Part) → TakesOp from parts → IsStuck s from c.in_ok-first.rest.now w left) (λ w left. (parts : List Part) → IsStuck s (a_member ∷ parts) c.args.tokens.now w left)
    (λ w left h parts. stuck_then s (a_member ∷ parts) (after_member ∷ parts) ts us (lexemes_of left) (wanted_of w) (access_leads s parts (access_of c.in_ok-first.first.access) ts us c.in_ok-first.ensures.access) (h (after_member ∷ parts) parts (member_op parts)))
    c.parse_members.ensures.stuck

pub returns-clause-path : goal.returns-clause-path
returns-clause-path c =
    let s = c.args.self.now.source.now in
    let us = lexemes_of c.in_ok-first.rest.now in
    ok_map c.parse_members.result (λ r. ReadsMembers s (member_of c.in_ok-first.first) r.0 us (lexemes_of r.1.now))
    (λ r. (before : List Lexeme) → Goes (op_token c.args.op) c.args.at before (lexemes_of c.args.tokens.now) → ReadsBase s (var (first_member r.0) (rest_members r.0)) before (lexemes_of r.1.now))
    (λ r h before g. path_reads s (member_of c.in_ok-first.first) r.0 before us (lexemes_of r.1.now) (c.in_ok-first.ensures.member before g) h) c.parse_members.ensures.members
