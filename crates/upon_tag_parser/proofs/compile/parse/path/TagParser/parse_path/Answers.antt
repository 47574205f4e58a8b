use Rattle.std.proofs.Common.{List, ◌∷◌}
use Rattle.upon_types.specs.declared.types.ast.path.AccessOp.TheVariants.{Direct}
use Rattle.upon_types.specs.declared.types.token.Token.TheVariants.{OpenParen}
use Rattle.upon_types.specs.AstPath.{ident_of, first_member, rest_members}
use Rattle.upon_types.specs.Path.{by_key}
use Rattle.upon_types.specs.Expression.{var}
use Rattle.upon_language_spec.specs.Cut.{Lexeme}
use Rattle.upon_language_spec.specs.Tokens.{GoesName}
use Rattle.upon_language_spec.specs.Parts.{Part, after_name}
use Rattle.upon_language_spec.specs.PartTails.{No, TakesOp}
use Rattle.upon_tag_parser.specs.TagTokens.{lexemes_of}
use Rattle.upon_tag_parser.specs.TagParsing.{IsStuck, ReadsBase, ReadsMembers}
use Rattle.upon_tag_parser.proofs.Stuck.{ok_map, stuck_same, name_op}
use Rattle.upon_tag_parser.proofs.Paths.{name_path_reads}
use Rattle.upon_tag_parser.proofs.compile.parse.path.TagParser.parse_path.Goals as goal

pub returns-clause-stuck : goal.returns-clause-stuck
returns-clause-stuck c =
    let s = c.args.self.now.source.now in
    stuck_same c.parse_members.result (λ w left. (from parts : List Part) → TakesOp from parts → IsStuck s from c.args.tokens.now w left) (λ w left. (parts : List Part) → IsStuck s (after_name ∷ parts) c.args.tokens.now w left)
    (λ w left h parts. h (after_name ∷ parts) parts (name_op parts)) c.parse_members.ensures.stuck

pub returns-clause-path : goal.returns-clause-path
returns-clause-path c =
    let s = c.args.self.now.source.now in
    let name = ident_of c.args.name in
    let us = lexemes_of c.args.tokens.now in
    ok_map c.parse_members.result (λ r. ReadsMembers s (record { op = Direct; access = by_key name; span = name.span }) r.0 us (lexemes_of r.1.now))
    (λ r. (before : List Lexeme) → GoesName s name before us → No OpenParen us → ReadsBase s (var (first_member r.0) (rest_members r.0)) before (lexemes_of r.1.now))
    (λ r h before g call. name_path_reads s name r.0 before us (lexemes_of r.1.now) g h call) c.parse_members.ensures.members
