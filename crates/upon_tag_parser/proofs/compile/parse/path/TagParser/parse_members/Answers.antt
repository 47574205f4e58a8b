use Rattle.std.proofs.Common.{◌≡◌, List, [], ◌∷◌, ◌++◌, length, map, refl, sym, ap, ◌∙◌, subst, arith}
use Rattle.std.proofs.lemmas.Result.{err_from_is_err_and}
use Rattle.std.proofs.lemmas.List.{map-append}
use Rattle.upon_types.specs.declared.types.ast.path.Member.{Member}
use Rattle.upon_types.specs.AstPath.{member_of}
use Rattle.upon_language_spec.specs.Expressions.{AreMembers}
use Rattle.upon_language_spec.specs.Parts.{Part, a_member}
use Rattle.upon_language_spec.specs.PartTails.{TakesOp}
use Rattle.upon_tag_parser.specs.TagTokens.{lexemes_of}
use Rattle.upon_tag_parser.specs.Wants.{wanted_of}
use Rattle.upon_tag_parser.specs.TagParsing.{IsStuck}
use Rattle.upon_tag_parser.proofs.TagTokens.{rest_then, rest_all, tokens_rest}
use Rattle.upon_tag_parser.proofs.Stuck.{handed_on, member_stuck, members_more}
use Rattle.upon_tag_parser.proofs.Paths.{first_is, rest_is}
use Rattle.upon_types.specs.Path.{Member as PathMember}
use Rattle.upon_tag_parser.proofs.compile.parse.path.TagParser.parse_members.Goals as goal

pub members-init : goal.members-init
members-init c = record {
  read = ([], c.in_ok-push.ensures.items ∙ ap (λ (x : List Member). x ++ c.args.first ∷ []) c.in_ok-path.ensures.items, refl);
  rest = rest_all (lexemes_of c.args.tokens.now);
  shorter = omega arith;
}

pub invariant_of-result : goal.invariant_of-result
invariant_of-result c = let e : length c.members.path.items ≡ length (c.args.first ∷ c.members.invariant.read.0) = ap length c.members.invariant.read.1 in record { not_empty = omega (arith, e) }

pub returns-in-None-clause-members : goal.returns-in-None-clause-members
returns-in-None-clause-members c =
    let F : List PathMember → Type 0 = λ x. AreMembers c.args.self.now.source.now x (lexemes_of c.args.tokens.now) (lexemes_of c.members.left.now) in
    record {
      starts = first_is c.members.path.items _ c.args.first c.members.invariant.read.0 c.members.invariant.read.1;
      members = subst F (sym (rest_is c.members.path.items c.args.first c.members.invariant.read.0 c.members.invariant.read.1)) c.members.invariant.read.2;
      no_dot = c.in-None.ensures.op.0;
      no_question = c.in-None.ensures.op.1;
    }

pub returns-in-None-clause-shorter : goal.returns-in-None-clause-shorter
returns-in-None-clause-shorter c = c.members.invariant.shorter

pub returns-in-None-clause-rest : goal.returns-in-None-clause-rest
returns-in-None-clause-rest c = c.members.invariant.rest

pub returns-in_err-member-in-Some-clause-stuck : goal.returns-in_err-member-in-Some-clause-stuck
returns-in_err-member-in-Some-clause-stuck c =
    let s = c.args.self.now.source.now in
    handed_on c.from_residual-in_err-member-in-Some.result c.in_err-member-in-Some.field-0.0 (λ w left. (parts : List Part) → IsStuck s (a_member ∷ parts) c.in-Some.rest.now w left) (λ w left. (from parts : List Part) → TakesOp from parts → IsStuck s from c.args.tokens.now w left)
    (err_from_is_err_and c.from_residual-in_err-member-in-Some.result c.from_residual-in_err-member-in-Some.ensures.1)
    (λ w left. member_stuck s (map member_of c.members.invariant.read.0) c.in-Some.op c.in-Some.at (lexemes_of c.args.tokens.now) (lexemes_of c.members.left.now) (lexemes_of c.in-Some.rest.now) (lexemes_of left) (wanted_of w) c.members.invariant.read.2 c.in-Some.ensures.op)
    c.in_err-member-in-Some.ensures.stuck

pub parse_member-requires : goal.parse_member-requires
parse_member-requires c = record { tokens = tokens_rest c.args.self.now.source.now c.args.tokens.now c.in-Some.rest.now c.requires.tokens (rest_then (lexemes_of c.args.tokens.now) (lexemes_of c.members.left.now) (lexemes_of c.in-Some.rest.now) c.members.invariant.rest c.in-Some.ensures.rest) }

pub members-preserved : goal.members-preserved
members-preserved c =
    let s = c.args.self.now.source.now in
    let members = c.members.invariant.read.0 in
    let member = c.in_ok-member-in-Some.member in
    let all = lexemes_of c.args.tokens.now in
    let now = lexemes_of c.members.left.now in
    let mid = lexemes_of c.in-Some.rest.now in
    let next = lexemes_of c.in_ok-member-in-Some.rest.now in
    record {
      read = (
        members ++ member ∷ [],
        c.in_ok-push-in-Some.ensures.items ∙ ap (λ (x : List Member). x ++ member ∷ []) c.members.invariant.read.1,
        subst (λ x. AreMembers s x all next) (sym (map-append member_of members (member ∷ [])))
            (members_more s (map member_of members) (member_of member) all now next c.members.invariant.read.2 (c.in_ok-member-in-Some.ensures.member now c.in-Some.ensures.op)),
      );
      rest = rest_then all now next c.members.invariant.rest (rest_then now mid next c.in-Some.ensures.rest c.in_ok-member-in-Some.ensures.rest);
      shorter = let a = c.in-Some.ensures.shorter in let b = c.in_ok-member-in-Some.ensures.shorter in omega (arith, a, b, c.members.invariant.shorter);
    }

pub members-smaller : goal.members-smaller
members-smaller c = let a = c.in-Some.ensures.shorter in let b = c.in_ok-member-in-Some.ensures.shorter in omega (arith, a, b)
