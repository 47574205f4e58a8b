-- Paths in a tag: what a first member and those after it read.
use Rattle.std.proofs.Common.{◌≡◌, inl, inr, ◌<◌, ℕ, List, [], ◌∷◌, map, drop, refl, sym, ap, subst, length}
use Rattle.upon_types.specs.declared.types.ast.path.AccessOp.TheVariants.{Direct}
use Rattle.upon_types.specs.declared.types.ast.path.Member.{Member as AstMember}
use Rattle.upon_types.specs.declared.types.ast.path.Var.{Var}
use Rattle.upon_types.specs.declared.types.token.Token.TheVariants.{Ident as Identifier, Dot, QuestionDot, OpenParen}
use Rattle.upon_types.specs.AstPath.{member_of, first_of, first_member, rest_members}
use Rattle.upon_types.specs.Path.{Ident, Member, by_key}
use Rattle.upon_types.specs.Expression.{var}
use Rattle.upon_language_spec.specs.Cut.{Lexeme}
use Rattle.upon_language_spec.specs.Tokens.{GoesName}
use Rattle.upon_language_spec.specs.Expressions.{IsMember, AreMembers}
use Rattle.upon_language_spec.specs.Parts.{after_name}
use Rattle.upon_language_spec.specs.PartTails.{No, member_tail, name_tail}
use Rattle.upon_language_spec.proofs.Wanted.ExpressionsLead.{leads_then, leads_nowhere, leads_token, step_leads, steps_leads, op_takes}
use Rattle.upon_tag_parser.specs.TagParsing.{ReadsBase, ReadsMembers}
use Rattle.upon_tag_parser.proofs.Stuck.{name_op}

-- the members of a path that begins with this one
pub first_is : (xs : List AstMember) (some : 0 < length xs) (first : AstMember) (members : List AstMember) → xs ≡ first ∷ members → member_of (first_of xs some) ≡ member_of first
first_is [] some first members e = absurd cc
first_is (x ∷ xs) some first members e = let h : x ≡ first = cc in ap member_of h

pub rest_is : (xs : List AstMember) (first : AstMember) (members : List AstMember) → xs ≡ first ∷ members → map member_of (drop 1 xs) ≡ map member_of members
rest_is xs first members e = ap (λ x. map member_of (drop 1 x)) e

-- a member, and then others
pub member_reads : (s : List ℕ) (first : Member) (members : List Member) (ts us vs : List Lexeme) → IsMember s first ts us → AreMembers s members us vs → No Dot vs → No QuestionDot vs → ReadsBase s (var first members) ts vs
member_reads s first members ts us vs g read dot question = record {
  reads = (us, inr g, read);
  tail = member_tail;
  leads = λ from parts takes. leads_then s (step_leads s parts first ts us g (op_takes from parts takes first.op)) (steps_leads s parts members us vs read);
  quiet = (dot, question);
}

-- a name, and then members
pub name_reads : (s : List ℕ) (name : Ident) (members : List Member) (ts us vs : List Lexeme) → GoesName s name ts us → AreMembers s members us vs → No Dot vs → No QuestionDot vs → No OpenParen us → ReadsBase s (var (record { op = Direct; access = by_key name; span = name.span }) members) ts vs
name_reads s name [] ts us vs g e dot question call = record {
  reads = (us, inl (name, g, refl), e);
  tail = name_tail;
  leads = λ from parts takes. leads_then s (leads_token s (name.span, g.0) (λ k. takes Identifier k)) (leads_nowhere s (after_name ∷ parts) us vs e);
  quiet = (dot, question, subst (λ x. No OpenParen x) e call);
}
name_reads s name (member ∷ members) ts us vs g (mid, read, others) dot question call = record {
  reads = (us, inl (name, g, refl), (mid, read, others));
  tail = member_tail;
  leads = λ from parts takes. leads_then s (leads_token s (name.span, g.0) (λ k. takes Identifier k)) (leads_then s (step_leads s parts member us mid read (name_op parts member.op)) (steps_leads s parts members mid vs others));
  quiet = (dot, question);
}

-- a path after a member
pub path_reads : (s : List ℕ) (first : Member) (v : Var) (ts us vs : List Lexeme) → IsMember s first ts us → ReadsMembers s first v us vs → ReadsBase s (var (first_member v) (rest_members v)) ts vs
path_reads s first v ts us vs g r = let F : Member → Type 0 = λ x. ReadsBase s (var x (rest_members v)) ts vs in subst F (sym r.starts) (member_reads s first (rest_members v) ts us vs g r.members r.no_dot r.no_question)

-- a path after a name
pub name_path_reads : (s : List ℕ) (name : Ident) (v : Var) (ts us vs : List Lexeme) → GoesName s name ts us → ReadsMembers s (record { op = Direct; access = by_key name; span = name.span }) v us vs → No OpenParen us → ReadsBase s (var (first_member v) (rest_members v)) ts vs
name_path_reads s name v ts us vs g r call = let F : Member → Type 0 = λ x. ReadsBase s (var x (rest_members v)) ts vs in subst F (sym r.starts) (name_reads s name (rest_members v) ts us vs g r.members r.no_dot r.no_question call)
