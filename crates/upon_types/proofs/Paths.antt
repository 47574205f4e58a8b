-- The members of a path, as the steps that they denote.
use Rattle.std.proofs.Common.{◌≡◌, ◌<◌, ◌-◌, List, [], ◌∷◌, length, map, drop, get_or, refl, sym, ap, ◌∙◌, arith}
use Rattle.std.proofs.Math.Nat.{lt_irrefl}
use Rattle.upon_types.specs.AstPath.{member_of, first_of, first_member, rest_members}
use Rattle.upon_types.specs.Path.{last_member}
use Rattle.upon_types.specs.declared.types.ast.path.Member.{Member}
use Rattle.upon_types.specs.declared.types.ast.path.Var.{Var}

last_step-map : (first : Member) (rest : List Member) (d : Member) → last_member (member_of first) (map member_of rest) ≡ member_of (get_or (first ∷ rest) (length rest) d)
last_step-map first [] d = refl
last_step-map first (member ∷ rest) d = last_step-map member rest d

pub last_step-members : (members : List Member) (some : 0 < length members) (last : Member) → last ≡ get_or members (length members - 1) last
    → member_of last ≡ last_member (member_of (first_of members some)) (map member_of (drop 1 members))
last_step-members [] some last is = absurd (lt_irrefl 0 some)
last_step-members (first ∷ rest) some last is =
    let even : length (first ∷ rest) - 1 ≡ length rest = omega arith in
    ap member_of (is ∙ ap (λ n. get_or (first ∷ rest) n last) even) ∙ sym (last_step-map first rest last)

-- ---- where the members of a path are known
first_of_members-cons : (members : List Member) (some : 0 < length members) (first : Member) (rest : List Member) → members ≡ first ∷ rest → first_of members some ≡ first
first_of_members-cons [] some first rest is = absurd (lt_irrefl 0 some)
first_of_members-cons (member ∷ members) some first rest is = cc

pub first_step-cons : (path : Var) (first : Member) (rest : List Member) → path.path.items ≡ first ∷ rest → first_member path ≡ member_of first
first_step-cons path first rest is = ap member_of (first_of_members-cons path.path.items path.not_empty first rest is)

pub rest_steps-cons : (path : Var) (first : Member) (rest : List Member) → path.path.items ≡ first ∷ rest → rest_members path ≡ map member_of rest
rest_steps-cons path first rest is = rw is refl
