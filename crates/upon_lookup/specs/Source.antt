-- Sources: functions with a state, which answer or refuse. The value source answers whole paths.
use Rattle.std.specs.Prelude.{ℕ, List, map, Bool, true, false}
use Rattle.upon_types.specs.declared.types.ast.path.AccessOp.{AccessOp}
use Rattle.upon_types.specs.declared.types.ast.path.AccessOp.TheVariants.{Direct, Optional}
use Rattle.upon_types.specs.Path.{Access, by_index, by_key, Member}
use Rattle.upon_types.specs.Val.{Val}
use Rattle.upon_lookup.specs.Finding.{Reply}

-- an answer, or a refusal with its text
pub data SourceAnswer (A : Type 0) : Type 0 where
  says : A → SourceAnswer A
  refuses : List ℕ → SourceAnswer A

-- what a source sees of a member: no spans
pub data ValueAccess : Type 0 where
  index : ℕ → ValueAccess
  key : List ℕ → ValueAccess

-- a member as a source sees it
pub record ValueMember : Type 0 where
  pub is_optional : Bool
  pub access : ValueAccess

-- what a value source answers to a path, and its next state
abbrev pub Source : Type 0 → Type 0
Source Q = Q → List ValueMember → Reply Q (SourceAnswer Val)

-- whether an operator is `?.`
abbrev pub is_optional_op : AccessOp → Bool
is_optional_op Direct = false
is_optional_op Optional = true

-- what a source sees of an access
abbrev pub value_access_of : Access → ValueAccess
value_access_of (by_index n span) = index n
value_access_of (by_key word) = key word.text

-- what a source sees of a member
abbrev pub value_member_of : Member → ValueMember
value_member_of member = record { is_optional = is_optional_op member.op; access = value_access_of member.access }

-- what a source sees of a path
abbrev pub value_members_of : List Member → List ValueMember
value_members_of members = map value_member_of members
