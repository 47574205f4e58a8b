-- What the names and the paths of the code denote.
use Rattle.std.specs.Prelude.{◌<◌, List, [], ◌∷◌, length, map, drop, string_bytes}
use Rattle.std.proofs.Math.Nat.{lt_irrefl}
use Rattle.upon_types.specs.Path.{Ident, Access, by_index, by_key, Member, LoopVars, item, key_value}
use Rattle.upon_types.specs.declared.types.ast.LoopVars.{LoopVars as AstLoopVars}
use Rattle.upon_types.specs.declared.types.ast.LoopVars.TheVariants.{Item, KeyValue as KeyValueVars}
use Rattle.upon_types.specs.declared.types.ast.expression.String.{String as Quoted}
use Rattle.upon_types.specs.declared.types.ast.path.Access.{Access as AstAccess}
use Rattle.upon_types.specs.declared.types.ast.path.Access.TheVariants.{Index, Key}
use Rattle.upon_types.specs.declared.types.ast.path.Ident.{Ident as AstIdent}
use Rattle.upon_types.specs.declared.types.ast.path.Member.{Member as AstMember}
use Rattle.upon_types.specs.declared.types.ast.path.Var.{Var}

-- a name
abbrev pub ident_of : AstIdent → Ident
ident_of ident = record { text = ident.name; span = ident.span }

-- a string: the text that it denotes
abbrev pub string_of : Quoted → Ident
string_of quoted = record { text = string_bytes quoted.value; span = quoted.span }

-- an index or a key
abbrev pub access_of : AstAccess → Access
access_of (Index index) = by_index index.value index.span
access_of (Key ident) = by_key (ident_of ident)

-- a member of a path
abbrev pub member_of : AstMember → Member
member_of member = record { op = member.op; access = access_of member.access; span = member.span }

-- the first of some members
abbrev pub first_of : (members : List AstMember) → 0 < length members → AstMember
first_of [] some = absurd (lt_irrefl 0 some)
first_of (member ∷ members) some = member

-- a path's first step, and the others
abbrev pub first_member : Var → Member
first_member var = member_of (first_of var.path.items var.not_empty)

-- all members of a path but the first
abbrev pub rest_members : Var → List Member
rest_members var = map member_of (drop 1 var.path.items)

-- a loop's names
abbrev pub loop_vars_of : AstLoopVars → LoopVars
loop_vars_of (Item ident) = item (ident_of ident)
loop_vars_of (KeyValueVars both) = key_value (ident_of both.key) (ident_of both.value) both.span
