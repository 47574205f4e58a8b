-- Names in a template, and the steps of a path, as mathematics sees them.
use Rattle.std.specs.Prelude.{ℕ, List, [], ◌∷◌}
use Rattle.upon_types.specs.Span.{combine}
use Rattle.upon_types.specs.declared.types.Span.{Span}
use Rattle.upon_types.specs.declared.types.ast.path.AccessOp.{AccessOp}

-- a name or a text in quotes, and where it is
pub record Ident : Type 0 where
  pub text : List ℕ
  pub span : Span

-- what picks a value out of another
pub data Access : Type 0 where
  by_index : ℕ → Span → Access
  by_key : Ident → Access
  deriving IsSet as Access-set

-- a step of a path, and where it is, with its operator
pub record Member : Type 0 where
  pub op : AccessOp
  pub access : Access
  pub span : Span

-- the names that a loop gives: one for each item, or one for each key and one for its value
pub data LoopVars : Type 0 where
  item : Ident → LoopVars
  key_value : Ident → Ident → Span → LoopVars
  deriving IsSet as LoopVars-set

-- where an index or a key is
abbrev pub access_span : Access → Span
access_span (by_index n span) = span
access_span (by_key word) = word.span

-- the last step of a path of a first step and others
abbrev pub last_member : Member → List Member → Member
last_member first [] = first
last_member first (member ∷ members) = last_member member members

-- where a path is
abbrev pub path_span : Member → List Member → Span
path_span first rest = combine first.span (last_member first rest).span
