-- What the kinds of delimiters have in common: the token that each is, and whether it has the hyphen.
use Rattle.std.specs.Prelude.{Bool, true, false, Option, Some, None}
use Rattle.upon_types.specs.declared.types.Delimiter.{Delimiter}
use Rattle.upon_types.specs.declared.types.Delimiter.TheVariants.{BeginExpr, EndExpr, BeginExprTrim, EndExprTrim, BeginBlock, EndBlock, BeginBlockTrim, EndBlockTrim, BeginComment, EndComment, BeginCommentTrim, EndCommentTrim}
use Rattle.upon_types.specs.declared.types.token.Token.{Token}
use Rattle.upon_types.specs.declared.types.token.Token.TheVariants as token

-- what a delimiter opens or closes
pub data Sort : Type 0 where
  expression : Sort
  block : Sort
  comment : Sort
  deriving IsSet as Sort-set

-- the sort that a delimiter begins
abbrev pub begin_sort : Delimiter → Option Sort
begin_sort BeginExpr = Some expression
begin_sort BeginExprTrim = Some expression
begin_sort BeginBlock = Some block
begin_sort BeginBlockTrim = Some block
begin_sort BeginComment = Some comment
begin_sort BeginCommentTrim = Some comment
begin_sort EndExpr = None
begin_sort EndExprTrim = None
begin_sort EndBlock = None
begin_sort EndBlockTrim = None
begin_sort EndComment = None
begin_sort EndCommentTrim = None

-- the sort that a delimiter ends
abbrev pub end_sort : Delimiter → Option Sort
end_sort BeginExpr = None
end_sort BeginExprTrim = None
end_sort BeginBlock = None
end_sort BeginBlockTrim = None
end_sort BeginComment = None
end_sort BeginCommentTrim = None
end_sort EndExpr = Some expression
end_sort EndExprTrim = Some expression
end_sort EndBlock = Some block
end_sort EndBlockTrim = Some block
end_sort EndComment = Some comment
end_sort EndCommentTrim = Some comment

-- whether it trims the raw part beside it
abbrev pub has_hyphen : Delimiter → Bool
has_hyphen BeginExpr = false
has_hyphen BeginExprTrim = true
has_hyphen BeginBlock = false
has_hyphen BeginBlockTrim = true
has_hyphen BeginComment = false
has_hyphen BeginCommentTrim = true
has_hyphen EndExpr = false
has_hyphen EndExprTrim = true
has_hyphen EndBlock = false
has_hyphen EndBlockTrim = true
has_hyphen EndComment = false
has_hyphen EndCommentTrim = true

-- the token of a begin
abbrev pub begin_token : Sort → Token
begin_token expression = token.BeginExpr
begin_token block = token.BeginBlock
begin_token comment = token.BeginComment

-- the token of an end
abbrev pub end_token : Sort → Token
end_token expression = token.EndExpr
end_token block = token.EndBlock
end_token comment = token.EndComment
