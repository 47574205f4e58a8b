-- The tree of a template as mathematics sees it: its statements. Each span occurs in it.
use Rattle.std.specs.Prelude.{Bool, Option}
use Rattle.upon_types.specs.BlockKinds.{Opening, if_tag, for_tag, with_tag}
use Rattle.upon_types.specs.Expression.{Expression}
use Rattle.upon_types.specs.Path.{Ident, LoopVars}
use Rattle.upon_types.specs.declared.types.Span.{Span}

mutual
  -- a raw part, an expression in a tag, an include, and a block
  pub data Statement : Type 0 where
    raw : Span → Statement
    inline_expr : Expression → Span → Statement
    include : Ident → Option Expression → Statement
    block : Opening → Expression → Statements → Else → Statement
    deriving IsSet as Statement-set

  -- statements one after the other
  pub data Statements : Type 0 where
    no_statements : Statements
    statement_then : Statement → Statements → Statements
    deriving IsSet as Statements-set

  -- the statements of a block's other branch, if they are given; they count if the block may have one
  pub data Else : Type 0 where
    no_else : Else
    otherwise : Statements → Else
    deriving IsSet as Else-set

-- an `if`
abbrev pub if_else : Bool → Expression → Statements → Else → Statement
if_else negated e body other = block (if_tag negated) e body other

-- a `for`
abbrev pub for_loop : LoopVars → Expression → Statements → Else → Statement
for_loop names e body other = block (for_tag names) e body other

-- a `with`, which has no other branch
abbrev pub with : Expression → Ident → Statements → Statement
with e word body = block (with_tag word) e body no_else
