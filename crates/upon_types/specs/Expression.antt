-- The expressions of a template as mathematics sees them. Each span occurs in them.
use Rattle.std.specs.Prelude.{List}
use Rattle.upon_types.specs.Path.{Ident, Member, path_span}
use Rattle.upon_types.specs.Val.{Val}
use Rattle.upon_types.specs.declared.types.Span.{Span}

mutual
  -- an expression without a filter, or a filter with what is before it, its name and its arguments
  pub data Expression : Type 0 where
    base : Base → Expression
    filtered : Expression → Ident → Arguments → Span → Expression
    deriving IsSet as Expression-set

  -- an expression without a filter
  pub data Base : Type 0 where
    var : Member → List Member → Base
    literal : Val → Span → Base
    list : Bases → Span → Base
    mapping : Items → Span → Base
    paren : Expression → Span → Base
    call : Ident → Arguments → Span → Base
    deriving IsSet as Base-set

  -- expressions one after the other
  pub data Bases : Type 0 where
    no_bases : Bases
    base_then : Base → Bases → Bases
    deriving IsSet as Bases-set

  -- keys and expressions
  pub data Items : Type 0 where
    no_items : Items
    item_then : Ident → Base → Items → Items
    deriving IsSet as Items-set

  -- the arguments of a call or a filter, with their span, if there are some
  pub data Arguments : Type 0 where
    no_arguments : Arguments
    arguments : Bases → Span → Arguments
    deriving IsSet as Arguments-set

-- where an expression is
abbrev pub base_span : Base → Span
base_span (var first rest) = path_span first rest
base_span (literal v span) = span
base_span (list bases span) = span
base_span (mapping items span) = span
base_span (paren e span) = span
base_span (call name args span) = span

-- where an expression with filters is
abbrev pub expression_span : Expression → Span
expression_span (base b) = base_span b
expression_span (filtered e name args span) = span
