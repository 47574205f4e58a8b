-- The written grammar of expressions: which tokens a tree is read from, and which are left.
use Rattle.std.specs.Prelude.{◌≡◌, ◌⊎◌, ℕ, ℤ, List, [], ◌∷◌, Bool, true, false, codes}
use Rattle.upon_types.specs.declared.types.Span.{Span}
use Rattle.upon_types.specs.declared.types.token.Token.{Token}
use Rattle.upon_types.specs.declared.types.token.Token.TheVariants.{OpenBracket, CloseBracket, OpenBrace, CloseBrace, OpenParen, CloseParen, Dot, QuestionDot, Pipe, Comma, Colon, Plus, Minus, Index, Number}
use Rattle.upon_types.specs.declared.types.ast.path.AccessOp.{AccessOp}
use Rattle.upon_types.specs.declared.types.ast.path.AccessOp.TheVariants.{Direct, Optional}
use Rattle.upon_types.specs.Span.{slice}
use Rattle.upon_types.specs.Val.{Val, none_val, bool_val, int_val, text_val, list_val, map_val}
use Rattle.upon_types.specs.Path.{Ident, Access, by_index, by_key, Member, access_span}
use Rattle.upon_types.specs.Expression.{Expression, base, filtered, Base, var, literal, list, mapping, paren, call, Bases, no_bases, base_then, Items, no_items, item_then, Arguments, no_arguments, arguments, base_span, expression_span}
use Rattle.upon_language_spec.specs.Cut.{Lexeme}
use Rattle.upon_language_spec.specs.Literal.{IsInteger, IsIndex}
use Rattle.upon_language_spec.specs.Tokens.{Goes, GoesBy, GoesWord, GoesName, GoesText, from_to}

-- the token of an operator
abbrev pub op_token : AccessOp → Token
op_token Direct = Dot
op_token Optional = QuestionDot

-- the token of a sign: minus, or plus
abbrev pub sign_token : Bool → Token
sign_token true = Minus
sign_token false = Plus

-- Access = Ident | Index
abbrev pub IsAccess : List ℕ → Access → List Lexeme → List Lexeme → Type 0
IsAccess s (by_index i span) before rest = Goes Index span before rest × IsIndex (slice s span) i
IsAccess s (by_key name) before rest = GoesName s name before rest

-- Op Access: it is from its operator to its name or index
abbrev pub IsMember : List ℕ → Member → List Lexeme → List Lexeme → Type 0
IsMember s member before rest = (op : Span) × (mid : List Lexeme) × Goes (op_token member.op) op before mid
    × IsAccess s member.access mid rest × (member.span ≡ from_to op (access_span member.access))

-- a bare first name has the operator `.`, and is where the name is
abbrev pub IsBareName : List ℕ → Member → List Lexeme → List Lexeme → Type 0
IsBareName s member before rest = (name : Ident) × GoesName s name before rest ×
    (member ≡ record { op = Direct; access = by_key name; span = name.span })

-- (Op Access)*
abbrev pub AreMembers : List ℕ → List Member → List Lexeme → List Lexeme → Type 0
AreMembers s [] before rest = before ≡ rest
AreMembers s (member ∷ members) before rest = (mid : List Lexeme) × IsMember s member before mid
    × AreMembers s members mid rest

-- ["+" or "-"] Number: the sign counts
abbrev pub IsUnsigned : List ℕ → ℤ → Span → List Lexeme → List Lexeme → Type 0
IsUnsigned s z span before rest = Goes Number span before rest × IsInteger false (slice s span) z

-- a sign and a number, which may have whitespace between them
abbrev pub IsSigned : List ℕ → ℤ → Span → List Lexeme → List Lexeme → Type 0
IsSigned s z span before rest = (minus : Bool) × (sign number : Span) × (mid : List Lexeme) × Goes
    (sign_token minus) sign before mid × Goes Number number mid rest × (span ≡ from_to sign number) × IsInteger minus
    (slice s number) z

-- "true" | "false" | ["+" or "-"] Number | String
abbrev pub IsLiteral : List ℕ → Val → Span → List Lexeme → List Lexeme → Type 0
IsLiteral s (bool_val true) span before rest = GoesWord s (codes "true") span before rest
IsLiteral s (bool_val false) span before rest = GoesWord s (codes "false") span before rest
IsLiteral s (int_val z) span before rest = IsUnsigned s z span before rest ⊎ IsSigned s z span before rest
IsLiteral s (text_val t) span before rest = GoesText s (record { text = t; span = span }) before rest
IsLiteral s none_val span before rest = ⊥
IsLiteral s (list_val vs) span before rest = ⊥
IsLiteral s (map_val es) span before rest = ⊥

-- the opening token begins where the span does
abbrev pub Opens : Token → Span → List Lexeme → List Lexeme → Type 0
Opens t span before rest = (opening : Span) × Goes t opening before rest × (opening.m ≡ span.m)

-- the closing token ends where the span does
abbrev pub Closes : Token → Span → List Lexeme → List Lexeme → Type 0
Closes t span before rest = (closing : Span) × Goes t closing before rest × (closing.n ≡ span.n)

-- the closing token, or a comma and the closing token
abbrev pub ClosesList : Token → Span → List Lexeme → List Lexeme → Type 0
ClosesList t span before rest = Closes t span before rest ⊎
    ((mid : List Lexeme) × GoesBy Comma before mid × Closes t span mid rest)

-- where the last of the expressions ends; the offset itself if there is none
abbrev pub last_end : ℕ → Bases → ℕ
last_end n no_bases = n
last_end n (base_then b bs) = last_end (base_span b).n bs

-- where a filter ends: with its name or with its last argument
abbrev pub filter_end : Ident → Arguments → ℕ
filter_end name no_arguments = name.span.n
filter_end name (arguments bases span) = span.n

abbrev mutual
  -- Base = .. | Path | Call | List | Map | "(" Expr ")"
  pub IsBase : List ℕ → Base → List Lexeme → List Lexeme → Type 0
  IsBase s (var first others) before rest = (mid : List Lexeme) ×
      (IsBareName s first before mid ⊎ IsMember s first before mid) × AreMembers s others mid rest
  IsBase s (literal v span) before rest = IsLiteral s v span before rest
  IsBase s (list bases span) before rest = (mid : List Lexeme) × Opens OpenBracket span before mid
      × IsListBody s bases span mid rest
  IsBase s (mapping items span) before rest = (mid : List Lexeme) × Opens OpenBrace span before mid
      × IsMapBody s items span mid rest
  IsBase s (paren e span) before rest = (mid after : List Lexeme) × Opens OpenParen span before mid
      × IsExpression s e mid after × Closes CloseParen span after rest
  IsBase s (call name args span) before rest = (mid after : List Lexeme) × GoesName s name before mid ×
      (name.span.m ≡ span.m) × GoesBy OpenParen mid after × IsCallBody s args span after rest

  -- [Base ("," Base)* [","]] "]"
  pub IsListBody : List ℕ → Bases → Span → List Lexeme → List Lexeme → Type 0
  IsListBody s no_bases span before rest = Closes CloseBracket span before rest
  IsListBody s (base_then b bs) span before rest = (mid : List Lexeme) × IsBase s b before mid
      × IsListTail s bs span mid rest

  -- what follows a value of a list
  pub IsListTail : List ℕ → Bases → Span → List Lexeme → List Lexeme → Type 0
  IsListTail s no_bases span before rest = ClosesList CloseBracket span before rest
  IsListTail s (base_then b bs) span before rest = (mid after : List Lexeme) × GoesBy Comma before mid
      × IsBase s b mid after × IsListTail s bs span after rest

  -- [String ":" Base ("," String ":" Base)* [","]] "}"
  pub IsMapBody : List ℕ → Items → Span → List Lexeme → List Lexeme → Type 0
  IsMapBody s no_items span before rest = Closes CloseBrace span before rest
  IsMapBody s (item_then key b items) span before rest = (mid after : List Lexeme) × GoesText s key before mid
      × GoesBy Colon mid after × ((next : List Lexeme) × IsBase s b after next × IsMapTail s items span next rest)

  -- what follows an entry of a map
  pub IsMapTail : List ℕ → Items → Span → List Lexeme → List Lexeme → Type 0
  IsMapTail s no_items span before rest = ClosesList CloseBrace span before rest
  IsMapTail s (item_then key b items) span before rest = (start mid after : List Lexeme) × GoesBy Comma before start
      × GoesText s key start mid × GoesBy Colon mid after ×
      ((next : List Lexeme) × IsBase s b after next × IsMapTail s items span next rest)

  -- [Args] ")": the arguments are from the call's name to the last of them
  pub IsCallBody : List ℕ → Arguments → Span → List Lexeme → List Lexeme → Type 0
  IsCallBody s no_arguments span before rest = Closes CloseParen span before rest
  IsCallBody s (arguments bases at) span before rest = (mid : List Lexeme) × IsArgs s bases before mid ×
      (at ≡ record { m = span.m; n = last_end 0 bases }) × Closes CloseParen span mid rest

  -- Args = Base ("," Base)*
  pub IsArgs : List ℕ → Bases → List Lexeme → List Lexeme → Type 0
  IsArgs s no_bases before rest = ⊥
  IsArgs s (base_then b bs) before rest = (mid : List Lexeme) × IsBase s b before mid × IsMoreArgs s bs mid rest

  -- ("," Base)*
  pub IsMoreArgs : List ℕ → Bases → List Lexeme → List Lexeme → Type 0
  IsMoreArgs s no_bases before rest = before ≡ rest
  IsMoreArgs s (base_then b bs) before rest = (mid after : List Lexeme) × GoesBy Comma before mid
      × IsBase s b mid after × IsMoreArgs s bs after rest

  -- Expr = Base ("|" Ident [":" Args])*: a filter is from what it receives, parentheses kept, to its name or its last
  -- argument
  pub IsExpression : List ℕ → Expression → List Lexeme → List Lexeme → Type 0
  IsExpression s (base b) before rest = IsBase s b before rest
  IsExpression s (filtered e name args span) before rest = (mid start after : List Lexeme)
      × IsExpression s e before mid × GoesBy Pipe mid start × GoesName s name start after
      × IsFilterArgs s args after rest × (span ≡ record { m = (expression_span e).m; n = filter_end name args })

  -- [":" Args]: the arguments are from the colon to the last of them
  pub IsFilterArgs : List ℕ → Arguments → List Lexeme → List Lexeme → Type 0
  IsFilterArgs s no_arguments before rest = before ≡ rest
  IsFilterArgs s (arguments bases at) before rest = (colon : Span) × (mid : List Lexeme)
      × Goes Colon colon before mid × IsArgs s bases mid rest × (at ≡ record { m = colon.m; n = last_end 0 bases })
