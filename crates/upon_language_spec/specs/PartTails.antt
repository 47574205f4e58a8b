-- What may still go on with a Base, and where a Base may begin.
use Rattle.std.specs.Prelude.{◌≡◌, List, [], ◌∷◌, ◌++◌, Option, Some, None}
use Rattle.upon_types.specs.declared.types.Span.{Span}
use Rattle.upon_types.specs.declared.types.token.Token.{Token}
use Rattle.upon_types.specs.declared.types.token.Token.TheVariants.{OpenParen, Dot, QuestionDot}
use Rattle.upon_language_spec.specs.Cut.{Lexeme}
use Rattle.upon_types.specs.declared.types.ast.path.AccessOp.{AccessOp}
use Rattle.upon_language_spec.specs.Tokens.{Goes}
use Rattle.upon_language_spec.specs.Expressions.{op_token}
use Rattle.upon_language_spec.specs.Keys.{Key}
use Rattle.upon_language_spec.specs.Parts.{Part, a_member, after_member, after_name, base_goes, after}

-- no token of this kind comes first
abbrev pub No : Token → List Lexeme → Type 0
No t ts = (span : Span) (rest : List Lexeme) → Goes t span ts rest → ⊥

-- nothing may go on with a Base, or further members, or these and arguments
pub data Tail : Type 0 where
  no_tail : Tail
  member_tail : Tail
  name_tail : Tail

-- the parts that are to come for it
abbrev pub tail_parts : Tail → List Part
tail_parts no_tail = []
tail_parts member_tail = after_member ∷ []
tail_parts name_tail = after_name ∷ []

-- what comes does not go on with it
abbrev pub Quiet : Tail → List Lexeme → Type 0
Quiet no_tail ts = Unit {0}
Quiet member_tail ts = No Dot ts × No QuestionDot ts
Quiet name_tail ts = No Dot ts × No QuestionDot ts × No OpenParen ts

-- where a Base may begin, and what is to come after it
abbrev pub Begun : Option (List Part) → Option (List Part) → List Part → Type 0
Begun None got others = Unit {0}
Begun (Some first) got others = got ≡ Some (first ++ others)

-- where a Base may begin, whatever token begins it
abbrev pub TakesBase : List Part → List Part → Type 0
TakesBase ps others = (t : Token) (k : Key) → Begun (base_goes t k []) (after ps t k) others

-- where an operator of a member may be
abbrev pub TakesOp : List Part → List Part → Type 0
TakesOp ps others = (op : AccessOp) (k : Key) → after ps (op_token op) k ≡ Some (a_member ∷ others)
