-- What the parser's functions inside a tag answer: the tree that was read, or where the tokens go no further.
use Rattle.std.specs.Prelude.{◌≡◌, ℕ, List, [], ◌∷◌, ◌++◌, Bool, Some, None, Result, Ok, Err, codes}
use Rattle.upon_types.specs.declared.types.Span.{Span}
use Rattle.upon_types.specs.declared.types.token.Token.{Token}
use Rattle.upon_types.specs.declared.types.token.Token.TheVariants.{EndExpr, EndBlock, Dot, QuestionDot, Comma, Pipe}
use Rattle.upon_types.specs.declared.types.token.Token.TheVariants.{Colon, Plus, Minus, Number, String}
use Rattle.upon_types.specs.Expression.{Base, Expression}
use Rattle.upon_types.specs.Path.{Member}
use Rattle.upon_types.specs.AstPath.{first_member, rest_members}
use Rattle.upon_types.specs.declared.types.ast.path.Var.{Var}
use Rattle.upon_language_spec.specs.Cut.{Lexeme}
use Rattle.upon_language_spec.specs.Tags.{symbol_of}
use Rattle.upon_language_spec.specs.Keys.{Key, keyword_of}
use Rattle.upon_language_spec.specs.Tokens.{GoesWord}
use Rattle.upon_language_spec.specs.Expressions.{sign_token, AreMembers, IsBase, IsExpression}
use Rattle.upon_language_spec.specs.Wanted.{Wanted, an_expression}
use Rattle.upon_language_spec.specs.Parts.{Part, base_goes, after, after_symbol, wanted_at, filters, a_base}
use Rattle.upon_language_spec.specs.PartTails.{No, Tail, tail_parts, Quiet, TakesBase}
use Rattle.upon_language_spec.specs.PartLeads.{Leads}
use Rattle.upon_language_spec.specs.OpenParts.{Ending, base_ending, name_ending, args_ending, ending_parts}
use Rattle.upon_lexer.specs.declared.literal.Lexed.{Lexed}
use Rattle.upon_tag_parser.specs.declared.compile.parse.path.Failure.{Failure}
use Rattle.upon_tag_parser.specs.declared.compile.parse.path.Failure.TheVariants.{Memory, Stuck}
use Rattle.upon_tag_parser.specs.declared.compile.parse.want.Want.{Want}
use Rattle.upon_tag_parser.specs.TagTokens.{lexemes_of}
use Rattle.upon_tag_parser.specs.Wants.{wanted_of}

-- the first of the tokens may not be there; if there are none, no end of a tag may
abbrev pub Refuses : List ℕ → List Part → List Lexeme → Type 0
Refuses s parts [] = (k : Key) → (after parts EndExpr k ≡ None) × (after parts EndBlock k ≡ None)
Refuses s parts (l ∷ ls) = after_symbol parts (symbol_of s l) ≡ None

-- The tokens lead from these parts to others, and there to the tokens left: what is next may not be there, and this
-- word is wanted.
pub record StuckAt (s : List ℕ) (from : List Part) (ts rest : List Lexeme) (word : Wanted) : Type 0 where
  pub to : List Part
  pub leads : Leads s from ts to rest
  pub refuses : Refuses s to rest
  pub wants : wanted_at to ≡ Some word

-- where a failure is that a parser is stuck, that is said of the wanted word and of the tokens left
abbrev pub OnStuck : Failure → (Want → List Lexed → Type 0) → Type 0
OnStuck Memory P = Unit {0}
OnStuck (Stuck want left) P = P want left.now

-- where a result is a failure and the parser is stuck, that is said of the wanted word and of the tokens left
abbrev pub IfStuck : {A : Type 0} → Result A Failure → (Want → List Lexed → Type 0) → Type 0
IfStuck (Ok a) P = Unit {0}
IfStuck (Err e) P = OnStuck e P

-- the tokens of a tag are stuck from these parts on
abbrev pub IsStuck : List ℕ → List Part → List Lexed → Want → List Lexed → Type 0
IsStuck s from tokens want left = StuckAt s from (lexemes_of tokens) (lexemes_of left) (wanted_of want)

-- the first token is none of this kind: nothing was read, and this is wanted
pub record IsRefused (token : Token) (wanted : Want) (tokens : List Lexed) (want : Want) (left : List Lexed)
    : Type 0 where
  pub none : No token (lexemes_of tokens)
  pub same : left ≡ tokens
  pub wants : want ≡ wanted

-- no keyword of this word comes first
abbrev pub NoWord : List ℕ → List ℕ → List Lexeme → Type 0
NoWord s word ts = (span : Span) (rest : List Lexeme) → GoesWord s word span ts rest → ⊥

-- no Base begins with the first of the tokens
abbrev pub NoBase : List ℕ → List Lexeme → Type 0
NoBase s [] = Unit {0}
NoBase s (l ∷ ls) = base_goes l.token (keyword_of (symbol_of s l).word) [] ≡ None

-- a Base may begin, and an expression is wanted; what begins no Base may not be there
pub record StartsBase (s : List ℕ) (from parts : List Part) (ts : List Lexeme) : Type 0 where
  pub takes : TakesBase from parts
  pub wants : wanted_at from ≡ Some an_expression
  pub refuses : NoBase s ts → Refuses s from ts

-- a Base was read, and what is next does not go on with it
pub record ReadsBase (s : List ℕ) (b : Base) (ts rest : List Lexeme) : Type 0 where
  pub reads : IsBase s b ts rest
  pub tail : Tail
  pub leads : (from parts : List Part) → TakesBase from parts → Leads s from ts (tail_parts tail ++ parts) rest
  pub quiet : Quiet tail rest

-- after its first member the others of a path were read, and no further one is next
pub record ReadsMembers (s : List ℕ) (first : Member) (path : Var) (ts rest : List Lexeme) : Type 0 where
  pub starts : first_member path ≡ first
  pub members : AreMembers s (rest_members path) ts rest
  pub no_dot : No Dot rest
  pub no_question : No QuestionDot rest

-- after a comma the next argument may begin, and then more of them
abbrev pub TakesComma : List Part → Type 0
TakesComma parts = (k : Key) → after parts Comma k ≡ Some (a_base ∷ parts)

-- what is next does not go on with what an expression ends with
abbrev pub QuietEnding : Ending → List Lexeme → Type 0
QuietEnding (base_ending tail) ts = Quiet tail ts
QuietEnding name_ending ts = No Colon ts
QuietEnding (args_ending tail) ts = Quiet tail ts × No Comma ts

-- an expression was read so far: more filters may follow
pub record ReadsPart (s : List ℕ) (e : Expression) (ts rest : List Lexeme) : Type 0 where
  pub reads : IsExpression s e ts rest
  pub ending : Ending
  pub leads : (from parts : List Part) → TakesBase from (filters ∷ parts)
      → Leads s from ts (ending_parts ending ++ filters ∷ parts) rest
  pub quiet : QuietEnding ending rest

-- an expression was read, and what is next does not go on with it
pub record ReadsExpression (s : List ℕ) (e : Expression) (ts rest : List Lexeme) : Type 0 where
  pub part : ReadsPart s e ts rest
  pub no_more : No Pipe rest

-- whether a token is a sign
abbrev pub IsSign : Token → Type 0
IsSign t = (minus : Bool) × (t ≡ sign_token minus)

-- no sign comes first
abbrev pub NoSign : List Lexeme → Type 0
NoSign ts = No Minus ts × No Plus ts

-- no number comes first, with a sign or without
abbrev pub NoNumber : List Lexeme → Type 0
NoNumber ts = NoSign ts × No Number ts

-- no literal comes first
abbrev pub NoLiteral : List ℕ → List Lexeme → Type 0
NoLiteral s ts = NoWord s (codes "true") ts × NoWord s (codes "false") ts × No String ts × NoNumber ts
