-- What is claimed of each part of an expression: tokens are it in one way at most, where what is after does not go on with it.
use Rattle.std.specs.Prelude.{◌≡◌, ◌⊎◌, ℕ, List, Option, Some, Bool, true, false}
use Rattle.upon_types.specs.declared.types.Span.{Span}
use Rattle.upon_types.specs.declared.types.token.Token.{Token}
use Rattle.upon_types.specs.declared.types.token.Token.TheVariants.{Comma, Colon, Pipe}
use Rattle.upon_types.specs.Path.{Ident}
use Rattle.upon_types.specs.Expression.{Expression, base, filtered, Base, Bases, Items, Arguments, expression_span}
use Rattle.upon_language_spec.specs.Cut.{Lexeme}
use Rattle.upon_language_spec.specs.Tokens.{GoesBy, GoesName}
use Rattle.upon_language_spec.specs.Expressions.{IsBase, IsListBody, IsListTail, IsMapBody, IsMapTail, IsCallBody, IsArgs, IsMoreArgs, IsExpression, IsFilterArgs, filter_end}
use Rattle.upon_language_spec.proofs.OneTree.Token.{first_token}
use Rattle.upon_language_spec.proofs.OneTree.Path.{BehindBase}

-- a token that goes on with arguments or with a filter's name
abbrev pub continues_args : Option Token → Bool
continues_args (Some Comma) = true
continues_args (Some Colon) = true
continues_args t = false

abbrev pub continues_filters : Option Token → Bool
continues_filters (Some Pipe) = true
continues_filters t = false

-- what may be after the arguments or the name of a filter, and after an expression
abbrev pub BehindArgs : List Lexeme → Type 0
BehindArgs ts = BehindBase ts × (continues_args (first_token ts) ≡ false)

abbrev pub BehindExpression : List Lexeme → Type 0
BehindExpression ts = BehindArgs ts × (continues_filters (first_token ts) ≡ false)

abbrev pub OneBase : List ℕ → Base → Type 0
OneBase s b = (c : Base) (ts us r x : List Lexeme) → ts ≡ us → IsBase s b ts r → BehindBase r → IsBase s c us x → BehindBase x → (b ≡ c) × (r ≡ x)

abbrev pub OneListBody : List ℕ → Bases → Type 0
OneListBody s bs = (cs : Bases) (p q : Span) (ts us r x : List Lexeme) → ts ≡ us → IsListBody s bs p ts r → IsListBody s cs q us x → (bs ≡ cs) × (p.n ≡ q.n) × (r ≡ x)

abbrev pub OneListTail : List ℕ → Bases → Type 0
OneListTail s bs = (cs : Bases) (p q : Span) (ts us r x : List Lexeme) → ts ≡ us → IsListTail s bs p ts r → IsListTail s cs q us x → (bs ≡ cs) × (p.n ≡ q.n) × (r ≡ x)

abbrev pub OneMapBody : List ℕ → Items → Type 0
OneMapBody s items = (others : Items) (p q : Span) (ts us r x : List Lexeme) → ts ≡ us → IsMapBody s items p ts r → IsMapBody s others q us x → (items ≡ others) × (p.n ≡ q.n) × (r ≡ x)

abbrev pub OneMapTail : List ℕ → Items → Type 0
OneMapTail s items = (others : Items) (p q : Span) (ts us r x : List Lexeme) → ts ≡ us → IsMapTail s items p ts r → IsMapTail s others q us x → (items ≡ others) × (p.n ≡ q.n) × (r ≡ x)

abbrev pub OneArgs : List ℕ → Bases → Type 0
OneArgs s bs = (cs : Bases) (ts us r x : List Lexeme) → ts ≡ us → IsArgs s bs ts r → BehindArgs r → IsArgs s cs us x → BehindArgs x → (bs ≡ cs) × (r ≡ x)

abbrev pub OneMoreArgs : List ℕ → Bases → Type 0
OneMoreArgs s bs = (cs : Bases) (ts us r x : List Lexeme) → ts ≡ us → IsMoreArgs s bs ts r → BehindArgs r → IsMoreArgs s cs us x → BehindArgs x → (bs ≡ cs) × (r ≡ x)

abbrev pub OneCallBody : List ℕ → Arguments → Type 0
OneCallBody s args = (others : Arguments) (p q : Span) (ts us r x : List Lexeme) → ts ≡ us → p.m ≡ q.m → IsCallBody s args p ts r → IsCallBody s others q us x → (args ≡ others) × (p.n ≡ q.n) × (r ≡ x)

abbrev pub OneFilterArgs : List ℕ → Arguments → Type 0
OneFilterArgs s args = (others : Arguments) (ts us r x : List Lexeme) → ts ≡ us → IsFilterArgs s args ts r → BehindArgs r → IsFilterArgs s others us x → BehindArgs x → (args ≡ others) × (r ≡ x)

-- a filter after this expression makes one that is there: "|" Ident [":" Args]
abbrev pub IsFilter : List ℕ → Expression → Ident → Arguments → Span → List Lexeme → List Lexeme → Type 0
IsFilter s e name args span before rest = (start after : List Lexeme) × GoesBy Pipe before start × GoesName s name start after × IsFilterArgs s args after rest × (span ≡ record { m = (expression_span e).m; n = filter_end name args })

-- this expression, read up to `mid`, is the other one, read up to `rest`, before one or more of its filters
abbrev pub Within : List ℕ → Expression → List Lexeme → Expression → List Lexeme → Type 0
Within s e mid (base b) rest = ⊥
Within s e mid (filtered f name args span) rest = (next : List Lexeme) × (((e ≡ f) × (mid ≡ next)) ⊎ Within s e mid f next) × IsFilter s f name args span next rest

-- An expression that is read where a whole one is is the whole one, or is it before some of its filters.
abbrev pub OneExpression : List ℕ → Expression → Type 0
OneExpression s e = (f : Expression) (ts us mid rest : List Lexeme) → ts ≡ us → IsExpression s e ts mid → BehindArgs mid → IsExpression s f us rest → BehindExpression rest → ((e ≡ f) × (mid ≡ rest)) ⊎ Within s e mid f rest
