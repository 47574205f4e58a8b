-- Trees of two texts that are alike but for spans, where any `if` may be turned round; and what renderings of the
-- two have alike.
use Rattle.std.specs.Prelude.{◌≡◌, ◌⊎◌, ℕ, List, [], ◌∷◌, not, Option, Some, None}
use Rattle.upon_types.specs.Expression.{Expression, base, filtered, Base, var, literal, list, mapping, paren, call, Bases, no_bases, base_then, Items, no_items, item_then, Arguments, no_arguments, arguments}
use Rattle.upon_types.specs.Fault.{Fault}
use Rattle.upon_types.specs.Path.{Ident, Access, by_index, by_key, Member, LoopVars, item, key_value}
use Rattle.upon_types.specs.Span.{slice}
use Rattle.upon_types.specs.BlockKinds.{Opening, if_tag, for_tag, with_tag}
use Rattle.upon_types.specs.Tree.{Statement, raw, inline_expr, include, block, Statements, no_statements, statement_then, Else, no_else, otherwise}
use Rattle.upon_meaning_spec.specs.Outcome.{End, good, fails, too_deep, Outcome}

-- names and paths
abbrev pub WordsAlike : Ident → Ident → Type 0
WordsAlike a b = a.text ≡ b.text

-- two accesses with the same key or index
abbrev pub SelectorsAlike : Access → Access → Type 0
SelectorsAlike (by_index m span) (by_index n span') = m ≡ n
SelectorsAlike (by_key a) (by_key b) = WordsAlike a b
SelectorsAlike _ _ = ⊥

-- two paths with the same members
abbrev pub StepsAlike : List Member → List Member → Type 0
StepsAlike [] [] = Unit {0}
StepsAlike (a ∷ as') (b ∷ bs) = (a.op ≡ b.op) × SelectorsAlike a.access b.access × StepsAlike as' bs
StepsAlike _ _ = ⊥

-- two loops' names
abbrev pub NamesAlike : LoopVars → LoopVars → Type 0
NamesAlike (item a) (item b) = WordsAlike a b
NamesAlike (key_value key value both) (key_value key' value' both') = WordsAlike key key' × WordsAlike value value'
NamesAlike _ _ = ⊥

-- expressions
abbrev mutual
  -- two expressions that differ in spans alone
  pub ExpressionsAlike : Expression → Expression → Type 0
  ExpressionsAlike (base a) (base b) = BaseAlike a b
  ExpressionsAlike (filtered receiver name args span) (filtered receiver' name' args' span') =
      ExpressionsAlike receiver receiver' × WordsAlike name name' × ArgumentsAlike args args'
  ExpressionsAlike _ _ = ⊥

  -- two expressions without a filter
  pub BaseAlike : Base → Base → Type 0
  BaseAlike (var first rest) (var first' rest') = StepsAlike (first ∷ rest) (first' ∷ rest')
  BaseAlike (literal v span) (literal w span') = v ≡ w
  BaseAlike (list bases span) (list bases' span') = BasesAlike bases bases'
  BaseAlike (mapping items span) (mapping items' span') = ItemsAlike items items'
  BaseAlike (paren e span) (paren e' span') = ExpressionsAlike e e'
  BaseAlike (call name args span) (call name' args' span') = WordsAlike name name' × ArgumentsAlike args args'
  BaseAlike _ _ = ⊥

  -- two lists of them
  pub BasesAlike : Bases → Bases → Type 0
  BasesAlike no_bases no_bases = Unit {0}
  BasesAlike (base_then a as') (base_then b bs) = BaseAlike a b × BasesAlike as' bs
  BasesAlike _ _ = ⊥

  -- two maps' items
  pub ItemsAlike : Items → Items → Type 0
  ItemsAlike no_items no_items = Unit {0}
  ItemsAlike (item_then key a items) (item_then key' b items') =
      WordsAlike key key' × BaseAlike a b × ItemsAlike items items'
  ItemsAlike _ _ = ⊥

  -- two calls' arguments
  pub ArgumentsAlike : Arguments → Arguments → Type 0
  ArgumentsAlike no_arguments no_arguments = Unit {0}
  ArgumentsAlike (arguments as' span) (arguments bs span') = BasesAlike as' bs
  ArgumentsAlike _ _ = ⊥

-- two values that an include may be given
abbrev pub GivenAlike : Option Expression → Option Expression → Type 0
GivenAlike None None = Unit {0}
GivenAlike (Some a) (Some b) = ExpressionsAlike a b
GivenAlike _ _ = ⊥

-- there are no statements
abbrev pub IsEmpty : Statements → Type 0
IsEmpty no_statements = Unit {0}
IsEmpty (statement_then t ts) = ⊥

-- two openings of blocks with the same `not` and names
abbrev pub OpeningsAlike : Opening → Opening → Type 0
OpeningsAlike (if_tag a) (if_tag b) = a ≡ b
OpeningsAlike (for_tag names) (for_tag names') = NamesAlike names names'
OpeningsAlike (with_tag a) (with_tag b) = WordsAlike a b
OpeningsAlike _ _ = ⊥

-- two of an `if`, of which one is negated
abbrev pub IsTurned : Opening → Opening → Type 0
IsTurned (if_tag a) (if_tag b) = a ≡ not b
IsTurned _ _ = ⊥

-- Statements of two texts. Raw parts show the same. Of two blocks the branches are alike; or they are two `if`, one
-- negated, and the branches are alike the other way round. No other case is like one without statements.
abbrev mutual
  -- two statements, each under its own text
  pub StatementAlike : List ℕ → List ℕ → Statement → Statement → Type 0
  StatementAlike s s' (raw span) (raw span') = slice s span ≡ slice s' span'
  StatementAlike s s' (inline_expr e span) (inline_expr e' span') = ExpressionsAlike e e'
  StatementAlike s s' (include word given) (include word' given') = WordsAlike word word' × GivenAlike given given'
  StatementAlike s s' (block opening e a (otherwise b)) (block opening' e' a' (otherwise b')) =
      ExpressionsAlike e e'
      × ((OpeningsAlike opening opening' × StatementsAlike s s' a a' × StatementsAlike s s' b b')
      ⊎ (IsTurned opening opening' × StatementsAlike s s' a b' × StatementsAlike s s' b a'))
  StatementAlike s s' (block opening e a no_else) (block opening' e' a' (otherwise b')) =
      ExpressionsAlike e e'
      × ((OpeningsAlike opening opening' × StatementsAlike s s' a a' × IsEmpty b')
      ⊎ (IsTurned opening opening' × StatementsAlike s s' a b' × IsEmpty a'))
  StatementAlike s s' (block opening e a (otherwise b)) (block opening' e' a' no_else) =
      ExpressionsAlike e e'
      × ((OpeningsAlike opening opening' × StatementsAlike s s' a a' × IsEmpty b)
      ⊎ (IsTurned opening opening' × IsEmpty a × StatementsAlike s s' b a'))
  StatementAlike s s' (block opening e a no_else) (block opening' e' a' no_else) =
      ExpressionsAlike e e'
      × ((OpeningsAlike opening opening' × StatementsAlike s s' a a')
      ⊎ (IsTurned opening opening' × IsEmpty a × IsEmpty a'))
  StatementAlike s s' _ _ = ⊥

  -- two sequences of statements, each under its own text
  pub StatementsAlike : List ℕ → List ℕ → Statements → Statements → Type 0
  StatementsAlike s s' no_statements no_statements = Unit {0}
  StatementsAlike s s' (statement_then t ts) (statement_then u us) =
      StatementAlike s s' t u × StatementsAlike s s' ts us
  StatementsAlike s s' _ _ = ⊥

-- a fault without its span, and so without a picture
abbrev pub without_span : Fault → Fault
without_span f = record f { span = None; picture = None }

-- two ends that differ in the span of a fault, and so in its picture, alone
abbrev pub EndsAlike : End → End → Type 0
EndsAlike good good = Unit {0}
EndsAlike (fails f) (fails g) = without_span f ≡ without_span g
EndsAlike too_deep too_deep = Unit {0}
EndsAlike _ _ = ⊥

-- two outcomes with one text and one next state, whose ends differ at most in the span of a fault
pub record OutcomesAlike {Q : Type 0} (one other : Outcome Q) : Type 0 where
  pub text : one.text ≡ other.text
  pub end : EndsAlike one.end other.end
  pub next : one.next ≡ other.next
