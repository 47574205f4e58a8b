-- What it is that tokens can be read as the parts that are to come.
use Rattle.std.proofs.Common.{◌≡◌, ℕ, List, [], ◌∷◌, ◌++◌, Bool, Option, Some, None, codes}
use Rattle.upon_types.specs.declared.types.Span.{Span}
use Rattle.upon_types.specs.declared.types.token.Token.TheVariants.{EndExpr, BeginBlock, EndBlock, CloseParen, Colon, Number}
use Rattle.upon_types.specs.Path.{Ident, Access, Member, LoopVars}
use Rattle.upon_types.specs.Expression.{Expression, Base, Bases, Items, Arguments}
use Rattle.upon_language_spec.specs.Cut.{Lexeme}
use Rattle.upon_language_spec.specs.Tokens.{Goes, GoesBy, GoesName, GoesText, GoesKeyword}
use Rattle.upon_language_spec.specs.Expressions.{IsAccess, AreMembers, Closes, IsBase, IsListBody, IsListTail, IsMapBody, IsMapTail, IsCallBody, IsMoreArgs, IsExpression, IsFilterArgs}
use Rattle.upon_language_spec.specs.Grammar.{BeginsBlock, IsCondition, AreLoopVars, AreGlobals}
use Rattle.upon_language_spec.specs.Tags.{IsTag}
use Rattle.upon_language_spec.specs.Parts.{Part, a_base, after_name, after_member, a_member, a_magnitude, filters, filter_name, after_filter, more_args, list_start, list_rest, map_start, map_colon, map_rest, call_start, call_rest, close_paren, tag_start, end_expr, end_block, block_word, condition, else_rest, loop_name, loop_rest, loop_value, in_word, as_word, as_name, include_name, include_rest}
use Rattle.upon_language_spec.proofs.Wanted.EachWord.{span_at}

module _ (s : List ℕ) where
  -- the tokens can be read as the part, and then as P says
  abbrev pub MeansPart : Part → (List Lexeme → Type 0) → List Lexeme → Type 0
  MeansPart a_base P ls = (b : Base) × (rest : List Lexeme) × IsBase s b ls rest × P rest
  MeansPart after_name P ls = (name : Ident) (before : List Lexeme) → GoesName s name before ls → (b : Base) × (rest : List Lexeme) × IsBase s b before rest × P rest
  MeansPart after_member P ls = (steps : List Member) × (rest : List Lexeme) × AreMembers s steps ls rest × P rest
  MeansPart a_member P ls = (sel : Access) × (mid : List Lexeme) × (steps : List Member) × (rest : List Lexeme) × IsAccess s sel ls mid × AreMembers s steps mid rest × P rest
  MeansPart a_magnitude P ls = (number : Span) × (rest : List Lexeme) × Goes Number number ls rest × P rest
  MeansPart filters P ls = (e : Expression) (before : List Lexeme) → IsExpression s e before ls → (f : Expression) × (rest : List Lexeme) × IsExpression s f before rest × P rest
  MeansPart filter_name P ls = (name : Ident) × (args : Arguments) × (mid rest : List Lexeme) × GoesName s name ls mid × IsFilterArgs s args mid rest × P rest
  MeansPart after_filter P ls = (args : Arguments) × (rest : List Lexeme) × IsFilterArgs s args ls rest × P rest
  MeansPart more_args P ls = (bs : Bases) × (rest : List Lexeme) × IsMoreArgs s bs ls rest × P rest
  MeansPart list_start P ls = (m : ℕ) → (bs : Bases) × (n : ℕ) × (rest : List Lexeme) × IsListBody s bs (span_at m n) ls rest × P rest
  MeansPart list_rest P ls = (m : ℕ) → (bs : Bases) × (n : ℕ) × (rest : List Lexeme) × IsListTail s bs (span_at m n) ls rest × P rest
  MeansPart map_start P ls = (m : ℕ) → (items : Items) × (n : ℕ) × (rest : List Lexeme) × IsMapBody s items (span_at m n) ls rest × P rest
  MeansPart map_colon P ls = (m : ℕ) → (b : Base) × (items : Items) × (n : ℕ) × (start mid rest : List Lexeme) × GoesBy Colon ls start × IsBase s b start mid × IsMapTail s items (span_at m n) mid rest × P rest
  MeansPart map_rest P ls = (m : ℕ) → (items : Items) × (n : ℕ) × (rest : List Lexeme) × IsMapTail s items (span_at m n) ls rest × P rest
  MeansPart call_start P ls = (m : ℕ) → (args : Arguments) × (n : ℕ) × (rest : List Lexeme) × IsCallBody s args (span_at m n) ls rest × P rest
  MeansPart call_rest P ls = (m : ℕ) → (bs : Bases) × (n : ℕ) × (mid rest : List Lexeme) × IsMoreArgs s bs ls mid × Closes CloseParen (span_at m n) mid rest × P rest
  MeansPart close_paren P ls = (m : ℕ) → (n : ℕ) × (rest : List Lexeme) × Closes CloseParen (span_at m n) ls rest × P rest
  MeansPart tag_start P ls = (rest : List Lexeme) × IsTag s ls rest × P rest
  MeansPart end_expr P ls = (rest : List Lexeme) × GoesBy EndExpr ls rest × P rest
  MeansPart end_block P ls = (rest : List Lexeme) × GoesBy EndBlock ls rest × P rest
  MeansPart block_word P ls = (before : List Lexeme) → GoesBy BeginBlock before ls → (rest : List Lexeme) × IsTag s before rest × P rest
  MeansPart condition P ls = (negated : Bool) × (e : Expression) × (rest : List Lexeme) × IsCondition s negated e ls rest × P rest
  MeansPart else_rest P ls = (before : List Lexeme) → BeginsBlock s (codes "else") before ls → (rest : List Lexeme) × IsTag s before rest × P rest
  MeansPart loop_name P ls = (names : LoopVars) × (e : Expression) × (mid after last : List Lexeme) × AreLoopVars s names ls mid × GoesKeyword s (codes "in") mid after × IsExpression s e after last × P last
  MeansPart loop_rest P ls = (key : Ident) (before : List Lexeme) → GoesName s key before ls → (names : LoopVars) × (e : Expression) × (mid after last : List Lexeme) × AreLoopVars s names before mid × GoesKeyword s (codes "in") mid after × IsExpression s e after last × P last
  MeansPart loop_value P ls = (value : Ident) × (e : Expression) × (mid after last : List Lexeme) × GoesName s value ls mid × GoesKeyword s (codes "in") mid after × IsExpression s e after last × P last
  MeansPart in_word P ls = (e : Expression) × (after last : List Lexeme) × GoesKeyword s (codes "in") ls after × IsExpression s e after last × P last
  MeansPart as_word P ls = (name : Ident) × (mid rest : List Lexeme) × GoesKeyword s (codes "as") ls mid × GoesName s name mid rest × P rest
  MeansPart as_name P ls = (name : Ident) × (rest : List Lexeme) × GoesName s name ls rest × P rest
  MeansPart include_name P ls = (name : Ident) × (context : Option Expression) × (mid after rest : List Lexeme) × GoesText s name ls mid × AreGlobals s context mid after × GoesBy EndBlock after rest × P rest
  MeansPart include_rest P ls = (context : Option Expression) × (after rest : List Lexeme) × AreGlobals s context ls after × GoesBy EndBlock after rest × P rest

  abbrev pub Means : List Part → List Lexeme → Type 0
  Means [] ls = ls ≡ []
  Means (p ∷ ps) ls = MeansPart p (Means ps) ls

  -- what is left after a token can be read
  abbrev pub Took : Option (List Part) → List Part → List Lexeme → Type 0
  Took None ps ls = ⊥
  Took (Some first) ps ls = Means (first ++ ps) ls

  abbrev pub Reads : Option (List Part) → List Lexeme → Type 0
  Reads None ls = ⊥
  Reads (Some ps) ls = Means ps ls
