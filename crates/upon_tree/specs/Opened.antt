-- How far the tree of an expression was read: what of it is whole, and what is open around that.
use Rattle.std.specs.Prelude.{◌≡◌, ℕ, List, [], ◌∷◌, map, Bool, true, false, Option, Some, None}
use Rattle.upon_types.specs.declared.types.Span.{Span}
use Rattle.upon_types.specs.declared.types.token.Token.TheVariants.{OpenBracket, CloseBracket, OpenBrace}
use Rattle.upon_types.specs.declared.types.token.Token.TheVariants.{CloseBrace, OpenParen, CloseParen, Pipe, Colon}
use Rattle.upon_types.specs.declared.types.ast.expression.String.{String as Quoted}
use Rattle.upon_types.specs.Path.{Ident}
use Rattle.upon_types.specs.AstPath.{ident_of, string_of}
use Rattle.upon_types.specs.Expression.{Base, Expression}
use Rattle.upon_language_spec.specs.Cut.{Lexeme}
use Rattle.upon_language_spec.specs.Tokens.{Goes, GoesBy, GoesName, GoesText}
use Rattle.upon_language_spec.specs.PartTails.{No}
use Rattle.upon_lexer.specs.declared.literal.Lexed.{Lexed}
use Rattle.upon_tag_parser.specs.declared.compile.parse.want.Want.{Want}
use Rattle.upon_tag_parser.specs.Brackets.{StuckFrom}
use Rattle.upon_tag_parser.specs.TagParsing.{ReadsBase, ReadsPart, ReadsExpression}
use Rattle.upon_tag_parser.specs.PartReadings.{ItemsTo, EntriesTo, ArgsTo}
use Rattle.upon_tree.specs.AstExpression.{base_tree, expression_tree}
use Rattle.upon_tree.specs.declared.ast.expression.BaseExpr.{BaseExpr}
use Rattle.upon_tree.specs.declared.ast.expression.Expr.{Expr}
use Rattle.upon_tree.specs.declared.expression.TreeReader.{TreeReader}
use Rattle.upon_tree.specs.declared.opened.Applied.{Applied}
use Rattle.upon_tree.specs.declared.opened.Entries.{Entries}
use Rattle.upon_tree.specs.declared.opened.Items.{Items}
use Rattle.upon_tree.specs.declared.opened.Open.{Open}
use Rattle.upon_tree.specs.declared.opened.Open.TheVariants as opened
use Rattle.upon_tree.specs.declared.opened.Receiver.{Receiver}
use Rattle.upon_tree.specs.declared.opened.Step.{Step}
use Rattle.upon_tree.specs.declared.opened.Step.TheVariants as stepped

-- the text whose tags a reader reads
abbrev pub tree_reader_text : TreeReader → List ℕ
tree_reader_text reader = reader.parser.source.now

-- the entry of a map that an entry of the code denotes
abbrev pub entry_of : Quoted × BaseExpr → Ident × Base
entry_of entry = (string_of entry.0, base_tree entry.1)

-- ---- what is open

-- a list from its bracket up to an item's start
pub record ListTreeTo (s : List ℕ) (read : Items) (from to : List Lexeme) : Type 0 where
  pub inside : List Lexeme
  pub opens : Goes OpenBracket read.opening from inside
  pub reads : ItemsTo s (map base_tree read.items.items) inside to

-- a map from its brace up to an entry's start
pub record MapTreeTo (s : List ℕ) (read : Entries) (from to : List Lexeme) : Type 0 where
  pub inside : List Lexeme
  pub opens : Goes OpenBrace read.opening from inside
  pub reads : EntriesTo s (map entry_of read.entries.items) inside to

-- a map from its brace up to the value of a key
pub record EntryTreeTo (s : List ℕ) (read : Entries) (key : Ident) (from to : List Lexeme) : Type 0 where
  pub mid : List Lexeme
  pub before : MapTreeTo s read from mid
  pub not_closed : No CloseBrace mid
  pub colon : List Lexeme
  pub reads_key : GoesText s key mid colon
  pub reads_colon : GoesBy Colon colon to

-- a call from its name up to an argument's start
pub record CallTreeTo (s : List ℕ) (applied : Applied) (from to : List Lexeme) : Type 0 where
  pub paren : List Lexeme
  pub inside : List Lexeme
  pub named : GoesName s (ident_of applied.name) from paren
  pub opens : GoesBy OpenParen paren inside
  pub not_closed : No CloseParen inside
  pub reads : ArgsTo s (map base_tree applied.values.items) inside to

-- An expression may start: after a parenthesis that opens, or, with none, at the start of the whole expression.
abbrev pub PartTreeStart : Bool → Option Span → List Lexeme → List Lexeme → Type 0
PartTreeStart whole None from to = (whole ≡ true) × (to ≡ from)
PartTreeStart whole (Some opening) from to = Goes OpenParen opening from to

-- a filter from the start of what it is applied to up to an argument's start
pub record FilterTreeTo (s : List ℕ) (whole : Bool) (receiver : Receiver) (applied : Applied) (from to : List Lexeme)
    : Type 0 where
  pub start : List Lexeme
  pub begins : PartTreeStart whole receiver.opening from start
  pub mid : List Lexeme
  pub part : ReadsPart s (expression_tree receiver.expr) start mid
  pub name : List Lexeme
  pub colon : List Lexeme
  pub inside : List Lexeme
  pub bar : GoesBy Pipe mid name
  pub named : GoesName s (ident_of applied.name) name colon
  pub opens : Goes Colon receiver.colon colon inside
  pub reads : ArgsTo s (map base_tree applied.values.items) inside to

-- this is open from there to there; only at the start of the whole expression is a filter in no parentheses
abbrev pub IsTreeOpen : List ℕ → Bool → Open → List Lexeme → List Lexeme → Type 0
IsTreeOpen s whole (opened.List read) from to = ListTreeTo s read from to × No CloseBracket to
IsTreeOpen s whole (opened.Map read key) from to = EntryTreeTo s read (string_of key) from to
IsTreeOpen s whole (opened.Call applied) from to = CallTreeTo s applied from to
IsTreeOpen s whole (opened.Paren opening) from to = PartTreeStart whole (Some opening) from to
IsTreeOpen s whole (opened.Filter receiver applied) from to = FilterTreeTo s whole receiver applied from to

-- whether the whole expression starts after what is open
abbrev pub is_tree_whole : Bool → List Open → Bool
is_tree_whole whole [] = whole
is_tree_whole whole (first ∷ others) = is_tree_whole false others

-- these are open, each where the one before is
abbrev pub AreTreesOpen : List ℕ → Bool → List Open → List Lexeme → List Lexeme → Type 0
AreTreesOpen s whole [] from to = from ≡ to
AreTreesOpen s whole (first ∷ others) from to = (mid : List Lexeme) × IsTreeOpen s whole first from mid
    × AreTreesOpen s false others mid to

-- ---- steps

-- what was read last is from there to there
abbrev pub IsTreeStep : List ℕ → Bool → Step → List Lexeme → List Lexeme → Type 0
IsTreeStep s whole (stepped.Opens some_open) from to = IsTreeOpen s whole some_open from to
IsTreeStep s whole (stepped.Base b) from to = ReadsBase s (base_tree b) from to
IsTreeStep s whole (stepped.Whole e) from to = (whole ≡ true) × ReadsExpression s (expression_tree e) from to

-- these are open, and after them is what was read last
pub record AreTreesRead (s : List ℕ) (stack : List Open) (last : Step) (from to : List Lexeme) : Type 0 where
  pub mid : List Lexeme
  pub around : AreTreesOpen s true stack from mid
  pub step : IsTreeStep s (is_tree_whole true stack) last mid to

-- a Base was read in what is open
pub record IsBaseTreeGiven (s : List ℕ) (whole : Bool) (top : Open) (b : BaseExpr) (from to : List Lexeme)
    : Type 0 where
  pub mid : List Lexeme
  pub around : IsTreeOpen s whole top from mid
  pub read : ReadsBase s (base_tree b) mid to

-- A Base was read in what is open, up to here: what is read there goes on with it, up to there.
abbrev pub OpenTreeGoesOn : List ℕ → Open → BaseExpr → List Lexeme → Step → List Lexeme → Type 0
OpenTreeGoesOn s top b here last there = (whole : Bool) (from : List Lexeme) → IsBaseTreeGiven s whole top b from here
    → IsTreeStep s whole last from there

-- A Base was read in what is open, up to here, and the tokens are stuck.
abbrev pub OpenTreeStuck : List ℕ → Open → BaseExpr → List Lexeme → Want → List Lexed → Type 0
OpenTreeStuck s top b here want left = (whole : Bool) (from : List Lexeme) → IsBaseTreeGiven s whole top b from here
    → StuckFrom s whole from want left

-- a list was read up to an item's start, here: what is read there goes on with it, up to there
abbrev pub ListTreeGoesOn : List ℕ → Items → List Lexeme → Step → List Lexeme → Type 0
ListTreeGoesOn s read here last there = (whole : Bool) (from : List Lexeme) → ListTreeTo s read from here
    → IsTreeStep s whole last from there

-- a map was read up to an entry's start, here: what is read there goes on with it, up to there
abbrev pub MapTreeGoesOn : List ℕ → Entries → List Lexeme → Step → List Lexeme → Type 0
MapTreeGoesOn s read here last there = (whole : Bool) (from : List Lexeme) → MapTreeTo s read from here
    → IsTreeStep s whole last from there

-- a call was read up to its arguments, here, and none so far
abbrev pub CallTreeGoesOn : List ℕ → Ident → List Lexeme → Step → List Lexeme → Type 0
CallTreeGoesOn s name here last there = (whole : Bool) (before paren : List Lexeme) → GoesName s name before paren
    → GoesBy OpenParen paren here → IsTreeStep s whole last before there

-- An expression was read so far, up to here: what is read there goes on with it, up to there.
abbrev pub PartTreeGoesOn : List ℕ → Option Span → Expr → List Lexeme → Step → List Lexeme → Type 0
PartTreeGoesOn s opening e here last there = (whole : Bool) (from start : List Lexeme)
    → PartTreeStart whole opening from start → ReadsPart s (expression_tree e) start here
    → IsTreeStep s whole last from there

-- An expression was read so far, up to here, and the tokens are stuck.
abbrev pub PartTreeStuck : List ℕ → Option Span → Expr → List Lexeme → Want → List Lexed → Type 0
PartTreeStuck s opening e here want left = (whole : Bool) (from start : List Lexeme)
    → PartTreeStart whole opening from start
    → ReadsPart s (expression_tree e) start here → StuckFrom s whole from want left

-- An expression was read, up to these tokens, with which they do not go on: it ends there.
abbrev pub EndTreeGoesOn : List ℕ → Option Span → Expr → List Lexeme → Step → List Lexeme → Type 0
EndTreeGoesOn s opening e here last there = (whole : Bool) (from start : List Lexeme)
    → PartTreeStart whole opening from start
    → ReadsExpression s (expression_tree e) start here → IsTreeStep s whole last from there

-- An expression was read, up to these tokens, with which they do not go on, and they are stuck.
abbrev pub EndTreeStuck : List ℕ → Option Span → Expr → List Lexeme → Want → List Lexed → Type 0
EndTreeStuck s opening e here want left = (whole : Bool) (from start : List Lexeme)
    → PartTreeStart whole opening from start
    → ReadsExpression s (expression_tree e) start here → StuckFrom s whole from want left

-- what is open, and was read last, goes on from here to there, wherever it is
abbrev pub ReadsTreeOn : List ℕ → List Open → Step → List Lexeme → List Open → Step → List Lexeme → Type 0
ReadsTreeOn s old last here new next there = (from : List Lexeme) → AreTreesRead s old last from here
    → AreTreesRead s new next from there

-- from wherever an expression may start there, the tokens are stuck
abbrev pub ReadsTreeStuck : List ℕ → List Open → Step → List Lexeme → Want → List Lexed → Type 0
ReadsTreeStuck s old last here want left = (from : List Lexeme) → AreTreesRead s old last from here
    → StuckFrom s true from want left

-- this expression is known to be there: whatever is read of the tokens is it, and they are not stuck
pub record IsExpressionKnown (s : List ℕ) (e : Expression) (ts : List Lexeme) : Type 0 where
  pub only : (f : Expression) (rest : List Lexeme) → ReadsExpression s f ts rest → f ≡ e
  pub free : (want : Want) (left : List Lexed) → StuckFrom s true ts want left → ⊥

-- 1 if a step is to come, and 0 if none is
abbrev pub step_weight : Step → ℕ
step_weight (stepped.Whole e) = 0
step_weight other = 1
