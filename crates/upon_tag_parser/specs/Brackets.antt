-- How far an expression was read, with its instructions: what of it is whole, and what is open around that.
use Rattle.std.specs.Prelude.{◌≡◌, ◌<◌, ◌≤◌, ℕ, List, [], ◌∷◌, ◌++◌, length, Bool, true, false, Option, Some, None}
use Rattle.upon_types.specs.declared.types.Span.{Span}
use Rattle.upon_types.specs.declared.types.token.Token.TheVariants.{OpenBracket, CloseBracket, OpenBrace}
use Rattle.upon_types.specs.declared.types.token.Token.TheVariants.{CloseBrace, OpenParen, CloseParen, Pipe, Colon}
use Rattle.upon_types.specs.Path.{Ident}
use Rattle.upon_types.specs.AstPath.{ident_of, string_of}
use Rattle.upon_types.specs.Expression.{Base, Expression, base_span, expression_span, no_bases, no_items}
use Rattle.upon_language_spec.specs.Cut.{Lexeme}
use Rattle.upon_language_spec.specs.Tokens.{Goes, GoesBy, GoesName, GoesText}
use Rattle.upon_language_spec.specs.Parts.{Part, filters}
use Rattle.upon_language_spec.specs.PartTails.{No}
use Rattle.upon_machine_spec.specs.Instr.{Instr, expr_start_list, expr_start_map}
use Rattle.upon_machine_spec.specs.Code.{base_code, expression_code, bases_code, list_code, map_code, count_bases}
use Rattle.upon_compiler.specs.declared.types.program.Instr.{Instr as CodeInstr}
use Rattle.upon_compiler.specs.Program.{program_view}
use Rattle.upon_lexer.specs.declared.literal.Lexed.{Lexed}
use Rattle.upon_tag_parser.specs.declared.compile.parse.want.Want.{Want}
use Rattle.upon_tag_parser.specs.declared.compile.parse.brackets.Beginning.{Beginning}
use Rattle.upon_tag_parser.specs.declared.compile.parse.brackets.Applied.{Applied}
use Rattle.upon_tag_parser.specs.declared.compile.parse.brackets.Receiver.{Receiver}
use Rattle.upon_tag_parser.specs.declared.compile.parse.brackets.Open.{Open}
use Rattle.upon_tag_parser.specs.declared.compile.parse.brackets.Open.TheVariants as opened
use Rattle.upon_tag_parser.specs.declared.compile.parse.brackets.Step.{Step}
use Rattle.upon_tag_parser.specs.declared.compile.parse.brackets.Step.TheVariants as stepped
use Rattle.upon_tag_parser.specs.TagTokens.{lexemes_of}
use Rattle.upon_tag_parser.specs.Wants.{wanted_of}
use Rattle.upon_tag_parser.specs.TagParsing.{ReadsBase, ReadsPart, ReadsExpression, StartsBase, StuckAt}
use Rattle.upon_tag_parser.specs.PartReadings.{bases_before, entries_before, ItemsTo, EntriesTo, ArgsTo}

-- how far a reader is: the tokens left, and the instructions so far
pub record Place : Type 0 where
  pub tokens : List Lexeme
  pub code : List Instr

-- at these tokens, after these instructions of the code
abbrev pub place : List Lexeme → List CodeInstr → Place
place tokens code = record { tokens = tokens; code = program_view code }

-- at these tokens of the code, after these instructions of the code
abbrev pub place_of : List Lexed → List CodeInstr → Place
place_of tokens code = place (lexemes_of tokens) code

-- ---- what is whole

-- a Base was read, which is at this span, and its instructions were appended
pub record BaseRead (s : List ℕ) (span : Span) (from to : Place) : Type 0 where
  pub tree : Base
  pub reads : ReadsBase s tree from.tokens to.tokens
  pub code : to.code ≡ from.code ++ base_code tree
  pub is_at : span ≡ base_span tree

-- an expression so far was read, which is at this span, and its instructions were appended; more filters may follow
pub record PartRead (s : List ℕ) (span : Span) (from to : Place) : Type 0 where
  pub tree : Expression
  pub reads : ReadsPart s tree from.tokens to.tokens
  pub code : to.code ≡ from.code ++ expression_code tree
  pub is_at : span ≡ expression_span tree

-- an expression was read, with which what is next does not go on; it is at this span, its instructions were appended
pub record ExpressionRead (s : List ℕ) (span : Span) (from to : Place) : Type 0 where
  pub tree : Expression
  pub reads : ReadsExpression s tree from.tokens to.tokens
  pub code : to.code ≡ from.code ++ expression_code tree
  pub is_at : span ≡ expression_span tree

-- ---- what is open

-- a list from its bracket up to an item's start; the span of its first instruction is not known yet
pub record ListTo (s : List ℕ) (start : Beginning) (from to : Place) : Type 0 where
  pub inside : List Lexeme
  pub opens : Goes OpenBracket start.opening from.tokens inside
  pub items : List Base
  pub reads : ItemsTo s items inside to.tokens
  pub number : start.at ≡ length from.code
  pub span : Span
  pub code : to.code ≡ from.code ++ (expr_start_list span ∷ list_code (bases_before items no_bases))

-- a map from its brace up to an entry's start
pub record MapTo (s : List ℕ) (start : Beginning) (from to : Place) : Type 0 where
  pub inside : List Lexeme
  pub opens : Goes OpenBrace start.opening from.tokens inside
  pub entries : List (Ident × Base)
  pub reads : EntriesTo s entries inside to.tokens
  pub number : start.at ≡ length from.code
  pub span : Span
  pub code : to.code ≡ from.code ++ (expr_start_map span ∷ map_code (entries_before entries no_items))

-- a map from its brace up to the value of a key
pub record EntryTo (s : List ℕ) (start : Beginning) (key : Ident) (from to : Place) : Type 0 where
  pub mid : Place
  pub before : MapTo s start from mid
  pub not_closed : No CloseBrace mid.tokens
  pub colon : List Lexeme
  pub reads_key : GoesText s key mid.tokens colon
  pub reads_colon : GoesBy Colon colon to.tokens
  pub code : to.code ≡ mid.code

-- a call from its name up to an argument's start
pub record CallTo (s : List ℕ) (applied : Applied) (from to : Place) : Type 0 where
  pub paren : List Lexeme
  pub inside : List Lexeme
  pub named : GoesName s (ident_of applied.name) from.tokens paren
  pub opens : GoesBy OpenParen paren inside
  pub not_closed : No CloseParen inside
  pub values : List Base
  pub reads : ArgsTo s values inside to.tokens
  pub number : applied.count ≡ count_bases (bases_before values no_bases)
  pub code : to.code ≡ from.code ++ bases_code (bases_before values no_bases)

-- An expression may start: after a parenthesis that opens, or, with none, at the start of the whole expression.
abbrev pub PartStart : Bool → Option Span → Place → Place → Type 0
PartStart whole None from to = (whole ≡ true) × (to.tokens ≡ from.tokens) × (to.code ≡ from.code)
PartStart whole (Some opening) from to = Goes OpenParen opening from.tokens to.tokens × (to.code ≡ from.code)

-- a filter from the start of what it is applied to up to an argument's start
pub record FilterTo (s : List ℕ) (whole : Bool) (receiver : Receiver) (applied : Applied) (from to : Place) : Type 0
  where
    pub start : Place
    pub begins : PartStart whole receiver.opening from start
    pub mid : Place
    pub span : Span
    pub part : PartRead s span start mid
    pub begins_at : receiver.start ≡ span.m
    pub name : List Lexeme
    pub colon : List Lexeme
    pub inside : List Lexeme
    pub bar : GoesBy Pipe mid.tokens name
    pub named : GoesName s (ident_of applied.name) name colon
    pub opens : GoesBy Colon colon inside
    pub values : List Base
    pub reads : ArgsTo s values inside to.tokens
    pub number : applied.count ≡ count_bases (bases_before values no_bases)
    pub code : to.code ≡ mid.code ++ bases_code (bases_before values no_bases)

-- this is open from there to there; only at the start of the whole expression is a filter in no parentheses
abbrev pub IsOpen : List ℕ → Bool → Open → Place → Place → Type 0
IsOpen s whole (opened.List start) from to = ListTo s start from to × No CloseBracket to.tokens
IsOpen s whole (opened.Map start key) from to = EntryTo s start (string_of key) from to
IsOpen s whole (opened.Call applied) from to = CallTo s applied from to
IsOpen s whole (opened.Paren opening) from to = PartStart whole (Some opening) from to
IsOpen s whole (opened.Filter receiver applied) from to = FilterTo s whole receiver applied from to

-- whether the whole expression starts after what is open
abbrev pub is_whole : Bool → List Open → Bool
is_whole whole [] = whole
is_whole whole (first ∷ others) = is_whole false others

-- these are open, each where the one before is
abbrev pub AreOpen : List ℕ → Bool → List Open → Place → Place → Type 0
AreOpen s whole [] from to = from ≡ to
AreOpen s whole (first ∷ others) from to = (mid : Place) × IsOpen s whole first from mid × AreOpen s false others mid to

-- ---- steps

-- what was read last is from there to there
abbrev pub IsStep : List ℕ → Bool → Step → Place → Place → Type 0
IsStep s whole (stepped.Opens some_open) from to = IsOpen s whole some_open from to
IsStep s whole (stepped.Base span) from to = BaseRead s span from to
IsStep s whole (stepped.Whole span) from to = (whole ≡ true) × ExpressionRead s span from to

-- these are open, and after them is what was read last
pub record AreRead (s : List ℕ) (stack : List Open) (last : Step) (from to : Place) : Type 0 where
  pub mid : Place
  pub around : AreOpen s true stack from mid
  pub step : IsStep s (is_whole true stack) last mid to

-- a Base was read in what is open
pub record IsBaseGiven (s : List ℕ) (whole : Bool) (top : Open) (span : Span) (from to : Place) : Type 0 where
  pub mid : Place
  pub around : IsOpen s whole top from mid
  pub read : BaseRead s span mid to

-- what is to come after a Base: of the whole expression, first its filters
abbrev pub awaited : Bool → List Part → List Part
awaited true parts = filters ∷ parts
awaited false parts = parts

-- from wherever a Base may start there, the tokens are stuck
abbrev pub StuckFrom : List ℕ → Bool → List Lexeme → Want → List Lexed → Type 0
StuckFrom s whole ts want left = (from parts : List Part) → StartsBase s from (awaited whole parts) ts
    → StuckAt s from ts (lexemes_of left) (wanted_of want)

-- A Base at this span was read in what is open, up to here: what is read there goes on with it, up to there.
abbrev pub OpenGoesOnAt : List ℕ → Open → Span → Place → Step → Place → Type 0
OpenGoesOnAt s top span here last there = (whole : Bool) (from : Place) → IsBaseGiven s whole top span from here
    → IsStep s whole last from there

-- A Base was read in what is open, wherever it is, up to here: what is read there goes on with it, up to there.
abbrev pub OpenGoesOn : List ℕ → Open → Place → Step → Place → Type 0
OpenGoesOn s top here last there = (span : Span) → OpenGoesOnAt s top span here last there

-- A Base at this span was read in what is open, up to here, and the tokens are stuck.
abbrev pub OpenStuckAt : List ℕ → Open → Span → Place → Want → List Lexed → Type 0
OpenStuckAt s top span here want left = (whole : Bool) (from : Place) → IsBaseGiven s whole top span from here
    → StuckFrom s whole from.tokens want left

-- and wherever the Base is
abbrev pub OpenStuck : List ℕ → Open → Place → Want → List Lexed → Type 0
OpenStuck s top here want left = (span : Span) → OpenStuckAt s top span here want left

-- a list was read up to an item's start, here: what is read there goes on with it, up to there
abbrev pub ListGoesOn : List ℕ → Beginning → Place → Step → Place → Type 0
ListGoesOn s start here last there = (whole : Bool) (from : Place) → ListTo s start from here
    → IsStep s whole last from there

-- a map was read up to an entry's start, here: what is read there goes on with it, up to there
abbrev pub MapGoesOn : List ℕ → Beginning → Place → Step → Place → Type 0
MapGoesOn s start here last there = (whole : Bool) (from : Place) → MapTo s start from here
    → IsStep s whole last from there

-- a call was read up to its arguments, here, and none so far
abbrev pub CallGoesOn : List ℕ → Ident → Place → Step → Place → Type 0
CallGoesOn s name here last there = (whole : Bool) (before paren : List Lexeme) → GoesName s name before paren
    → GoesBy OpenParen paren here.tokens → IsStep s whole last (record { tokens = before; code = here.code }) there

-- An expression was read so far, up to here: what is read there goes on with it, up to there.
abbrev pub PartGoesOn : List ℕ → Option Span → Span → Place → Step → Place → Type 0
PartGoesOn s opening span here last there = (whole : Bool) (from start : Place) → PartStart whole opening from start
    → PartRead s span start here → IsStep s whole last from there

-- An expression was read so far, up to here, and the tokens are stuck.
abbrev pub PartStuck : List ℕ → Option Span → Span → Place → Want → List Lexed → Type 0
PartStuck s opening span here want left = (whole : Bool) (from start : Place) → PartStart whole opening from start
    → PartRead s span start here → StuckFrom s whole from.tokens want left

-- An expression was read, up to these tokens, with which they do not go on: it ends there.
abbrev pub EndGoesOn : List ℕ → Option Span → Span → List Lexeme → Step → List Lexeme → Type 0
EndGoesOn s opening span here last there = (whole : Bool) (from start : Place) (code : List Instr)
    → PartStart whole opening from start → ExpressionRead s span start (record { tokens = here; code = code })
    → IsStep s whole last from (record { tokens = there; code = code })

-- An expression was read, up to these tokens, with which they do not go on, and they are stuck.
abbrev pub EndStuck : List ℕ → Option Span → Span → List Lexeme → Want → List Lexed → Type 0
EndStuck s opening span here want left = (whole : Bool) (from start : Place) (code : List Instr)
    → PartStart whole opening from start → ExpressionRead s span start (record { tokens = here; code = code })
    → StuckFrom s whole from.tokens want left

-- what is open, and was read last, goes on from here to there, wherever it is
abbrev pub ReadsOn : List ℕ → List Open → Step → Place → List Open → Step → Place → Type 0
ReadsOn s old last here new next there = (from : Place) → AreRead s old last from here → AreRead s new next from there

-- from wherever an expression may start there, the tokens are stuck
abbrev pub ReadsStuck : List ℕ → List Open → Step → Place → Want → List Lexed → Type 0
ReadsStuck s old last here want left = (from : Place) → AreRead s old last from here
    → StuckFrom s true from.tokens want left

-- so many instructions have the first one of a list or a map, and one for each argument
abbrev pub HasInstructions : Open → ℕ → Type 0
HasInstructions (opened.List start) n = start.at < n
HasInstructions (opened.Map start key) n = start.at < n
HasInstructions (opened.Call applied) n = applied.count ≤ n
HasInstructions (opened.Paren opening) n = Unit {0}
HasInstructions (opened.Filter receiver applied) n = applied.count ≤ n

-- 1 if a step is to come, and 0 if none is
abbrev pub weight : Step → ℕ
weight (stepped.Whole span) = 0
weight other = 1
