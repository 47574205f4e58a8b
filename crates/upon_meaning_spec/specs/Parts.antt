-- The raw parts that a template can show, and the formatters that it can call: its own, and those of the templates
-- that it reaches.
use Rattle.std.specs.Prelude.{◌≡◌, ℕ, List, [], ◌∷◌, ◌⊎◌, Some, Bool, true, false}
use Rattle.upon_types.specs.declared.types.Span.{Span}
use Rattle.upon_types.specs.Answers.{Formatter, formatter}
use Rattle.upon_types.specs.Expression.{Expression, base, filtered, Base, var, literal, list, mapping, paren, call}
use Rattle.upon_types.specs.BlockKinds.{opened_kind, may_have_else}
use Rattle.upon_types.specs.Tree.{Statement, raw, inline_expr, include, block, Statements, no_statements, statement_then, Else, no_else, otherwise}
use Rattle.upon_types.specs.Val.{Val}
use Rattle.upon_lookup.specs.Source.{says}
use Rattle.upon_meaning_spec.specs.Engine.{Template, Calls, Resolver}
use Rattle.upon_meaning_spec.specs.Includes.{Includes}
use Rattle.upon_meaning_spec.specs.Meaning.{RunningTemplate}
use Rattle.upon_meaning_spec.specs.Pieces.{TextPiece, raw_part, written, joined}

-- a raw part of the tree is at this span
abbrev mutual
  -- a raw part of a statement is at this span
  pub StatementHasRaw : Span → Statement → Type 0
  StatementHasRaw at (raw span) = span ≡ at
  StatementHasRaw at (inline_expr e span) = ⊥
  StatementHasRaw at (include word value) = ⊥
  StatementHasRaw at (block opening e body other) =
      HasRaw at body ⊎ ElseHasRaw at other (may_have_else (opened_kind opening))

  -- a raw part of statements is at this span
  pub HasRaw : Span → Statements → Type 0
  HasRaw at no_statements = ⊥
  HasRaw at (statement_then t ts) = StatementHasRaw at t ⊎ HasRaw at ts

  -- a raw part of the other branch of a block is at this span
  pub ElseHasRaw : Span → Else → Bool → Type 0
  ElseHasRaw at no_else may = ⊥
  ElseHasRaw at (otherwise body) false = ⊥
  ElseHasRaw at (otherwise body) true = HasRaw at body

-- what the expression gives is written by the formatter of this name, if the name is a formatter's
abbrev mutual
  -- what an expression gives is written by the formatter of this name, if the name is a formatter's
  pub WritesBy : List ℕ → Expression → Type 0
  WritesBy name (base b) = BaseWritesBy name b
  WritesBy name (filtered receiver word args span) = word.text ≡ name

  -- what an expression without a filter gives is written by the formatter of this name, if the name is a formatter's
  pub BaseWritesBy : List ℕ → Base → Type 0
  BaseWritesBy name (paren e span) = WritesBy name e
  BaseWritesBy name (call word args span) = word.text ≡ name
  BaseWritesBy name (var first rest) = ⊥
  BaseWritesBy name (literal v span) = ⊥
  BaseWritesBy name (list bases span) = ⊥
  BaseWritesBy name (mapping items span) = ⊥

-- a tag of the tree names this as its formatter
abbrev mutual
  -- a tag of a statement names this as its formatter
  pub StatementNames : List ℕ → Statement → Type 0
  StatementNames name (raw span) = ⊥
  StatementNames name (inline_expr e span) = WritesBy name e
  StatementNames name (include word value) = ⊥
  StatementNames name (block opening e body other) =
      NamesFormatter name body ⊎ ElseNames name other (may_have_else (opened_kind opening))

  -- a tag of statements does
  pub NamesFormatter : List ℕ → Statements → Type 0
  NamesFormatter name no_statements = ⊥
  NamesFormatter name (statement_then t ts) = StatementNames name t ⊎ NamesFormatter name ts

  -- a tag of the other branch of a block does
  pub ElseNames : List ℕ → Else → Bool → Type 0
  ElseNames name no_else may = ⊥
  ElseNames name (otherwise body) false = ⊥
  ElseNames name (otherwise body) true = NamesFormatter name body

-- the template itself, and each one that is answered for the name of an include in one of these
pub data Reached {T : Type 0} (resolve : Resolver T) (t : Template) : Template → Type 0 where
  itself : Reached resolve t t
  included_by : (by u : Template) (name : List ℕ) (q : T) → Reached resolve t by → Includes name by.tree
      → (resolve q name).answer ≡ says u → Reached resolve t u

-- a raw part of a template that is reached and runs
pub record IsRawPart {T : Type 0} (resolve : Resolver T) (t : Template) (from : RunningTemplate)
    (span : Span) : Type 0 where
  pub template : Template
  pub reached : Reached resolve t template
  pub runs : from.source ≡ template.source
  pub raw_at : HasRaw span template.tree

-- the default formatter, and each formatter that a template that is reached names
pub data CanFormat {V T : Type 0} (calls : Calls V) (resolve : Resolver T) (t : Template) : Formatter → Type 0 where
  by_default : CanFormat calls resolve t calls.default_formatter
  by_name : (u : Template) (name : List ℕ) (f : Formatter) → Reached resolve t u → NamesFormatter name u.tree
      → calls.callables name ≡ Some (formatter f) → CanFormat calls resolve t f

-- a raw part of the template or of one that it reaches, or what the default formatter, or one that they name, wrote
abbrev pub IsPieceOf : {V T : Type 0} → Calls V → Resolver T → Template → TextPiece → Type 0
IsPieceOf calls resolve t (raw_part from span) = IsRawPart resolve t from span
IsPieceOf calls resolve t (written format v) = CanFormat calls resolve t format

-- each of the pieces
abbrev pub Each : (TextPiece → Type 0) → List TextPiece → Type 0
Each P [] = Unit {0}
Each P (p ∷ ps) = P p × Each P ps

-- The text is these pieces joined, in their order. Each is a raw part of the template or of one that it reaches, or
-- what the default formatter, or one that they name, wrote for a value.
pub record WovenOf {V T : Type 0} (calls : Calls V) (resolve : Resolver T) (t : Template) (pieces : List TextPiece)
    (text : List ℕ) : Type 0 where
  pub joins : text ≡ joined pieces
  pub parts : Each (IsPieceOf calls resolve t) pieces

-- if the piece was written for a value, its text is such a text
abbrev pub WroteSuch : (List ℕ → Type 0) → TextPiece → Type 0
WroteSuch P (raw_part from span) = Unit {0}
WroteSuch P (written format v) = P (format v).text

-- each formatter that can be called writes only such texts
abbrev pub WritesOnly : {V T : Type 0} → Calls V → Resolver T → Template → (List ℕ → Type 0) → Type 0
WritesOnly calls resolve t P = (f : Formatter) → CanFormat calls resolve t f → (v : Val) → P (f v).text
