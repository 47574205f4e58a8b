-- The pieces of a tree, in the order in which a compiler is told of them.
use Rattle.std.specs.Prelude.{◌≡◌, ◌⊎◌, List, ◌∷◌, true, Some, None}
use Rattle.upon_types.specs.Expression.{expression_span}
use Rattle.upon_types.specs.BlockKinds.{Block, if_block, if_tag, opened_kind, may_have_else, may_have_else_if}
use Rattle.upon_types.specs.Tree.{Statement, raw, inline_expr, include, block, Statements, no_statements, statement_then, Else, no_else, otherwise}
use Rattle.upon_machine_spec.specs.Code.{expression_code, emission_code}
use Rattle.upon_compiler.specs.Events.{Event, raw_event, shown_event, else_if_event, else_event, include_event, include_with_event, opening_event, end_event}

abbrev mutual
  -- the pieces up to the rest are those of a statement
  pub IsTold : Statement → List Event → List Event → Type 0
  IsTold (raw span) before rest = before ≡ raw_event span ∷ rest
  IsTold (inline_expr e span) before rest = before ≡ shown_event (emission_code e) ∷ rest
  IsTold (include word None) before rest = before ≡ include_event word ∷ rest
  IsTold (include word (Some e)) before rest = before ≡ include_with_event word (expression_code e) ∷ rest
  IsTold (block opening e body other) before rest = (mid after : List Event)
      × (before ≡ opening_event opening (expression_span e) (expression_code e) ∷ mid) × AreTold body mid after
      × IsEndTold (opened_kind opening) other after rest

  -- those of statements, one after the other
  pub AreTold : Statements → List Event → List Event → Type 0
  AreTold no_statements before rest = before ≡ rest
  AreTold (statement_then t ts) before rest = (mid : List Event) × IsTold t before mid × AreTold ts mid rest

  -- those of the other branch of a block, and its end: an `else if` is an `if` inside it, and one end closes them all
  pub IsEndTold : Block → Else → List Event → List Event → Type 0
  IsEndTold kind no_else before rest = before ≡ end_event kind ∷ rest
  IsEndTold kind (otherwise body) before rest =
      ((mid after : List Event) × (may_have_else kind ≡ true) × (before ≡ else_event ∷ mid) × AreTold body mid after
      × (after ≡ end_event kind ∷ rest))
      ⊎ ((may_have_else_if kind ≡ true) × IsElseIfTold body before rest)

  -- those of an `else if`: one `if` is all that the other branch holds
  pub IsElseIfTold : Statements → List Event → List Event → Type 0
  IsElseIfTold no_statements before rest = ⊥
  IsElseIfTold (statement_then t no_statements) before rest = IsIfAfterElseTold t before rest
  IsElseIfTold (statement_then t (statement_then u ts)) before rest = ⊥

  -- those of the `if` of an `else if`
  pub IsIfAfterElseTold : Statement → List Event → List Event → Type 0
  IsIfAfterElseTold (block (if_tag negated) e body other) before rest = (mid after : List Event)
      × (before ≡ else_if_event negated (expression_code e) ∷ mid) × AreTold body mid after
      × IsEndTold if_block other after rest
  IsIfAfterElseTold _ before rest = ⊥
