-- The pieces of an `if` whose other case is an `if`: written with an `else if`, and with an `else`.
use Rattle.std.proofs.Common.{Bool, List, [], ◌∷◌, true, false, inl, inr, refl}
use Rattle.upon_types.specs.BlockKinds.{if_block, if_tag}
use Rattle.upon_types.specs.Expression.{Expression, expression_span}
use Rattle.upon_types.specs.Tree.{Statements, if_else, no_else, no_statements, otherwise, raw, statement_then}
use Rattle.upon_types.specs.declared.types.Span.{Span}
use Rattle.upon_machine_spec.specs.Code.{expression_code}
use Rattle.upon_compiler.specs.Events.{Event, else_event, else_if_event, end_event, opening_event, raw_event}
use Rattle.upon_compiler.specs.Told.{AreTold}

-- the first tag of an `if`
abbrev begun : Bool → Expression → Event
begun negated e = opening_event (if_tag negated) (expression_span e) (expression_code e)

module _ (a b : Expression) (x y : Span) where
  -- `{% if a %}x{% else %}{% if not b %}y{% endif %}{% endif %}`
  abbrev tree : Statements
  tree =
      let inner : Statements = statement_then (if_else true b (statement_then (raw y) no_statements) no_else) no_statements in
      statement_then (if_else false a (statement_then (raw x) no_statements) (otherwise inner)) no_statements

  -- as it stands there
  abbrev with_else : List Event
  with_else =
      begun false a ∷ raw_event x ∷ else_event ∷ begun true b ∷ raw_event y ∷ end_event if_block ∷ end_event if_block ∷ []

  pub else_told : AreTold tree with_else []
  else_told = (_, (_, _, refl, (_, refl, refl), inl (_, _, refl, refl, (_, (_, _, refl, (_, refl, refl), refl), refl), refl)), refl)

  -- `{% if a %}x{% else if not b %}y{% endif %}`
  abbrev with_else_if : List Event
  with_else_if = begun false a ∷ raw_event x ∷ else_if_event true (expression_code b) ∷ raw_event y ∷ end_event if_block ∷ []

  pub else_if_told : AreTold tree with_else_if []
  else_if_told = (_, (_, _, refl, (_, refl, refl), inr (refl, (_, _, refl, (_, refl, refl), refl))), refl)
