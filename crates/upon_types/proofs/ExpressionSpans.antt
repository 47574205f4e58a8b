-- What holds of each span in an expression holds of the expression's own span.
use Rattle.std.proofs.Common.{List, [], ◌∷◌}
use Rattle.upon_types.specs.declared.types.Span.{Span}
use Rattle.upon_types.specs.Expression.{Expression, base, filtered, Base, var, literal, list, mapping, paren, call, base_span, expression_span}
use Rattle.upon_types.specs.Path.{Member, last_member, path_span}
use Rattle.upon_types.specs.Span.{combine}
use Rattle.upon_types.specs.TreeSpans.{StepSpans, StepsSpans, ExpressionSpans, BaseSpans}

-- it holds of the least span that covers two, where it holds of both
abbrev pub Covers : (Span → Type 0) → Type 0
Covers P = (a b : Span) → P a → P b → P (combine a b)

module _ (P : Span → Type 0) where
  last_place : (first : Member) (rest : List Member) → StepSpans P first → StepsSpans P rest → P (last_member first rest).span
  last_place first [] h k = h.0
  last_place first (step ∷ steps) h k = last_place step steps k.0 k.1

  module _ (covers : Covers P) where
    pub path_place : (first : Member) (rest : List Member) → StepSpans P first → StepsSpans P rest → P (path_span first rest)
    path_place first rest h k = covers first.span (last_member first rest).span h.0 (last_place first rest h k)

    base_place : (b : Base) → BaseSpans P b → P (base_span b)
    base_place (var first rest) h = path_place first rest h.0 h.1
    base_place (literal v span) h = h
    base_place (list bases span) h = h.1
    base_place (mapping items span) h = h.1
    base_place (paren e span) h = h.1
    base_place (call name args span) h = h.2

    pub expression_place : (e : Expression) → ExpressionSpans P e → P (expression_span e)
    expression_place (base b) h = base_place b h
    expression_place (filtered receiver name args span) h = h.3
