-- What is sure to be shown ends well.
use Rattle.std.proofs.Common.{◌≡◌, List, [], ◌∷◌, true, Option, Some, None, refl}
use Rattle.upon_types.specs.Answers.{FormatEnd, well, refused, Formatter, Callable, formatter, function}
use Rattle.upon_types.specs.declared.types.Span.{Span}
use Rattle.upon_types.specs.Expression.{Expression, base, filtered, Base, var, literal, list, mapping, paren, call}
use Rattle.upon_types.specs.Path.{Ident}
use Rattle.upon_types.specs.Val.{Val, none_val, bool_val, int_val, text_val, list_val, map_val}
use Rattle.upon_lookup.specs.Environment.{Environment}
use Rattle.upon_lookup.specs.Finding.{Finding, found, at_fault, Reply}
use Rattle.upon_meaning_spec.specs.DefaultFormat.{default_format}
use Rattle.upon_meaning_spec.specs.Emission.{Emission, end_of, format_outcome, or_fault, formatter_outcome, callable_outcome, emit_call, emit_value, emit, emit_base}
use Rattle.upon_meaning_spec.specs.Engine.{Calls}
use Rattle.upon_meaning_spec.specs.Evaluation.{Operand, values_of, answer_value, append_operand, evaluate, evaluate_base, evaluate_arguments}
use Rattle.upon_shape_spec.specs.Declared.{DeclaredCallable, gives_by, formats, Declared, FormatsEach, CallableKeeps, KeepsDeclared}
use Rattle.upon_shape_spec.specs.Ends.{EndsWell}
use Rattle.upon_shape_spec.specs.ExpressionShapes.{shape_then, is_taken, is_formatted, shows_given, shows_call, expression_shape, base_shape, arguments_shapes, is_shown, base_is_shown}
use Rattle.upon_shape_spec.specs.Fits.{Fits, AllFit}
use Rattle.upon_shape_spec.specs.Found.{Finds, FindsShape, ComesTo}
use Rattle.upon_shape_spec.specs.Scope.{Scope, ScopeFits}
use Rattle.upon_shape_spec.specs.Shape.{Shape, shown_values}
use Rattle.upon_shape_spec.specs.Wider.{wider}
use Rattle.upon_shape_spec.proofs.ExpressionsFit.{AllCome, answer_finds, then_come, expression_comes, base_comes, arguments_come}
use Rattle.upon_shape_spec.proofs.Widths.{wider_fits}

well_end : (x : FormatEnd) (at : Span) → x ≡ well → EndsWell (end_of x at)
well_end well at e = tt
well_end (refused message) at e = absurd (cc)

emitted : {A : Type 0} (P : A → Type 0) (x : Finding A) (go : A → Emission) → Finds P x → ((a : A) → P a → EndsWell (go a).end) → EndsWell (or_fault x go).end
emitted P (found a) go h k = k a h
emitted P (at_fault f) go h k = absurd h

formatted : (f : Formatter) (name : Ident) (s : Shape) (shapes : List Shape) (os : List Operand) → FormatsEach f s → is_formatted s shapes ≡ true → AllFit shapes (values_of os) → EndsWell (formatter_outcome f name os).end
formatted f name s [] os keeps e h = absurd (cc)
formatted f name s (t ∷ []) [] keeps e h = absurd h
formatted f name s (t ∷ []) (o ∷ []) keeps e h = well_end (f o.value).end name.span (keeps o.value (wider_fits s t o.value e h.0))
formatted f name s (t ∷ []) (o ∷ next ∷ os) keeps e h = absurd h.1
formatted f name s (t ∷ next ∷ ts) os keeps e h = absurd (cc)

module _ {V : Type 0} (calls : Calls V) (declared : Declared) (keeps : KeepsDeclared declared calls.callables calls.default_formatter) where
  default_well : (s : Shape) (v : Val) (at : Span) → wider declared.default_formats s ≡ true → Fits s v → EndsWell (format_outcome (calls.default_formatter v) at).end
  default_well s v at e h = well_end (calls.default_formatter v).end at (keeps.default_formatter v (wider_fits declared.default_formats s v e h))

  value_well : (o : Option Shape) (r : Reply V (Finding Operand)) → is_taken declared.default_formats o ≡ true → ComesTo o r.answer → EndsWell (emit_value calls r).end
  value_well None r e h = absurd (cc)
  value_well (Some s) r e h = emitted (λ (o : Operand). Fits s o.value) r.answer _ h (λ o x. default_well s o.value o.span e x)

  taken_well : (o : Option Shape) (x : Finding Val) (at : Span) → is_taken declared.default_formats o ≡ true → FindsShape o x → EndsWell (or_fault x (λ v. format_outcome (calls.default_formatter v) at)).end
  taken_well None x at e h = absurd (cc)
  taken_well (Some s) x at e h = emitted (Fits s) x _ h (λ v k. default_well s v at e k)

  given_well : (name : Ident) (whole : Span) (os : List Operand) (shapes : List Shape) (d : Option DeclaredCallable) (c : Option Callable) → CallableKeeps d c → shows_given declared.default_formats d shapes ≡ true → AllFit shapes (values_of os) → EndsWell (callable_outcome calls.default_formatter name whole os c).end
  given_well name whole os shapes None c keep e h = absurd (cc)
  given_well name whole os shapes (Some d) None keep e h = absurd keep
  given_well name whole os shapes (Some (gives_by given)) (Some (function f)) keep e h = taken_well (given shapes) (answer_value name name.span os (f (values_of os))) whole e (answer_finds name name.span os (given shapes) (f (values_of os)) (keep shapes (values_of os) h))
  given_well name whole os shapes (Some (gives_by given)) (Some (formatter f)) keep e h = absurd keep
  given_well name whole os shapes (Some (formats s)) (Some (function f)) keep e h = absurd keep
  given_well name whole os shapes (Some (formats s)) (Some (formatter f)) keep e h = formatted f name s shapes os keep e h

  call_well : (name : Ident) (whole : Span) (ss : Option (List Shape)) (r : Reply V (Finding (List Operand))) → shows_call declared.default_formats (declared.callables name.text) ss ≡ true → AllCome ss r.answer → EndsWell (emit_call calls name whole r).end
  call_well name whole None r e h = absurd (cc)
  call_well name whole (Some ss) r e h = emitted (λ (os : List Operand). AllFit ss (values_of os)) r.answer _ h (λ os x. given_well name whole os ss (declared.callables name.text) (calls.callables name.text) (keeps.each name.text) e x)

  module _ (scope : Scope) (env : Environment) (fits : ScopeFits scope env) where
    mutual
      pub emission_well : (e : Expression) (q : V) → is_shown declared scope e ≡ true → EndsWell (emit calls e env q).end
      emission_well (base b) q h = base_well b q h
      emission_well (filtered receiver name args span) q h =
          call_well name span (shape_then (expression_shape declared scope receiver) (arguments_shapes declared scope args)) (append_operand (evaluate calls receiver env q) (evaluate_arguments calls args env)) h
          (then_come (expression_shape declared scope receiver) (arguments_shapes declared scope args) (evaluate calls receiver env q) (evaluate_arguments calls args env) (expression_comes calls declared keeps scope env fits receiver q) (λ q'. arguments_come calls declared keeps scope env fits args q'))

      base_well : (b : Base) (q : V) → base_is_shown declared scope b ≡ true → EndsWell (emit_base calls b env q).end
      base_well (paren e span) q h = emission_well e q h
      base_well (call name args span) q h = call_well name span (arguments_shapes declared scope args) (evaluate_arguments calls args env q) h (arguments_come calls declared keeps scope env fits args q)
      base_well (var first rest) q h = value_well (base_shape declared scope (var first rest)) (evaluate_base calls (var first rest) env q) h (base_comes calls declared keeps scope env fits (var first rest) q)
      base_well (literal v span) q h = value_well (base_shape declared scope (literal v span)) (evaluate_base calls (literal v span) env q) h (base_comes calls declared keeps scope env fits (literal v span) q)
      base_well (list bases span) q h = value_well (base_shape declared scope (list bases span)) (evaluate_base calls (list bases span) env q) h (base_comes calls declared keeps scope env fits (list bases span) q)
      base_well (mapping items span) q h = value_well (base_shape declared scope (mapping items span)) (evaluate_base calls (mapping items span) env q) h (base_comes calls declared keeps scope env fits (mapping items span) q)

-- the default formatter, where none is set
pub default_each : FormatsEach default_format shown_values
default_each none_val h = refl
default_each (bool_val b) h = refl
default_each (int_val n) h = refl
default_each (text_val bytes) h = refl
default_each (list_val vs) h = absurd h
default_each (map_val es) h = absurd h
