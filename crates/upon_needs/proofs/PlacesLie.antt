-- The places of a template's calls and includes lie in its text.
use Rattle.std.proofs.Common.{◌≡◌, ◌∙◌, ℕ, zero, suc, List, [], ◌∷◌, map, Option, Some, None, option_map, slice_get, subst, ap}
use Rattle.std.specs.List.{cons_option}
use Rattle.std.proofs.lemmas.Option.{slice_get-map}
use Rattle.upon_types.specs.Path.{Ident}
use Rattle.upon_types.specs.Span.{LiesIn}
use Rattle.upon_types.specs.declared.types.Span.{Span}
use Rattle.upon_types.proofs.CombinedSpans.{combined_lies_in}
use Rattle.upon_machine_spec.specs.Code.{program_of}
use Rattle.upon_machine_spec.specs.Instr.{Instr, emit_with, include, include_with, apply}
use Rattle.upon_machine_spec.specs.Spans.{CodeSpans, InstrSpans}
use Rattle.upon_machine_spec.proofs.FaultsLie.Code.{program_spans}
use Rattle.upon_engine.specs.Template.{template_source, template_tree}
use Rattle.upon_engine.specs.declared.template.Template.{Template}
use Rattle.upon_engine.proofs.TemplateSpans.{template_lies}
use Rattle.upon_needs.specs.Places.{call_at, called, calls_in, include_at, included_name, includes_in, CallsLie, IncludesLie}
use Rattle.upon_needs.specs.declared.places.CallPlace.{CallPlace}
use Rattle.upon_needs.specs.declared.places.IncludePlace.{IncludePlace}

-- what is picked out of some items has spans that are right, if that of each item has
module _ {Y : Type 0} (P : Span → Type 0) (span_of : Y → Span) where
  abbrev EachAt : List Y → Type 0
  EachAt ys = (i : ℕ) (y : Y) → slice_get ys i ≡ Some y → P (span_of y)

  none_at : EachAt []
  none_at i y is = absurd cc

  one_more : (o : Option Y) (ys : List Y) → ((y : Y) → o ≡ Some y → P (span_of y)) → EachAt ys → EachAt (cons_option o ys)
  one_more None ys own more i y is = more i y is
  one_more (Some x) ys own more zero y is = own y is
  one_more (Some x) ys own more (suc i) y is = more i y is

  each_mapped : {X : Type 0} (f : X → Y) (xs : List X) (ys : List Y) → map f xs ≡ ys → EachAt ys → (i : ℕ) (x : X) → slice_get xs i ≡ Some x → P (span_of (f x))
  each_mapped f xs ys same each i x is = each i (f x) (subst (λ l. slice_get l i ≡ Some (f x)) same (slice_get-map f xs i ∙ ap (option_map f) is))

-- of an instruction, and of each of a program
module _ (P : Span → Type 0) where
  call_span : (i : Instr) → InstrSpans P i → (call : Ident × ℕ) → called i ≡ Some call → P call.0.span
  call_span (emit_with name n span) h call is = let same : (name, n) ≡ call = cc in subst (λ call. P call.0.span) same h.0
  call_span (apply name n span) h call is = let same : (name, n) ≡ call = cc in subst (λ call. P call.0.span) same h.0
  call_span i h call is = absurd cc

  calls_at : (code : List Instr) → CodeSpans P code → EachAt P (λ call. call.0.span) (calls_in code)
  calls_at [] h = none_at P (λ call. call.0.span)
  calls_at (i ∷ code) h = one_more P (λ call. call.0.span) (called i) (calls_in code) (call_span i h.0) (calls_at code h.1)

  include_span : (i : Instr) → InstrSpans P i → (word : Ident) → included_name i ≡ Some word → P word.span
  include_span (include name) h word is = let same : name ≡ word = cc in subst (λ word. P word.span) same h
  include_span (include_with name) h word is = let same : name ≡ word = cc in subst (λ word. P word.span) same h
  include_span i h word is = absurd cc

  includes_at : (code : List Instr) → CodeSpans P code → EachAt P (λ word. word.span) (includes_in code)
  includes_at [] h = none_at P (λ word. word.span)
  includes_at (i ∷ code) h = one_more P (λ word. word.span) (included_name i) (includes_in code) (include_span i h.0) (includes_at code h.1)

-- the spans of a template's program lie in its text
code_lies : (t : Template) → CodeSpans (LiesIn (template_source t)) (program_of (template_tree t))
code_lies t = program_spans (LiesIn (template_source t)) (combined_lies_in (template_source t)) (template_tree t) (template_lies t)

pub calls_lie : (t : Template) (places : List CallPlace) → map call_at places ≡ calls_in (program_of (template_tree t)) → CallsLie (template_source t) places
calls_lie t places same =
    each_mapped (LiesIn (template_source t)) (λ call. call.0.span) call_at places (calls_in (program_of (template_tree t))) same (calls_at (LiesIn (template_source t)) (program_of (template_tree t)) (code_lies t))

pub includes_lie : (t : Template) (places : List IncludePlace) → map include_at places ≡ includes_in (program_of (template_tree t)) → IncludesLie (template_source t) places
includes_lie t places same =
    each_mapped (LiesIn (template_source t)) (λ word. word.span) include_at places (includes_in (program_of (template_tree t))) same (includes_at (LiesIn (template_source t)) (program_of (template_tree t)) (code_lies t))
