use Rattle.std.proofs.Common.{◌≡◌, List, [], ◌∷◌, length, refl, sym, ap, ◌∙◌, arith, rules, subst}
use Rattle.std.specs.Prelude.{slice_index_or}
use Rattle.std.proofs.lemmas.List.{length-map}
use Rattle.upon_functions.specs.Says.{arguments_view}
use Rattle.upon_fmt.specs.Formatter.{Formats}
use Rattle.upon_types.specs.Cow.{cow_view}
use Rattle.upon_types.specs.Val.{Val}
use Rattle.upon_types.specs.View.{view}
use Rattle.upon_types.specs.declared.value.cow.ValueCow.{ValueCow}
use Rattle.upon_engine.proofs.callables.RefEngineCallables.apply.Goals as goal

-- the only argument is the first
only_argument : (vs : List ValueCow) (d : ValueCow) (v : Val) → length vs ≡ 1 → v ≡ cow_view (slice_index_or vs 0 d) → arguments_view vs ≡ v ∷ []
only_argument [] d v one is = absurd (omega (arith, one))
only_argument (w ∷ []) d v one is = ap (λ u. u ∷ []) (sym is)
only_argument (w ∷ x ∷ vs) d v one is = absurd (omega (arith, one))

pub returns-then-values-ne1 : goal.returns-then-values-ne1
returns-then-values-ne1 g c =
    let f = c.in-Some-Formatter.formatter in (
      (goal.Format-dyn g (f.vtable, f.value)).formats f.value,
      rw (← c.callable.ensures, c.in-Some-Formatter.is, c.in-Some-Formatter.field-0-is) refl,
      λ one. c.if-values-ne1.true (sym (length-map c.args.values.now cow_view) ∙ one),
      refl,
    )

pub returns-else-values-ne1 : goal.returns-else-values-ne1
returns-else-values-ne1 g c =
    let f = c.in-Some-Formatter.formatter in (
      (goal.Format-dyn g (f.vtable, f.value)).formats f.value,
      _,
      rw (← c.callable.ensures, c.in-Some-Formatter.is, c.in-Some-Formatter.field-0-is) refl,
      only_argument c.args.values.now _ _ c.if-values-ne1.false (c.deref.ensures ∙ ap cow_view c.index-values-0.is),
      subst (λ w. Formats c.args.f.now c.format.new.f c.format.result ((goal.Format-dyn g w).formats w.1 (view c.deref.result.now))) (search rules) c.format.ensures,
    )
