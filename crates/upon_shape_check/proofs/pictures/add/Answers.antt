use Rattle.std.proofs.Common.{◌-◌, List, ℕ, inl, inr, refl, subst, ap, sym, ◌∙◌}
use Rattle.std.specs.Str.Iter.{HasSubslice}
use Rattle.std.proofs.lemmas.Bool.{false≢true}
use Rattle.std.proofs.lemmas.Str.Pattern.{contains_text}
use Rattle.upon_shape_check.proofs.Showing.{ok_then, shown_as}
use Rattle.upon_shape_check.proofs.pictures.add.Goals as goal

pub returns-then-contains : goal.returns-then-contains
returns-then-contains c =
    let both = contains_text _ _ _ c.contains.ensures.cases in
    inl (subst (λ (text : List ℕ). HasSubslice text c.args.picture.now) c.deref.ensures (both.0 c.if-contains.true), refl)

pub returns : goal.returns
returns c =
    let both = contains_text _ _ _ c.contains.ensures.cases in
    ok_then c.append.result _ _ c.append.ensures (λ is. inr (
      λ has. false≢true (sym c.if-contains.false ∙ both.1 (subst (λ (text : List ℕ). HasSubslice text c.args.picture.now) (sym c.deref.ensures) has)),
      ap (λ (text : List ℕ). shown_as (c.args.pictures.now.left - 1) text) is,
    ))
