-- What each call of rendering keeps, by the laws of what templates mean.
use Rattle.std.proofs.Common.{◌≡◌, ◌≢◌, ◌≤◌, ◌<◌, ℕ, List, refl, sym, ap, ◌∙◌, subst}
use Rattle.upon_types.specs.Val.{map_val}
use Rattle.upon_lookup.specs.Environment.{context}
use Rattle.upon_meaning_spec.specs.Alone.{includes_left}
use Rattle.upon_meaning_spec.specs.Engine.{Table, Resolver, from_table}
use Rattle.upon_meaning_spec.specs.GreaterDepth.{GoesOn}
use Rattle.upon_meaning_spec.specs.Includes.{Reaches, IsNumbered}
use Rattle.upon_meaning_spec.specs.Names.{AgreeOn}
use Rattle.upon_meaning_spec.specs.Outcome.{fails, too_deep}
use Rattle.upon_meaning_spec.proofs.DeeperMeaning.{greater_depth}
use Rattle.upon_meaning_spec.proofs.IncludedAlone.{included_of_depth}
use Rattle.upon_meaning_spec.proofs.NamesRead.{names_read, templates_reached}
use Rattle.upon_meaning_spec.proofs.NotTooDeep.{is_not_too_deep}
use Rattle.upon_meaning_spec.proofs.NumberedDepth.{numbered_over_table}
use Rattle.upon_meaning_spec.proofs.UnaskedMeaning.{values_stay}
use Rattle.upon_meaning_spec.proofs.PiecesOf.{within_woven}
use Rattle.upon_engine.specs.Base.{ContextBase, on_root, no_value}
use Rattle.upon_engine.specs.Calls.{Call, outcome, at_depth, answered_by, on_base}
use Rattle.upon_engine.specs.KeepsLaws.{DepthsAgree, NumbersSuffice, IncludesAlone, NamesSuffice, TemplatesSuffice, SourceStays, IsWoven, KeepsLaws}

module _ {V T : Type 0} (c : Call V T) where
  -- the laws that speak of each base
  goes_on : (base : ContextBase) (a b : ℕ) → a ≤ b → GoesOn (outcome (on_base base (at_depth a c))) (outcome (on_base base (at_depth b c)))
  goes_on (on_root root) a b le = greater_depth c.rendering a b c.template c.name root c.from le
  goes_on (no_value f) a b le = record { same = λ _. refl; begins = λ is. absurd (is_not_too_deep (fails f) tt is) }

  never_too_deep : (base : ContextBase) (table : Table) (number : List ℕ → ℕ) (k : ℕ) → IsNumbered table number c.template.tree k → k < c.rendering.limit → (outcome (on_base base (answered_by (from_table table) c))).end ≢ too_deep
  never_too_deep (on_root root) table number k numbered below = numbered_over_table c.rendering.calls table c.rendering.limit number k c.template c.name root c.from numbered below
  never_too_deep (no_value f) table number k numbered below = is_not_too_deep (fails f) tt

  same_reached : (base : ContextBase) (these those : Table) → AgreeOn (Reaches these c.template.tree) these those → outcome (on_base base (answered_by (from_table these) c)) ≡ outcome (on_base base (answered_by (from_table those) c))
  same_reached (on_root root) these those agree = templates_reached c.rendering.calls c.template c.name c.rendering.limit these those root c.from agree
  same_reached (no_value f) these those agree = refl

  depths_agree : DepthsAgree c
  depths_agree = goes_on c.base

  numbers_suffice : NumbersSuffice c
  numbers_suffice table number k resolves numbered below =
      let F : Resolver T → Type 0 = λ r. (outcome (answered_by r c)).end ≢ too_deep in
      subst F (sym resolves) (never_too_deep c.base table number k numbered below)

  includes_alone : IncludesAlone c
  includes_alone = included_of_depth c.rendering

  by_table : (resolve : Resolver T) → c.rendering.resolve ≡ resolve → outcome c ≡ outcome (answered_by resolve c)
  by_table resolve e = ap (λ r. outcome (answered_by r c)) e

  names_suffice : NamesSuffice c
  names_suffice table these those resolves is agree =
      by_table (from_table table) resolves ∙
      ap (λ base. outcome (on_base base (answered_by (from_table table) c))) is ∙
      names_read c.rendering.calls c.template c.name c.rendering.limit table these those c.from agree ∙
      ap (λ r. outcome (on_base (on_root (context (map_val those))) (answered_by r c))) (sym resolves)

  templates_suffice : TemplatesSuffice c
  templates_suffice these those resolves agree = by_table (from_table these) resolves ∙ same_reached c.base these those agree

  source_stays : SourceStays c
  source_stays v is =
      ap (λ base. (outcome (on_base base c)).next.values) is ∙
      values_stay c.rendering.calls c.rendering.resolve (includes_left c.rendering.limit) c.template c.name v c.from

  woven_over : (base : ContextBase) → IsWoven (on_base base c)
  woven_over (on_root root) = within_woven c.rendering.calls c.rendering.resolve c.template (includes_left c.rendering.limit) c.name root c.from
  woven_over (no_value f) = record { joins = refl; parts = tt }

  pub kept : KeepsLaws c
  kept = record { depths = depths_agree; numbered = numbers_suffice; isolated = includes_alone; names_read = names_suffice; reached = templates_suffice; source_stays = source_stays; woven = woven_over c.base }
