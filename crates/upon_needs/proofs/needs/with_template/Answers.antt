use Rattle.std.proofs.Common.{rules, arith, ℕ, List, ◌≡◌, ◌<◌, ◌++◌, ◌∷◌, ◌∙◌, [], true, false, refl, length, take, get_or, is_some, sym, subst}
use Rattle.std.proofs.lemmas.List.{take_all, take_more}
use Rattle.std.proofs.lemmas.Result.{IfOk-weaker}
use Rattle.std.specs.BTreeMap.{get_by_text}
use Rattle.std.specs.Cmp.{booleans_Decides}
use Rattle.upon_engine.specs.Engine.{table_in}
use Rattle.upon_engine.specs.Template.{template_of}
use Rattle.upon_needs.proofs.NeededNames.{Chosen, chosen_no, chosen_none, chosen_yes}
use Rattle.upon_needs.proofs.SearchSteps.{nothing_seen, shown_or_not}
use Rattle.upon_needs.proofs.SetsOfNames.{puts_one}
use Rattle.upon_needs.proofs.needs.with_template.Goals as goal
use Rattle.upon_needs.proofs.needs.with_template.Goals.{then-contains_key-have+in_ok-insert, else-contains_key-have}

pub loop-name-init : goal.loop-name-init
loop-name-init c = chosen_none (λ name. is_some (table_in c.args.templates.now name) ≡ c.args.have) c.new-chosen.result (nothing_seen c.new-chosen.result c.new-chosen.ensures.empty)

pub loop-name-preserved : goal.loop-name-preserved
loop-name-preserved c =
    let names = c.args.names.now in
    let at = c.loop-name.name-index in
    let one = get_or names at (record { ref_ptr = (0, 0); now = [] }) in
    let P : List ℕ → Type 0 = λ name. is_some (table_in c.args.templates.now name) ≡ c.args.have in
    let inside : at < length names = search rules in
    let held : is_some (table_in c.args.templates.now one.now) ≡ c.contains_key.result = shown_or_not template_of (get_by_text c.args.templates.now one.now) ∙ sym c.contains_key.ensures in
    let same = booleans_Decides c.contains_key.result c.args.have in
    let to_here = take at names ++ one ∷ [] in
    subst (λ l. Chosen P c.if-contains_key-have.chosen l) (sym (take_more names at _ inside)) (
    elim c.if-contains_key-have.branch [
      | then-contains_key-have+in_ok-insert w ↦
          let puts = puts_one c.loop-name.chosen w.insert.new.self one w.in_ok-insert.ensures.updates in
          subst (λ s. Chosen P s to_here) (sym w.chosen-is) (chosen_yes P c.loop-name.chosen w.insert.new.self (take at names) one c.loop-name.invariant puts (held ∙ same.0 w.if-contains_key-have.true))
      | else-contains_key-have w ↦
          let not_so : P one.now → ⊥ = λ p. let never : false ≡ true = sym w.if-contains_key-have.false ∙ same.1 (sym held ∙ p) in absurd (cc) in
          subst (λ s. Chosen P s to_here) (sym w.chosen-is) (chosen_no P c.loop-name.chosen c.loop-name.chosen (take at names) one c.loop-name.invariant (λ _. refl) not_so)
    ]
    )

pub returns-clause-same : goal.returns-clause-same
returns-clause-same c =
    let P : List ℕ → Type 0 = λ name. is_some (table_in c.args.templates.now name) ≡ c.args.have in
    let whole : take c.loop-name.name-index c.args.names.now ≡ c.args.names.now = take_all c.loop-name.name-index c.args.names.now (omega (arith, c.loop-name-test.false)) in
    let chosen : Chosen P c.loop-name.chosen c.args.names.now = subst (λ l. Chosen P c.loop-name.chosen l) whole c.loop-name.invariant in
    IfOk-weaker c.ascending.result _ _ (λ v same name. (λ h. (chosen name).0 ((same name).0 h), λ h. (same name).1 ((chosen name).1 h))) c.ascending.ensures.same
