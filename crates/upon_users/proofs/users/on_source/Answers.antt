use Rattle.std.proofs.Common.{rules, ◌≡◌, ◌∙◌, ℕ, List, [], ◌∷◌, Option, Result, ap, sym, subst}
use Rattle.upon_types.specs.declared.error.Error.{Error}
use Rattle.upon_meaning_spec.specs.Outcome.{Outcome, States, states}
use Rattle.upon_vm.specs.Reports.{IsTakenError, WritesAndLeaves}
use Rattle.upon_engine.specs.Sources.{source_in}
use Rattle.upon_engine.proofs.Renderings.{on_source}
use Rattle.upon_users.proofs.users.on_source.Goals as goal

-- the first of some names
abbrev first : List ℕ → ℕ
first [] = 0
first (name ∷ names) = name

-- of a source that is left as another
left_as : {Z S : Type 0} (state : Z → S) (limit : ℕ) (IsOwn : Error → Type 0) (r : Result (Unit {0}) Error) (old new : Option (List ℕ)) (o : Outcome (States S (Unit {0}))) (s u : Z)
    → s ≡ u → WritesAndLeaves limit IsOwn r old new o (states (state u) (tt {0})) → WritesAndLeaves limit IsOwn r old new o (states (state s) (tt {0}))
left_as state limit IsOwn r old new o s u is h = subst (λ z. WritesAndLeaves limit IsOwn r old new o (states (state z) (tt {0}))) (sym is) h

pub returns-clause-means : goal.returns-clause-means
returns-clause-means g c =
    let made = c.render_from_fn.ensures in
    let done = c.to_output_and_sources-result in
    let back = c.into_source-source in
    let given = g.O.Output.given in
    let state = g.S.ValueSource.value_state in
    let there = (source_in done.result.1).now in
    let Says : ℕ → Outcome (States g.S.ValueSource.State (Unit {0})) → Type 0 =
    λ limit o. WritesAndLeaves limit (IsTakenError (g.O.Output.mark done.new.out)) done.result.0 (given c.args.out.now) (given done.new.out) o (states (state there) (tt {0})) in
    let said = on_source _ _ Says (λ s. g.S.ValueSource.ask s.now) (λ s. state s.now) c.render_from_fn.result _ _ _ _ _ made.engine made.templates made.template made.name made.limit made.source done.ensures.means in
    let taken_out = left_as state _ _ _ _ _ _ back.result.now there (ap (λ s. s.now) back.ensures) said in
    let own = sym (ap (λ s. s.ghost_name) back.ensures ∙ ap first done.ensures.held ∙ ap (λ s. s.ghost_name) made.source) in
    left_as state _ _ _ _ _ _ _ back.result.now (search rules) taken_out
