-- The course of a machine's run: what comes out of it, and the points that it passes.
use Rattle.std.specs.Prelude.{ℕ, zero, suc, ◌+◌, List, [], ◌++◌, Option, Some, None, option_and_then, option_map}
use Rattle.upon_types.specs.declared.types.Span.{Span}
use Rattle.upon_lookup.specs.Environment.{Root}
use Rattle.upon_meaning_spec.specs.Engine.{Calls, Resolver}
use Rattle.upon_meaning_spec.specs.Meaning.{RunningTemplate}
use Rattle.upon_meaning_spec.specs.Outcome.{Outcome, States}
use Rattle.upon_machine_spec.specs.Run.{run, text_of_next}
use Rattle.upon_machine_spec.specs.State.{State}
use Rattle.upon_machine_spec.specs.Step.{Next, goes, stops, stuck, step}
use Rattle.upon_vm.specs.Lending.{Lending, lending_on, nothing_bound}
use Rattle.upon_vm.specs.Place.{nearest_span}
use Rattle.upon_vm.specs.Weight.{made_by, made_by_next}

-- a run after steps that went on: the text that they gave, the bytes of values that they made, what is lent, and the
-- state
pub record Gone (V T : Type 0) : Type 0 where
  pub text : List ℕ
  pub made : ℕ
  pub lending : Lending
  pub state : State V T

-- one step more, if it goes on
abbrev pub gone_on : {V T : Type 0} → Gone V T → Next V T → Option (Gone V T)
gone_on g (goes text s) = Some (record {
  text = g.text ++ text;
  made = g.made + made_by g.lending g.state s;
  lending = lending_on g.lending g.state s;
  state = s;
})
gone_on g (stops text end q) = None
gone_on g stuck = None

-- a run after so many steps, if each of them goes on
abbrev pub gone : {V T : Type 0} → Calls V → Resolver T → Root → State V T → ℕ → Option (Gone V T)
gone calls resolve root start zero = Some (record { text = []; made = 0; lending = nothing_bound; state = start })
gone calls resolve root start (suc n) =
    option_and_then (λ g. gone_on g (step calls resolve root g.state)) (gone calls resolve root start n)

-- a point of a run: the template that is active, the span of the instruction to come (or of the nearest one before it
-- that has a span), the text that was given so far, and the text that the next step gives; the bytes of values that
-- were made so far, and those that the next step makes
pub record Point : Type 0 where
  pub running : RunningTemplate
  pub span : Span
  pub given : List ℕ
  pub next : List ℕ
  pub made : ℕ
  pub makes : ℕ

-- the point of a run after steps that went on
abbrev pub point_of : {V T : Type 0} → Calls V → Resolver T → Root → Gone V T → Point
point_of calls resolve root g =
    let active = g.state.active in
    record {
      running = active.running;
      span = nearest_span active.running.source active.code g.state.position;
      given = g.text;
      next = text_of_next (step calls resolve root g.state);
      made = g.made;
      makes = made_by_next g.lending g.state (step calls resolve root g.state);
    }

-- the course of a run: what comes out, if it ends within so many steps, and the point after so many, if each goes on
pub record Course (Q : Type 0) : Type 0 where
  pub out : ℕ → Option (Outcome Q)
  pub after : ℕ → Option Point

-- the course of a machine's run from a state
abbrev pub course : {V T : Type 0} → Calls V → Resolver T → Root → State V T → Course (States V T)
course calls resolve root start = record {
  out = λ n. run calls resolve root n start;
  after = λ n. option_map (point_of calls resolve root) (gone calls resolve root start n);
}
