-- What a template means by itself, with the templates that it includes, by recursion on the includes that are left.
use Rattle.std.specs.Prelude.{ℕ, zero, suc, ◌-◌, max, List, Option, Some, None}
use Rattle.upon_types.specs.Fault.{Fault}
use Rattle.upon_types.specs.Path.{Ident}
use Rattle.upon_lookup.specs.Environment.{Root, root_environment}
use Rattle.upon_lookup.specs.Finding.{Reply}
use Rattle.upon_lookup.specs.LookupFaults.{wrong}
use Rattle.upon_lookup.specs.Source.{SourceAnswer, says, refuses}
use Rattle.upon_meaning_spec.specs.CallFaults.{depth_reached}
use Rattle.upon_meaning_spec.specs.Engine.{Template, Calls, Resolver, Rendering}
use Rattle.upon_meaning_spec.specs.Meaning.{RunningTemplate, fault_in, Inclusion, statements_mean}
use Rattle.upon_meaning_spec.specs.Outcome.{End, good, fails, too_deep, Outcome, States, states, fault_outcome, too_deep_outcome}

-- a template that runs under a name or none
abbrev pub running : Template → Option (List ℕ) → RunningTemplate
running t name = record { source = t.source; name = name }

-- a name that is not answered is a fault of the template that runs, at the include's string
abbrev pub on_template : {Q : Type 0} → RunningTemplate → Ident → SourceAnswer Template → Q →
    (Template → Q → Outcome Q) → Outcome Q
on_template from word (says t) q go = go t q
on_template from word (refuses text) q go = fault_outcome (fault_in from (wrong text word.span)) q

-- on with the template that a source answers, and its next state
abbrev pub with_template : {V T : Type 0} → RunningTemplate → Ident → V → Reply T (SourceAnswer Template) →
    (Template → States V T → Outcome (States V T)) → Outcome (States V T)
with_template from word values r go = on_template from word r.answer (states values r.next) go

module _ {V T : Type 0} (calls : Calls V) (resolve : Resolver T) where
  -- The name is answered first; then it is tested whether one more include may be inside those that run. The template
  -- that is included runs in the environment that it is given, under its own text and the include's name.
  abbrev pub included : ℕ → Inclusion V T
  included zero from word env s = with_template from word s.values (resolve s.templates word.text)
      (λ t s'. too_deep_outcome s')
  included (suc left) from word env s =
      with_template from word s.values (resolve s.templates word.text)
      (λ t s'. statements_mean calls (included left) (running t (Some word.text)) t.tree env s')

  -- a template by itself over a root, where so many includes may be one inside another
  abbrev pub alone_within : ℕ → Template → Option (List ℕ) → Root → States V T → Outcome (States V T)
  alone_within left t name root s = statements_mean calls (included left) (running t name) t.tree
      (root_environment root) s

-- the template itself counts as one of the depth, and a depth of 0 acts as 1
abbrev pub includes_left : ℕ → ℕ
includes_left limit = max limit 1 - 1

-- a template by itself over a root, under a name or none
abbrev pub alone : {V T : Type 0} → Rendering V T → Template → Option (List ℕ) → Root → States V T → Outcome
    (States V T)
alone rendering t name root s =
    alone_within rendering.calls rendering.resolve (includes_left rendering.limit) t name root s

-- the fault that is reported for an end; of includes that are too deep the depth is reported as it was set
abbrev pub fault_of_end : ℕ → End → Option Fault
fault_of_end limit good = None
fault_of_end limit (fails f) = Some f
fault_of_end limit too_deep = Some (depth_reached limit)
