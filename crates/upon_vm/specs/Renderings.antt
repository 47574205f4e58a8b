-- What a rendering of one template is on, and how it leaves the stack and the source of templates.
use Rattle.std.specs.Prelude.{◌≡◌, ℕ, List, Option, option_map}
use Rattle.upon_lookup.specs.Environment.{Root as PureRoot}
use Rattle.upon_render.specs.Roots.{pure_root}
use Rattle.upon_lookup.specs.Source.{Source as Asking}
use Rattle.upon_render.specs.declared.stack.Root.{Root}
use Rattle.upon_meaning_spec.specs.Alone.{alone_within}
use Rattle.upon_meaning_spec.specs.Engine.{Calls, Resolver, Template}
use Rattle.upon_meaning_spec.specs.Outcome.{Outcome, States, states}
use Rattle.upon_machine_spec.specs.State.{State, at_start}
use Rattle.upon_vm_steps.specs.Keeps.{SourceHas}
use Rattle.upon_vm_steps.specs.Machine.{source_state}
use Rattle.upon_vm.specs.Course.{course}
use Rattle.upon_vm.specs.Within.{RanWithin}
use Rattle.upon_vm.specs.declared.limits.Limits.{Limits}
use Rattle.upon_vm_steps.specs.declared.machine.Running.{Running}
use Rattle.upon_vm.specs.declared.within.Within.{Within}

-- the states of both sources: of the values, if there is a source to ask, and of the templates
abbrev pub sources_state : {V T Q P : Type 0} → (V → Q) → (T → P) → Q → Root V → T → States Q P
sources_state value_state template_state q root templates =
    states (source_state value_state q root) (template_state templates)

-- what a template means by itself, under the name of one that runs and with its depth
abbrev pub rendered_alone : {Q P : Type 0} → Calls Q → Resolver P → Running → Template → PureRoot → States Q P
    → Outcome (States Q P)
rendered_alone calls resolve r t root asked =
    alone_within calls resolve r.left t (option_map (λ name. name.now) r.name) root asked

-- the machine's state where such a rendering begins
abbrev pub start_state : {Q P : Type 0} → Running → Template → States Q P → State Q P
start_state r t asked = at_start t (option_map (λ name. name.now) r.name) r.left asked

-- such a rendering within limits went as what the template means says, and as the machine's run from its start
abbrev pub RendersWithin : {Q P : Type 0} → Limits → Calls Q → Resolver P → Running → Template → PureRoot → States Q P
    → Within → Option (List ℕ) → Option (List ℕ) → States Q P → Type 0
RendersWithin limits calls resolve r t root asked ended old new next =
    RanWithin limits (course calls resolve root (start_state r t asked)) ended old new
    (rendered_alone calls resolve r t root asked) next

-- A rendering leaves the stack and the source of templates so: the root denotes the same, and a source answers by the
-- same function; the names of templates are answered by the same function; both sources hold the same references.
pub record SourcesKept {V T Q P : Type 0} (ask_of : V → Asking Q) (values_hold : V → List ℕ)
    (resolve_of : T → Resolver P) (templates_hold : T → List ℕ) (old new : Root V) (before after : T) : Type 0 where
  pub root : pure_root new ≡ pure_root old
  pub asks : (ask : Asking Q) → SourceHas ask_of old ask → SourceHas ask_of new ask
  pub values_held : (names : List ℕ) → SourceHas values_hold old names → SourceHas values_hold new names
  pub resolve : resolve_of after ≡ resolve_of before
  pub templates_held : templates_hold after ≡ templates_hold before
