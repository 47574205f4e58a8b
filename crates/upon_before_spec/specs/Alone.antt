-- What a template meant by itself before `for .. else`, with the templates that it included.
use Rattle.std.specs.Prelude.{ℕ, zero, suc, List, Option, Some, None, codes}
use Rattle.upon_types.specs.Path.{Ident}
use Rattle.upon_lookup.specs.Environment.{Root, root_environment}
use Rattle.upon_lookup.specs.Finding.{Reply, reply}
use Rattle.upon_lookup.specs.LookupFaults.{wrong}
use Rattle.upon_lookup.specs.Source.{SourceAnswer, says, refuses}
use Rattle.upon_meaning_spec.specs.Alone.{includes_left}
use Rattle.upon_meaning_spec.specs.Engine.{Calls}
use Rattle.upon_meaning_spec.specs.Meaning.{RunningTemplate, fault_in, Inclusion}
use Rattle.upon_meaning_spec.specs.Outcome.{Outcome, States, states, fault_outcome, too_deep_outcome}
use Rattle.upon_before_spec.specs.Tree.{Statements}
use Rattle.upon_before_spec.specs.Meaning.{statements_mean}

-- a template: its text, and the tree that the text has
pub record Template : Type 0 where
  pub source : List ℕ
  pub tree : Statements

-- templates by their names
abbrev pub Table : Type 0
Table = List ℕ → Option Template

-- what answers the names of includes, and its next state
abbrev pub Resolver : Type 0 → Type 0
Resolver T = T → List ℕ → Reply T (SourceAnswer Template)

-- a rendering: what its expressions are on, what answers its includes, and the depth as it was set
pub record Rendering (V T : Type 0) : Type 0 where
  pub calls : Calls V
  pub resolve : Resolver T
  pub limit : ℕ

-- what is answered for a name that a table has or has not
abbrev pub table_answer : Option Template → SourceAnswer Template
table_answer None = refuses (codes "unknown template")
table_answer (Some t) = says t

-- a table answers the names that it holds
abbrev pub from_table : {T : Type 0} → Table → Resolver T
from_table table q name = reply (table_answer (table name)) q

-- a template that runs under a name or none
abbrev pub running : Template → Option (List ℕ) → RunningTemplate
running t name = record { source = t.source; name = name }

-- a name that is not answered is a fault of the template that runs, at the include's string
abbrev pub on_template : {Q : Type 0} → RunningTemplate → Ident → SourceAnswer Template → Q →
    (Template → Q → Outcome Q) → Outcome Q
on_template from word (says t) q go = go t q
on_template from word (refuses text) q go = fault_outcome (fault_in from (wrong text word.span)) q

-- on with the template that a source answers, and its next state
abbrev pub with_template : {V T : Type 0} → RunningTemplate → Ident → V → Reply T (SourceAnswer Template) →
    (Template → States V T → Outcome (States V T)) → Outcome (States V T)
with_template from word values r go = on_template from word r.answer (states values r.next) go

module _ {V T : Type 0} (calls : Calls V) (resolve : Resolver T) where
  -- The name is answered first; then it is tested whether one more include may be inside those that run. The template
  -- that is included runs in the environment that it is given, under its own text and the include's name.
  abbrev pub included : ℕ → Inclusion V T
  included zero from word env s = with_template from word s.values (resolve s.templates word.text)
      (λ t s'. too_deep_outcome s')
  included (suc left) from word env s =
      with_template from word s.values (resolve s.templates word.text)
      (λ t s'. statements_mean calls (included left) (running t (Some word.text)) t.tree env s')

  -- a template by itself over a root, where so many includes may be one inside another
  abbrev pub alone_within : ℕ → Template → Option (List ℕ) → Root → States V T → Outcome (States V T)
  alone_within left t name root s = statements_mean calls (included left) (running t name) t.tree
      (root_environment root) s

-- a template by itself over a root, under a name or none
abbrev pub alone : {V T : Type 0} → Rendering V T → Template → Option (List ℕ) → Root → States V T → Outcome
    (States V T)
alone rendering t name root s = alone_within rendering.calls rendering.resolve
    (includes_left rendering.limit) t name root s
