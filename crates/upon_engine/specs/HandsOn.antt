-- What a source of templates answers that hands on templates.
use Rattle.std.specs.Prelude.{ℕ, List}
use Rattle.upon_lookup.specs.Finding.{Reply, reply}
use Rattle.upon_lookup.specs.Source.{SourceAnswer, says, refuses}
use Rattle.upon_meaning_spec.specs.Engine.{Resolver}
use Rattle.upon_engine.specs.Template.{template_of}
use Rattle.upon_engine.specs.declared.template.Template.{Template as Held}

-- an answer, with what is shown of the one that it hands on
abbrev pub shown_answer : {X A : Type 0} → (X → A) → SourceAnswer X → SourceAnswer A
shown_answer shows (says x) = says (shows x)
shown_answer shows (refuses text) = refuses text

-- answers that refuse or hand on a template, with what that template denotes
abbrev pub hands_on : {T : Type 0} → (T → List ℕ → Reply T (SourceAnswer Held)) → Resolver T
hands_on answers q name = reply (shown_answer template_of (answers q name).answer) (answers q name).next
