-- The spans in the tree of a template lie in its text, and those of templates that a source hands on.
use Rattle.std.proofs.Common.{◌≡◌, ℕ, List, Option, option_map, subst}
use Rattle.upon_types.specs.TreeSpans.{TreeLiesIn}
use Rattle.upon_lookup.specs.Finding.{Reply}
use Rattle.upon_lookup.specs.Source.{SourceAnswer, says, refuses}
use Rattle.upon_meaning_spec.specs.Engine.{Template as Meant, from_table}
use Rattle.upon_meaning_spec.specs.RenderFaults.{TemplatesLie}
use Rattle.upon_compiler.proofs.CompiledTree.{spans}
use Rattle.upon_compiler.proofs.Templates.{map_lies}
use Rattle.upon_engine.specs.HandsOn.{shown_answer, hands_on}
use Rattle.upon_engine.specs.Template.{template_source, template_syntax, template_tree, template_of}
use Rattle.upon_engine.specs.declared.template.Template.{Template}

pub template_lies : (t : Template) → TreeLiesIn (template_source t) (template_tree t)
template_lies t = spans (template_syntax t) (template_source t) t.instrs.items t.is_compiled

answer_lies : {X : Type 0} (shows : X → Meant) → ((x : X) → TreeLiesIn (shows x).source (shows x).tree) → (a : SourceAnswer X) (t : Meant)
    → shown_answer shows a ≡ says t → TreeLiesIn t.source t.tree
answer_lies shows lies (says x) t is =
    let same : shows x ≡ t = cc in
    let F : Meant → Type 0 = λ t. TreeLiesIn t.source t.tree in
    subst F same (lies x)
answer_lies shows lies (refuses text) t is = absurd cc

-- what a source owes whose answers refuse or hand on a template
pub handed_on_lie : {T : Type 0} (answers : T → List ℕ → Reply T (SourceAnswer Template)) → TemplatesLie (hands_on answers)
handed_on_lie answers q name t is = answer_lies template_of template_lies (answers q name).answer t is

-- what a source owes that has templates by their names
pub held_lie : {T : Type 0} (held : List ℕ → Option Template) → TemplatesLie {T = T} (from_table (λ name. option_map template_of (held name)))
held_lie held = map_lies template_of template_lies held
