-- That the spans in the trees of templates that are held by name lie in their texts.
use Rattle.std.proofs.Common.{◌≡◌, ℕ, List, Option, Some, None, option_map, subst}
use Rattle.upon_types.specs.TreeSpans.{TreeLiesIn}
use Rattle.upon_meaning_spec.specs.Engine.{Template, from_table}
use Rattle.upon_meaning_spec.specs.RenderFaults.{TemplatesLie}
use Rattle.upon_meaning_spec.proofs.FaultsStated.Ends.{table_lies}

module _ {Held : Type 0} (template_of : Held → Template) (lies : (t : Held) → TreeLiesIn (template_of t).source (template_of t).tree) where
  held_lies : (o : Option Held) (t : Template) → option_map template_of o ≡ Some t → TreeLiesIn t.source t.tree
  held_lies None t is = absurd cc
  held_lies (Some h) t is = let same : template_of h ≡ t = cc in let F : Template → Type 0 = λ t. TreeLiesIn t.source t.tree in subst F same (lies h)

  pub map_lies : {T : Type 0} (held : List ℕ → Option Held) → TemplatesLie {T = T} (from_table (λ name. option_map template_of (held name)))
  map_lies held = table_lies (λ name. option_map template_of (held name)) (λ name t is. held_lies (held name) t is)
