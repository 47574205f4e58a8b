-- Value sources that answer alike what a template needs.
use Rattle.std.specs.Prelude.{◌≡◌, List, ◌∷◌}
use Rattle.upon_types.specs.Tree.{Statements}
use Rattle.upon_lookup.specs.Source.{Source, ValueAccess, index, key, ValueMember}
use Rattle.upon_meaning_spec.specs.Engine.{Table}
use Rattle.upon_meaning_spec.specs.Needs.{Start, a_name, an_index, Needs}

-- how a path begins, as a source sees it
abbrev pub start_of_access : ValueAccess → Start
start_of_access (index n) = an_index
start_of_access (key text) = a_name text

abbrev pub start_of_member : ValueMember → Start
start_of_member member = start_of_access member.access

-- two sources answer the paths alike that a tree needs, from any state
abbrev pub SourcesAgreeForNeeds : {V : Type 0} → Table → Statements → Source V → Source V → Type 0
SourcesAgreeForNeeds {V} table tree ask ask' = (member : ValueMember) (rest : List ValueMember) (q : V)
    → Needs table tree (start_of_member member) → ask q (member ∷ rest) ≡ ask' q (member ∷ rest)
