-- Which names bindings have, which they have not, and what a path that is found writes.
use Rattle.std.specs.Prelude.{◌≡◌, ◌⊎◌, ℕ, List, [], ◌∷◌, map, codes, bytes_eq, if◌then◌else◌}
use Rattle.upon_types.specs.Path.{Member, path_span, LoopVars, item, key_value}
use Rattle.upon_types.specs.Val.{Val}
use Rattle.upon_lookup.specs.Environment.{Binding}
use Rattle.upon_lookup.specs.Finding.{Finding, found, at_fault, reply}
use Rattle.upon_meaning_spec.specs.Emission.{emit_value}
use Rattle.upon_meaning_spec.specs.Engine.{Calls}
use Rattle.upon_meaning_spec.specs.Evaluation.{with_span}
use Rattle.upon_meaning_spec.specs.Meaning.{RunningTemplate, in_template}
use Rattle.upon_meaning_spec.specs.Outcome.{Outcome, States}

-- a binding of this name is among them
abbrev pub Binds : List ℕ → List Binding → Type 0
Binds name [] = ⊥
Binds name (b ∷ bs) = (b.name ≡ name) ⊎ Binds name bs

-- a variable of the loop has this name
abbrev pub IsVariable : List ℕ → LoopVars → Type 0
IsVariable name (item word) = word.text ≡ name
IsVariable name (key_value key value both) = (key.text ≡ name) ⊎ (value.text ≡ name)

-- in the loop's body the name is bound, by a variable or as the loop's state
abbrev pub LoopBinds : List ℕ → LoopVars → Type 0
LoopBinds name names = (codes "loop" ≡ name) ⊎ IsVariable name names

-- the bindings that have another name
abbrev pub without : List ℕ → List Binding → List Binding
without name [] = []
without name (b ∷ bs) = if bytes_eq b.name name then without name bs else (b ∷ without name bs)

-- a loop's items, if none binds the name
abbrev pub items_without : List ℕ → Finding (List (List Binding)) → Finding (List (List Binding))
items_without name (found items) = found (map (without name) items)
items_without name (at_fault f) = at_fault f

-- what a path in a tag of its own writes, where it finds this
abbrev pub path_shown : {V T : Type 0} → Calls V → RunningTemplate → Member → List Member → Finding Val → States V T
    → Outcome (States V T)
path_shown calls running first rest finds s =
    in_template running s.templates (emit_value calls (with_span (reply finds s.values) (path_span first rest)))
