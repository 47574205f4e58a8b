-- Sources of templates that hand on those of a table, and what two such sources answer alike.
use Rattle.std.specs.Prelude.{◌≡◌, ℕ, List, Some}
use Rattle.upon_lookup.specs.Source.{says}
use Rattle.upon_meaning_spec.specs.Engine.{Template, Table, Resolver}

-- a source hands on no template under a name but the one that the table holds; what it refuses, and how, is its own
abbrev pub HandsOnFrom : {T : Type 0} → Table → Resolver T → Type 0
HandsOnFrom {T} table resolve =
    (q : T) (name : List ℕ) (t : Template) → (resolve q name).answer ≡ says t → table name ≡ Some t

-- two sources give the same answer and next state to each of these names, from each state
abbrev pub AnswerAlike : {T : Type 0} → (List ℕ → Type 0) → Resolver T → Resolver T → Type 0
AnswerAlike {T} names these those = (q : T) (name : List ℕ) → names name → these q name ≡ those q name
