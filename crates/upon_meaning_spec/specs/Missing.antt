-- Includes of names that no template has.
use Rattle.std.specs.Prelude.{◌≡◌, ℕ, List, Some, None, codes}
use Rattle.upon_types.specs.Fault.{render}
use Rattle.upon_types.specs.Tree.{Statements}
use Rattle.upon_lookup.specs.Finding.{reply}
use Rattle.upon_lookup.specs.Source.{says}
use Rattle.upon_meaning_spec.specs.Engine.{Template, Table, Resolver}
use Rattle.upon_meaning_spec.specs.Includes.{Reaches}
use Rattle.upon_meaning_spec.specs.Outcome.{End, good, fails, too_deep}

-- the tree, or one that it reaches, includes this name, which the table does not hold
abbrev pub Missing : Table → Statements → List ℕ → Type 0
Missing table tree name = Reaches table tree name × (table name ≡ None)

-- the table holds each name that the tree, or one that it reaches, includes
abbrev pub NothingMissing : Table → Statements → Type 0
NothingMissing table tree = (name : List ℕ) → Reaches table tree name → (t : Template) × (table name ≡ Some t)

-- it answers what the table holds, and of other names what it will
abbrev pub AnswersTable : {T : Type 0} → Table → Resolver T → Type 0
AnswersTable {T} table resolve =
    (q : T) (name : List ℕ) (t : Template) → table name ≡ Some t → resolve q name ≡ reply (says t) q

-- a rendering ends as the include of a name does that a table does not hold
abbrev pub EndsUnknown : End → Type 0
EndsUnknown good = ⊥
EndsUnknown (fails f) = (f.kind ≡ render) × (f.reason ≡ Some (codes "unknown template"))
EndsUnknown too_deep = ⊥
