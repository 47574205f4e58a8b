-- What a tree reaches through a table: the includes of a template that it reaches are reached too, and nothing else is read.
use Rattle.std.proofs.Common.{◌≡◌, ℕ, List, [], ◌∷◌, ◌++◌, Option, Some, None, inr, ap}
use Rattle.upon_types.specs.Tree.{Statements}
use Rattle.upon_lookup.specs.Source.{says}
use Rattle.upon_meaning_spec.specs.Engine.{Template, Table, Resolver, table_answer, from_table}
use Rattle.upon_meaning_spec.specs.Includes.{Includes, ReachesBy, Reaches}
use Rattle.upon_meaning_spec.specs.Names.{Reads}
use Rattle.upon_meaning_spec.specs.Sources.{HandsOnFrom}
use Rattle.upon_meaning_spec.proofs.SameLookups.{Any}
use Rattle.upon_meaning_spec.proofs.SameIncludes.{Closed}

held_says : (o : Option Template) (t : Template) → table_answer o ≡ says t → o ≡ Some t
held_says None t e = absurd (cc)
held_says (Some u) t e = let same : u ≡ t = cc in ap Some same

-- a table hands on what it holds
pub table_hands_on : {T : Type 0} (table : Table) → HandsOnFrom {T = T} table (from_table table)
table_hands_on table q name t e = held_says (table name) t e

module _ (table : Table) where
  -- one include further
  reaches_by_more : (tree : Statements) (names : List (List ℕ)) (name : List ℕ) (t : Template) (n : List ℕ) → ReachesBy table tree names name → table name ≡ Some t → Includes n t.tree → ReachesBy table tree (names ++ name ∷ []) n
  reaches_by_more tree [] name t n h e i = (h, (t, e, i))
  reaches_by_more tree (via ∷ names) name t n h e i = (h.0, (h.1.0, h.1.1, reaches_by_more h.1.0.tree names name t n h.1.2 e i))

  pub reaches_more : (tree : Statements) (name : List ℕ) (t : Template) (n : List ℕ) → Reaches table tree name → table name ≡ Some t → Includes n t.tree → Reaches table tree n
  reaches_more tree name t n h e i = (h.0 ++ name ∷ [], reaches_by_more tree h.0 name t n h.1 e i)

  module _ {T : Type 0} (resolve : Resolver T) (hands_on : HandsOnFrom table resolve) (tree : Statements) where
    -- what is reached reads only names that are read, and includes only names that are reached
    pub closed_reads : Closed resolve (Reads table tree) (Reaches table tree)
    closed_reads q name t reached e =
        let holds = hands_on q name t e in
        (λ n r. inr (t, record { name = name; reaches = reached; holds = holds }, r), λ n i. reaches_more tree name t n reached holds i)

    pub closed_any : Closed resolve Any (Reaches table tree)
    closed_any q name t reached e = let holds = hands_on q name t e in (λ n r. tt, λ n i. reaches_more tree name t n reached holds i)
