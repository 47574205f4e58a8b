-- The variables of the environment, as entries.
use Rattle.std.specs.Prelude.{◌≡◌, ℕ, List, [], ◌∷◌, Bool, true, false, codes}
use Rattle.upon_types.specs.Val.{map_val, text_val, Entries, no_entries}
use Rattle.upon_json.specs.Value.{put}
use Rattle.upon_tool_io.specs.World.{World}
use Rattle.upon_tool_data.specs.declared.fault.ContextFault.{ContextFault}
use Rattle.upon_tool_data.specs.declared.fault.ContextFault.TheVariants.{LacksText, LacksValue, InputTwice, Unreadable, NotText}
use Rattle.upon_tool_data.specs.declared.fault.ContextFault.TheVariants.{NotOfFormat, NotObject, NotJson, NotMap, OutOfMemory}

-- entries with variables put over them, each a text at its name
abbrev pub with_variables : List (List ℕ × List ℕ) → Entries → Entries
with_variables [] es = es
with_variables (v ∷ vs) es = with_variables vs (put v.0 (text_val v.1) es)

-- the variables that the environment may have, as entries
abbrev pub AreVariables : World → Entries → Type 0
AreVariables world es =
    (found : List (List ℕ × List ℕ)) × world.has found × (es ≡ with_variables found no_entries)

module _ (world : World) where
  -- If the variables are asked for, the entries are a map of them at the key `env`; else there are no entries.
  abbrev pub HasEnvironment : Bool → Entries → Type 0
  HasEnvironment true es = (variables : Entries) × AreVariables world variables
      × (es ≡ put (codes "env") (map_val variables) no_entries)
  HasEnvironment false es = es ≡ no_entries

  -- The variables are asked for, and the environment may be no UTF-8; or memory is out.
  abbrev pub RefusesEnvironment : Bool → ContextFault → Type 0
  RefusesEnvironment asked (NotText name) = (asked ≡ true) × (name.now ≡ codes "the environment") × world.garbled
  RefusesEnvironment asked OutOfMemory = asked ≡ true
  RefusesEnvironment asked (LacksText word) = ⊥
  RefusesEnvironment asked (LacksValue word) = ⊥
  RefusesEnvironment asked InputTwice = ⊥
  RefusesEnvironment asked (Unreadable name error) = ⊥
  RefusesEnvironment asked (NotOfFormat name refusal) = ⊥
  RefusesEnvironment asked (NotObject name) = ⊥
  RefusesEnvironment asked (NotJson word refusal) = ⊥
  RefusesEnvironment asked (NotMap word) = ⊥
