-- The templates of a call: names with their texts.
use Rattle.std.specs.Prelude.{◌≡◌, ℕ, List, [], ◌∷◌, map, Option, Some, None, option_map}
use Rattle.std.specs.Borrow.{Bor}
use Rattle.upon_types.specs.Val.{Val, text_val, map_val, Entries, no_entries, entry_then}
use Rattle.upon_calls.specs.Arguments.{IsArgumentValue}

-- names and texts, as they are lent
abbrev pub lent_pairs : List (Bor (List ℕ) × Bor (List ℕ)) → List (List ℕ × List ℕ)
lent_pairs pairs = map (λ pair. (pair.0.now, pair.1.now)) pairs

-- the keys with the texts that are at them, if each is one
abbrev pub texts_in : Entries → Option (List (List ℕ × List ℕ))
texts_in no_entries = Some []
texts_in (entry_then key (text_val text) es) = option_map (λ rest. (key, text) ∷ rest) (texts_in es)
texts_in (entry_then key _ es) = None

-- the templates that an object is
abbrev pub sources_in : Val → Option (List (List ℕ × List ℕ))
sources_in (map_val es) = texts_in es
sources_in _ = None

-- the templates that a text of JSON is, in the order of their names
abbrev pub AreTemplates : List ℕ → List (List ℕ × List ℕ) → Type 0
AreTemplates text sources = (v : Val) × IsArgumentValue text v × (sources_in v ≡ Some sources)

-- it is no templates
abbrev pub AreNone : List ℕ → Type 0
AreNone text = (sources : List (List ℕ × List ℕ)) → AreTemplates text sources → ⊥
