-- The contexts that a check is made on, by the words of a call and what is read.
use Rattle.std.specs.Prelude.{◌≡◌, ℕ, List, [], ◌∷◌, map, not, Option}
use Rattle.std.specs.Borrow.{Bor}
use Rattle.std.specs.List.{filter}
use Rattle.upon_types.specs.Val.{Val}
use Rattle.upon_tool_io.specs.World.{World}
use Rattle.upon_tool_data.specs.Context.{IsContext}
use Rattle.upon_tool_data.specs.Words.{has_key}
use Rattle.upon_tool_data.specs.declared.words.DataWords.{DataWords}

-- the words without a key
abbrev pub without_key : List (Bor (List ℕ)) → List (Bor (List ℕ))
without_key words = filter (λ word. not (has_key word.now)) words

-- the words with one
abbrev pub with_key : List (Bor (List ℕ)) → List (Bor (List ℕ))
with_key words = filter (λ word. has_key word.now) words

-- each word, with others after it; if there are none, the others alone
abbrev pub each_or_one : List (Bor (List ℕ)) → List (Bor (List ℕ)) → List (List (Bor (List ℕ)))
each_or_one [] others = others ∷ []
each_or_one (word ∷ words) others = map (λ w. w ∷ others) (word ∷ words)

-- the words of the files of each context: each file without a key, with those that have one
abbrev pub sample_files : List (Bor (List ℕ)) → List (List (Bor (List ℕ)))
sample_files words = each_or_one (without_key words) (with_key words)

module _ (world : World) where
  -- contexts are read one after the other, with these files each, and all other words
  abbrev pub AreSamples : DataWords → List (List (Bor (List ℕ))) → Option (List ℕ) → List Val → Option (List ℕ) → Type 0
  AreSamples words [] input [] later = later ≡ input
  AreSamples words [] input (v ∷ vs) later = ⊥
  AreSamples words (files ∷ groups) input [] later = ⊥
  AreSamples words (files ∷ groups) input (v ∷ vs) later = (next : Option (List ℕ))
      × IsContext world words.env files words.format words.values.now words.texts.now input v next
      × AreSamples words groups next vs later
