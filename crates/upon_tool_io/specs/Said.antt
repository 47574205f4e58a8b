-- What the words of a command say, as `Words` gives it.
use Rattle.std.specs.Prelude.{ℕ, List, map, Bool, Option, option_map}
use Rattle.std.specs.Borrow.{Bor}

-- What the words of a command may say, by the names of its arguments.
pub record Said : Type 1 where
  -- an argument of this name may have this text, or none
  pub text : List ℕ → Option (List ℕ) → Type 0
  -- an argument of this name may have these texts, in their order
  pub texts : List ℕ → List (List ℕ) → Type 0
  -- whether an argument of this name is there may be answered so
  pub flag : List ℕ → Bool → Type 0
  -- an argument of this name may have this number, or none
  pub number : List ℕ → Option ℕ → Type 0

-- a text that may be lent
abbrev pub lent_text : Option (Bor (List ℕ)) → Option (List ℕ)
lent_text text = option_map (λ t. t.now) text

-- texts that are lent
abbrev pub lent_texts : List (Bor (List ℕ)) → List (List ℕ)
lent_texts texts = map (λ t. t.now) texts
