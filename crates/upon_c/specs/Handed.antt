-- What a call hands out in the caller's buffer.
use Rattle.std.specs.Prelude.{◌≡◌, ◌≤◌, ◌<◌, ◌⊎◌, ℕ, List, length, take, drop}
use Rattle.upon_calls.specs.Failure.{no_text_text, refusal_text}
use Rattle.upon_calls.specs.declared.failure.Argument.{Argument}

-- a text of which this is so stands at the begin of the buffer, as long as is said, and the rest is as it was
pub record HandsOut (Is : List ℕ → Type 0) (size : ℕ) (old new : List ℕ) : Type 0 where
  pub fits : size ≤ length old
  pub text : Is (take size new)
  pub rest : drop size new ≡ drop size old

-- the buffer is as it was, since a text of which this is so, as long as is said, is longer
pub record HasNoRoom (Is : List ℕ → Type 0) (size : ℕ) (old new : List ℕ) : Type 0 where
  pub text : List ℕ
  pub is : Is text
  pub long : size ≡ length text
  pub small : length old < size
  pub same : new ≡ old

-- a text says that an argument is refused of which this is so
abbrev pub RefusalOf : (Argument → Type 0) → List ℕ → Type 0
RefusalOf Refuses text =
    (argument : Argument) × (reason : List ℕ) × (text ≡ refusal_text argument reason) × Refuses argument

-- a text says that an argument is not UTF-8 of which this is so
abbrev pub NamesNoText : (Argument → Type 0) → List ℕ → Type 0
NamesNoText IsNotText text = (argument : Argument) × (text ≡ no_text_text argument) × IsNotText argument

-- a text is one of those that a call hands out
abbrev pub IsAny : (List ℕ → Type 0) → (List ℕ → Type 0) → (Argument → Type 0) → (Argument → Type 0) → List ℕ → Type 0
IsAny Done Pictures Refuses IsNotText text =
    Done text ⊎ (Pictures text ⊎ (RefusalOf Refuses text ⊎ NamesNoText IsNotText text))
