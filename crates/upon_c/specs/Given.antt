-- What is done with the buffer for a text and its status.
use Rattle.std.specs.Prelude.{◌≡◌, ◌≤◌, ◌<◌, ◌⊎◌, ℕ, List, length, take, drop, Some}
use Rattle.upon_calls.specs.Failure.{call_status, failure_text}
use Rattle.upon_calls.specs.declared.failure.Failure.{Failure}

-- the text is written, with its status; or there is no room for it, the buffer is as it was, and the status is 4
abbrev pub GivesText : ℕ → List ℕ → ℕ → ℕ → List ℕ → List ℕ → Type 0
GivesText status text result size old new = (size ≡ length text)
    × (((result ≡ status) × (length text ≤ length old) × (take (length text) new ≡ text)
    × (drop (length text) new ≡ drop (length text) old))
    ⊎ ((result ≡ 4) × (length old < length text) × (new ≡ old)))

-- the text of a failure is given with its status; or memory was out, and nothing is
abbrev pub GivesFailure : Failure → ℕ → ℕ → List ℕ → List ℕ → Type 0
GivesFailure failure result size old new =
    ((text : List ℕ) × (failure_text failure ≡ Some text) × GivesText (call_status failure) text result size old new)
    ⊎ ((result ≡ 5) × (size ≡ 0) × (new ≡ old))
