-- How an export ends, by what is given in the buffer.
use Rattle.std.proofs.Common.{arith, ◌≡◌, ◌⊎◌, ◌≤◌, ◌<◌, ◌∙◌, ℕ, List, length, take, drop, Some, string_bytes, sym, ap, subst, inl, inr}
use Rattle.std.proofs.lemmas.Bool.{cases_lt}
use Rattle.upon_calls.specs.Calls.{CallFails}
use Rattle.upon_calls.specs.Failure.{call_status, failure_text, no_text_text, refusal_text}
use Rattle.upon_calls.specs.declared.failure.Argument.{Argument}
use Rattle.upon_calls.specs.declared.failure.Failure.{Failure}
use Rattle.upon_calls.specs.declared.failure.Failure.TheVariants.{Faults, Refused, NotText, OutOfMemory}
use Rattle.upon_c.specs.Given.{GivesFailure, GivesText}
use Rattle.upon_c.specs.Handed.{HandsOut, HasNoRoom, IsAny, RefusalOf, NamesNoText}

-- what is so at each status
pub record Ends (Done Pictures : List ℕ → Type 0) (Refuses IsNotText : Argument → Type 0) (result size : ℕ) (old new : List ℕ) : Type 0 where
  pub range : result ≤ 5
  pub done : result ≡ 0 → HandsOut Done size old new
  pub faulty : result ≡ 1 → HandsOut Pictures size old new
  pub refused : result ≡ 2 → HandsOut (RefusalOf Refuses) size old new
  pub not_text : result ≡ 3 → HandsOut (NamesNoText IsNotText) size old new
  pub small : result ≡ 4 → HasNoRoom (IsAny Done Pictures Refuses IsNotText) size old new
  pub memory : result ≡ 5 → (size ≡ 0) × (new ≡ old)

-- what is done with the buffer, by whether it has room
pub gives_by : (status : ℕ) (text : List ℕ) (result size : ℕ) (old new : List ℕ) → size ≡ length text → (length text ≤ length old → result ≡ status) → (length text ≤ length old → take (length text) new ≡ text)
    → (length text ≤ length old → drop (length text) new ≡ drop (length text) old) → (length old < length text → result ≡ 4) → (length old < length text → new ≡ old) → GivesText status text result size old new
gives_by status text result size old new long is whole rest small same = elim (cases_lt (length old) (length text)) [
  | inl below ↦ (long, inr (small below, below, same below))
  | inr room ↦ (long, inl (is room, room, whole room, rest room))
]

-- with other names for the text and the status
pub gives_same : (status other : ℕ) (bytes text : List ℕ) (result size : ℕ) (old new : List ℕ) → other ≡ status → bytes ≡ text → GivesText other bytes result size old new → GivesText status text result size old new
gives_same status other bytes text result size old new stated same gives =
    subst (λ s. GivesText s text result size old new) stated (subst (λ t. GivesText other t result size old new) same gives)

-- a text that is written
abbrev Fits : ℕ → List ℕ → ℕ → List ℕ → List ℕ → Type 0
Fits status text result old new =
    (result ≡ status) × (length text ≤ length old) × (take (length text) new ≡ text) × (drop (length text) new ≡ drop (length text) old)

-- and one that has no room
abbrev Lacks : List ℕ → ℕ → List ℕ → List ℕ → Type 0
Lacks text result old new = (result ≡ 4) × (length old < length text) × (new ≡ old)

handed : (Is : List ℕ → Type 0) (status result size : ℕ) (text old new : List ℕ) → size ≡ length text → Fits status text result old new → Is text → HandsOut Is size old new
handed Is status result size text old new long w is = record {
  fits = subst (λ n. n ≤ length old) (sym long) w.1;
  text = subst Is (sym (ap (λ n. take n new) long ∙ w.2)) is;
  rest = ap (λ n. drop n new) long ∙ w.3 ∙ sym (ap (λ n. drop n old) long);
}

no_room : (Is : List ℕ → Type 0) (result size : ℕ) (text old new : List ℕ) → size ≡ length text → Lacks text result old new → Is text → HasNoRoom Is size old new
no_room Is result size text old new long w is = record {
  text = text;
  is = is;
  long = long;
  small = subst (λ n. length old < n) (sym long) w.1;
  same = w.2;
}

module _ (Done Pictures : List ℕ → Type 0) (Refuses IsNotText : Argument → Type 0) (result size : ℕ) (old new : List ℕ) where
  -- with status 0
  at_done : (text : List ℕ) → Done text → size ≡ length text → Fits 0 text result old new ⊎ Lacks text result old new → Ends Done Pictures Refuses IsNotText result size old new
  at_done text is long (inl w) = record {
    range = omega (arith, w.0);
    done = λ e. handed Done 0 result size text old new long w is;
    faulty = λ e. absurd (omega (arith, w.0, e));
    refused = λ e. absurd (omega (arith, w.0, e));
    not_text = λ e. absurd (omega (arith, w.0, e));
    small = λ e. absurd (omega (arith, w.0, e));
    memory = λ e. absurd (omega (arith, w.0, e));
  }
  at_done text is long (inr w) = record {
    range = omega (arith, w.0);
    done = λ e. absurd (omega (arith, w.0, e));
    faulty = λ e. absurd (omega (arith, w.0, e));
    refused = λ e. absurd (omega (arith, w.0, e));
    not_text = λ e. absurd (omega (arith, w.0, e));
    small = λ e. no_room (IsAny Done Pictures Refuses IsNotText) result size text old new long w (inl is);
    memory = λ e. absurd (omega (arith, w.0, e));
  }

  -- with status 1
  at_faulty : (text : List ℕ) → Pictures text → size ≡ length text → Fits 1 text result old new ⊎ Lacks text result old new → Ends Done Pictures Refuses IsNotText result size old new
  at_faulty text is long (inl w) = record {
    range = omega (arith, w.0);
    done = λ e. absurd (omega (arith, w.0, e));
    faulty = λ e. handed Pictures 1 result size text old new long w is;
    refused = λ e. absurd (omega (arith, w.0, e));
    not_text = λ e. absurd (omega (arith, w.0, e));
    small = λ e. absurd (omega (arith, w.0, e));
    memory = λ e. absurd (omega (arith, w.0, e));
  }
  at_faulty text is long (inr w) = record {
    range = omega (arith, w.0);
    done = λ e. absurd (omega (arith, w.0, e));
    faulty = λ e. absurd (omega (arith, w.0, e));
    refused = λ e. absurd (omega (arith, w.0, e));
    not_text = λ e. absurd (omega (arith, w.0, e));
    small = λ e. no_room (IsAny Done Pictures Refuses IsNotText) result size text old new long w (inr (inl is));
    memory = λ e. absurd (omega (arith, w.0, e));
  }

  -- with status 2
  at_refused : (text : List ℕ) → RefusalOf Refuses text → size ≡ length text → Fits 2 text result old new ⊎ Lacks text result old new → Ends Done Pictures Refuses IsNotText result size old new
  at_refused text is long (inl w) = record {
    range = omega (arith, w.0);
    done = λ e. absurd (omega (arith, w.0, e));
    faulty = λ e. absurd (omega (arith, w.0, e));
    refused = λ e. handed (RefusalOf Refuses) 2 result size text old new long w is;
    not_text = λ e. absurd (omega (arith, w.0, e));
    small = λ e. absurd (omega (arith, w.0, e));
    memory = λ e. absurd (omega (arith, w.0, e));
  }
  at_refused text is long (inr w) = record {
    range = omega (arith, w.0);
    done = λ e. absurd (omega (arith, w.0, e));
    faulty = λ e. absurd (omega (arith, w.0, e));
    refused = λ e. absurd (omega (arith, w.0, e));
    not_text = λ e. absurd (omega (arith, w.0, e));
    small = λ e. no_room (IsAny Done Pictures Refuses IsNotText) result size text old new long w (inr (inr (inl is)));
    memory = λ e. absurd (omega (arith, w.0, e));
  }

  -- with status 3
  at_not_text : (text : List ℕ) → NamesNoText IsNotText text → size ≡ length text → Fits 3 text result old new ⊎ Lacks text result old new → Ends Done Pictures Refuses IsNotText result size old new
  at_not_text text is long (inl w) = record {
    range = omega (arith, w.0);
    done = λ e. absurd (omega (arith, w.0, e));
    faulty = λ e. absurd (omega (arith, w.0, e));
    refused = λ e. absurd (omega (arith, w.0, e));
    not_text = λ e. handed (NamesNoText IsNotText) 3 result size text old new long w is;
    small = λ e. absurd (omega (arith, w.0, e));
    memory = λ e. absurd (omega (arith, w.0, e));
  }
  at_not_text text is long (inr w) = record {
    range = omega (arith, w.0);
    done = λ e. absurd (omega (arith, w.0, e));
    faulty = λ e. absurd (omega (arith, w.0, e));
    refused = λ e. absurd (omega (arith, w.0, e));
    not_text = λ e. absurd (omega (arith, w.0, e));
    small = λ e. no_room (IsAny Done Pictures Refuses IsNotText) result size text old new long w (inr (inr (inr is)));
    memory = λ e. absurd (omega (arith, w.0, e));
  }

  -- if memory is out
  at_memory : (result ≡ 5) × (size ≡ 0) × (new ≡ old) → Ends Done Pictures Refuses IsNotText result size old new
  at_memory w = record {
    range = omega (arith, w.0);
    done = λ e. absurd (omega (arith, w.0, e));
    faulty = λ e. absurd (omega (arith, w.0, e));
    refused = λ e. absurd (omega (arith, w.0, e));
    not_text = λ e. absurd (omega (arith, w.0, e));
    small = λ e. absurd (omega (arith, w.0, e));
    memory = λ e. (w.1, w.2);
  }

  -- a call gave a text
  pub done_ends : (text bytes : List ℕ) → bytes ≡ text → Done text → GivesText 0 bytes result size old new → Ends Done Pictures Refuses IsNotText result size old new
  done_ends text bytes same is gives = at_done bytes (subst Done (sym same) is) gives.0 gives.1

  -- it failed
  by_failure : (failure : Failure) → CallFails Pictures Refuses IsNotText failure → (text : List ℕ) → failure_text failure ≡ Some text → GivesText (call_status failure) text result size old new → Ends Done Pictures Refuses IsNotText result size old new
  by_failure (Faults pictures) fails text is gives =
      let same : string_bytes pictures ≡ text = cc in at_faulty text (subst Pictures same fails) gives.0 gives.1
  by_failure (Refused argument reason) fails text is gives =
      let same : refusal_text argument (string_bytes reason) ≡ text = cc in
      at_refused text (argument, string_bytes reason, sym same, fails) gives.0 gives.1
  by_failure (NotText argument) fails text is gives =
      let same : no_text_text argument ≡ text = cc in at_not_text text (argument, sym same, fails) gives.0 gives.1
  by_failure OutOfMemory fails text is gives = absurd cc

  pub failure_ends : (failure : Failure) → CallFails Pictures Refuses IsNotText failure → GivesFailure failure result size old new → Ends Done Pictures Refuses IsNotText result size old new
  failure_ends failure fails (inl given) = by_failure failure fails given.0 given.1 given.2
  failure_ends failure fails (inr out) = at_memory out
