-- What a rendering on a value answers.
use Rattle.std.specs.Prelude.{◌≡◌, ℕ, List, Bool, true, false, Option, Some, None, Result, Ok, Err}
use Rattle.upon_types.specs.Tree.{Statements}
use Rattle.upon_types.specs.Val.{Val}
use Rattle.upon_types.specs.View.{view}
use Rattle.upon_types.specs.declared.error.Error.{Error}
use Rattle.upon_language_spec.specs.Grammar.{HasTree}
use Rattle.upon_vm.specs.Limits.{GrowsWithin}
use Rattle.upon_vm.specs.declared.limits.Limits.{Limits}
use Rattle.upon_engine.specs.Texts.{Stored, Texts}
use Rattle.upon_engine.specs.Theorem.{Sends}
use Rattle.upon_engine.specs.Within.{SendsWithin}
use Rattle.upon_vm.specs.Limits.{is_limited}
use Rattle.upon_tool_messages.specs.Status.{tool_end_status}
use Rattle.upon_tool_messages.specs.declared.failure.Failure.{Failure}
use Rattle.upon_tool_messages.specs.declared.failure.Failure.TheVariants.{Unreadable, NotText, Data, Unwritable, Fault}
use Rattle.upon_tool_pages.specs.declared.rendering.Page.{Page}

-- what was sent of the tree of a text: without limits, or within them
abbrev pub SendsIf : Bool → Limits → Texts → Option (List ℕ) → List ℕ → Statements → Val → Result (Unit {0}) Error
    → Option (List ℕ) → Option (List ℕ) → Type 0
SendsIf false limits e name text tree v result old new = Sends e name text tree v result old new
SendsIf true limits e name text tree v result old new = SendsWithin e limits name text tree v result old new

-- What was sent, by the limits: what the theorem says if none is set, and else what is said of renderings within
-- limits.
abbrev pub SendsPage : Limits → Texts → Option (List ℕ) → List ℕ → Statements → Val → Result (Unit {0}) Error
    → Option (List ℕ) → Option (List ℕ) → Type 0
SendsPage limits e name text tree v result old new =
    SendsIf (is_limited limits) limits e name text tree v result old new

-- no more bytes were received than the limit is, if that is set
abbrev pub StaysWithin : Option ℕ → Option (List ℕ) → Option (List ℕ) → Type 0
StaysWithin None old new = Unit {0}
StaysWithin (Some limit) old new = GrowsWithin (Some limit) old new

-- It is sent whole; or that ends with a fault.
abbrev pub SendsWhole : (Result (Unit {0}) Error → Type 0) → Result (Unit {0}) Failure → Type 0
SendsWhole Sent (Ok u) = Sent (Ok tt)
SendsWhole Sent (Err (Fault e)) = Sent (Err e)
SendsWhole Sent (Err (Data fault)) = ⊥
SendsWhole Sent (Err (Unreadable name error)) = ⊥
SendsWhole Sent (Err (NotText name)) = ⊥
SendsWhole Sent (Err (Unwritable name error)) = ⊥

-- A page is shown by an engine that holds these texts. If a text is held under its name, what its tree means was sent
-- on the value, up to an end that has this status, and no more bytes than a limit allows.
abbrev pub ShowsPage : Texts → Page → ℕ → Option (List ℕ) → Option (List ℕ) → Type 0
ShowsPage e page status old new = (held : Stored) (tree : Statements) → e.texts page.name.now ≡ Some held
    → ∥ HasTree held.syntax held.text tree ∥₁
    → (end : Result (Unit {0}) Failure) × (status ≡ tool_end_status end)
    × SendsWhole (λ r. SendsPage page.limits e (Some page.name.now) held.text tree (view page.value.now) r old new) end
    × StaysWithin page.limits.output old new
