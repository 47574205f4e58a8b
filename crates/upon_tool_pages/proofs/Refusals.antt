-- Why a run ends before its work.
use Rattle.std.proofs.Common.{◌≡◌, ℕ, List, Bor, Option, Some, None, Result, Ok, Err, IfErr, IsErrAnd, IsSomeAnd, refl, sym, subst, inl, inr}
use Rattle.upon_types.specs.declared.error.Error.{Error}
use Rattle.upon_tool_data.specs.declared.fault.ContextFault.{ContextFault}
use Rattle.upon_tool_io.specs.declared.files.ReadFault.{ReadFault}
use Rattle.upon_tool_io.specs.declared.files.ReadFault.TheVariants.{Unreadable as FileUnreadable, NotText as FileNotText, Outside as FileOutside, OutOfMemory}
use Rattle.upon_tool_messages.specs.Status.{tool_status, IsMemory}
use Rattle.upon_tool_messages.specs.declared.failure.Failure.{Failure}
use Rattle.upon_tool_messages.specs.declared.failure.Failure.TheVariants.{Unreadable, NotText, Data, Unwritable, Fault}
use Rattle.upon_tool_pages.specs.Refusals.{RefusesOrFails}
use Rattle.upon_tool_data.specs.Sources.{IsNoTextOf}
use Rattle.upon_tool_io.specs.World.{World, RefusesName}
use Rattle.upon_tool_pages.specs.Sources.{IsUnlisted, IsUnread, Unread}

-- a failure that is handed on
pub handed_on : {A : Type 0} (P : Failure → Type 0) (f : Failure) (r : Result A Failure) → IsErrAnd r (λ x. x ≡ f) → P f → IfErr r P
handed_on P f (Ok a) is said = absurd is
handed_on P f (Err x) is said = subst P (sym is) said

module _ (OfData : ContextFault → Type 0) (Named : Bor (List ℕ) → ReadFault → Type 0) (Faulty : Error → Type 0) where
  -- memory was out
  pub of_memory : (f : Failure) → IsMemory f → RefusesOrFails OfData Named Faulty f
  of_memory (Unreadable name error) out = absurd out
  of_memory (NotText name) out = absurd out
  of_memory (Data fault) out = absurd out
  of_memory (Unwritable name error) out = absurd out
  of_memory (Fault error) out = inl out

  pub memory_handed_on : {A : Type 0} (r : Result A Failure) → IsErrAnd r (λ f. IsMemory f × (tool_status f ≡ 1)) → IfErr r (RefusesOrFails OfData Named Faulty)
  memory_handed_on (Ok a) out = absurd out
  memory_handed_on (Err f) out = of_memory f out.0

  -- a file or folder was not read
  unread_so : (name : Bor (List ℕ)) (fault : ReadFault) (f : Failure) → Named name fault → Unread name fault f → RefusesOrFails OfData Named Faulty f
  unread_so name (FileUnreadable error) f named is = subst (RefusesOrFails OfData Named Faulty) (sym is) (inl named)
  unread_so name FileNotText f named is = subst (RefusesOrFails OfData Named Faulty) (sym is) named
  unread_so name FileOutside f named is = subst (RefusesOrFails OfData Named Faulty) (sym is.1) (inr named)
  unread_so name OutOfMemory f named is = of_memory f is

  pub of_unread : (world : World) (name : Bor (List ℕ)) (input : Option (List ℕ)) (f : Failure) → ((fault : ReadFault) → IsNoTextOf world name.now input fault → Named name fault) → IsUnread world name input f → RefusesOrFails OfData Named Faulty f
  of_unread world name input f named unread = unread_so name unread.0 f (named unread.0 unread.2) unread.1

  pub of_unread_at : (world : World) (at : Option (Bor (List ℕ))) (input : Option (List ℕ)) (f : Failure) → ((name : Bor (List ℕ)) (fault : ReadFault) → at ≡ Some name → IsNoTextOf world name.now input fault → Named name fault) → IsSomeAnd at (λ name. IsUnread world name input f)
      → RefusesOrFails OfData Named Faulty f
  of_unread_at world None input f named unread = absurd unread
  of_unread_at world (Some name) input f named unread = of_unread world name input f (λ fault. named name fault refl) unread

  pub of_unlisted : (world : World) (at : Option (Bor (List ℕ))) (f : Failure) → ((name : Bor (List ℕ)) (fault : ReadFault) → at ≡ Some name → RefusesName world name.now fault → Named name fault) → IsSomeAnd at (λ name. IsUnlisted world name f) → RefusesOrFails OfData Named Faulty f
  of_unlisted world None f named unread = absurd unread
  of_unlisted world (Some name) f named unread = unread_so name unread.0 f (named name unread.0 refl unread.2) unread.1

  -- there is no context
  of_data : (fault : ContextFault) (f : Failure) → f ≡ Data fault → OfData fault → RefusesOrFails OfData Named Faulty f
  of_data fault f is refused = subst (RefusesOrFails OfData Named Faulty) (sym is) refused

  pub data_handed_on : {A : Type 0} (fault : ContextFault) (r : Result A Failure) → IsErrAnd r (λ f. f ≡ Data fault) → OfData fault → IfErr r (RefusesOrFails OfData Named Faulty)
  data_handed_on fault (Ok a) is refused = absurd is
  data_handed_on fault (Err f) is refused = of_data fault f is refused

  -- a failure of a part, which knows of no data
  pub of_part : (Mine : Bor (List ℕ) → ReadFault → Type 0) (Own : Error → Type 0) → ((name : Bor (List ℕ)) (fault : ReadFault) → Mine name fault → Named name fault) → ((e : Error) → Own e → Faulty e)
      → (f : Failure) → RefusesOrFails (λ fault. ⊥) Mine Own f → RefusesOrFails OfData Named Faulty f
  of_part Mine Own names faults (Unreadable name error) (inl is) = inl (names name (FileUnreadable error) is)
  of_part Mine Own names faults (Unreadable name error) (inr is) = inr (names name FileOutside is)
  of_part Mine Own names faults (NotText name) is = names name FileNotText is
  of_part Mine Own names faults (Data fault) is = absurd is
  of_part Mine Own names faults (Unwritable name error) is = absurd is
  of_part Mine Own names faults (Fault error) (inl out) = inl out
  of_part Mine Own names faults (Fault error) (inr own) = inr (faults error own)
