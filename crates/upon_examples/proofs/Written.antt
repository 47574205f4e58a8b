-- What a rendering writes follows what was there.
use Rattle.std.proofs.Common.{◌≡◌, ◌∙◌, ◌++◌, [], ℕ, List, Bool, Option, Some, Result, Ok, Err, unwrap_or, ap, sym, inl, inr}
use Rattle.std.proofs.lemmas.List.{append-nil}
use Rattle.upon.specs.DeclaredError.{Error}
use Rattle.upon.specs.Engine.{Template}
use Rattle.upon.specs.Outcome.{Outcome}
use Rattle.upon.specs.Reports.{IsAnyIo, WritesReported, WritesAndLeaves}
use Rattle.upon_store.specs.Stored.{RendersStored}
use Rattle.upon_store.specs.declared.store.StoreError.{StoreError}
use Rattle.upon_store.specs.declared.store.StoreError.TheVariants.{BadPath, NotFound, Engine, OutOfMemory}

-- bytes begin with others
abbrev pub Follows : List ℕ → List ℕ → Type 0
Follows old new = (written : List ℕ) × (new ≡ old ++ written)

nothing_follows : (old new : List ℕ) → Some new ≡ Some old → Follows old new
nothing_follows old new same = ([], ap (λ known. unwrap_or known []) same ∙ sym (append-nil old))

fault_follows : {Q : Type 0} (limit : ℕ) (e : Error) (old new : List ℕ) (o : Outcome Q) → WritesReported limit IsAnyIo (Err e) (Some old) (Some new) o → Follows old new
fault_follows limit e old new o (inl said) = (o.text, said.1)
fault_follows limit e old new o (inr said) = (said.1.0, said.1.3)

pub page_follows : {Q : Type 0} (path : Bool) (held : Option Template) (limit : ℕ) (r : Result (Unit {0}) StoreError) (old new : List ℕ) (means : Template → Outcome Q) → RendersStored path held limit r (Some old) (Some new) means → Follows old new
page_follows path held limit (Ok u) old new means said = ((means said.0).text, said.3.1)
page_follows path held limit (Err BadPath) old new means said = nothing_follows old new said.1
page_follows path held limit (Err NotFound) old new means said = nothing_follows old new said.2
page_follows path held limit (Err (Engine e)) old new means said = fault_follows limit e old new (means said.0) said.3
page_follows path held limit (Err OutOfMemory) old new means said = absurd said

pub left_follows : {Q : Type 0} (limit : ℕ) (own : Error → Type 0) (r : Result (Unit {0}) Error) (old new : List ℕ) (o : Outcome Q) (next : Q) → WritesAndLeaves limit own r (Some old) (Some new) o next → Follows old new
left_follows limit own (Ok u) old new o next said = (o.text, said.1)
left_follows limit own (Err e) old new o next (inl said) = (o.text, said.1)
left_follows limit own (Err e) old new o next (inr said) = (said.1.0, said.1.3)
