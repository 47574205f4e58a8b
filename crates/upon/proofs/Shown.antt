-- What an output has received as a run ends.
use Rattle.std.proofs.Common.{◌≡◌, ℕ, List, [], Option, Some, None, Result, Ok, Err, IsErrAnd, refl, sym, ap, subst, ◌∙◌, inl, inr}
use Rattle.std.specs.Io.KnownBytes.{Appends, Keeps}
use Rattle.std.specs.Str.{bytes_eq}
use Rattle.std.proofs.lemmas.List.{append-nil}
use Rattle.std.proofs.lemmas.Map.{update_same}
use Rattle.std.proofs.lemmas.Slice.Eq.{bytes_eq-Decides}
use Rattle.upon_types.specs.Tree.{Statements}
use Rattle.upon_types.specs.Val.{Val}
use Rattle.upon_types.specs.declared.error.Error.{Error}
use Rattle.upon_language_spec.specs.DefaultDelimiters.{default_delimiters}
use Rattle.upon_language_spec.specs.Grammar.{HasTree}
use Rattle.upon_engine.specs.Faults.{IsSyntaxErrorOf}
use Rattle.upon_engine.specs.Texts.{Stored, Texts}
use Rattle.upon_engine.specs.Theorem.{Sends, meaning}
use Rattle.upon_vm.specs.Reports.{IsAnyIo}
use Rattle.upon.specs.Program.{holding, RendersValue, Shown}

pub keeps_same : (a : Option (List ℕ)) → Keeps a a
keeps_same None = tt
keeps_same (Some xs) = refl

pub appends_kept : (old mid new : Option (List ℕ)) (text : List ℕ) → Appends old mid text → Keeps mid new → Appends old new text
appends_kept None mid new text appends keeps = tt
appends_kept (Some xs) None new text appends keeps = absurd appends
appends_kept (Some xs) (Some ys) None text appends keeps = absurd keeps
appends_kept (Some xs) (Some ys) (Some zs) text appends keeps = keeps ∙ appends

-- what an engine holds to which one text was added
abbrev held : List ℕ → Stored
held text = record { text = text; syntax = default_delimiters }

held_here : (name text : List ℕ) → (holding name text).texts name ≡ Some (held text)
held_here name text = update_same bytes_eq (λ n. None) name (Some (held text)) name ((bytes_eq-Decides name name).1 refl)

-- what was sent of it was shown
pub shown : (e : Texts) (name text : List ℕ) (v : Val) (r : Result (Unit {0}) Error) (old new : Option (List ℕ)) → e ≡ holding name text
    → ((other : List ℕ) (s : Stored) → e.texts other ≡ Some s → (tree : Statements) × ∥ HasTree s.syntax s.text tree ∥₁)
    → ((s : Stored) (tree : Statements) → e.texts name ≡ Some s → ∥ HasTree s.syntax s.text tree ∥₁ → Sends e (Some name) s.text tree v r old new)
    → Shown name text v r old new
shown e name text v r old new is each says =
    let there : e.texts name ≡ Some (held text) = ap (λ e. e.texts name) is ∙ held_here name text in
    let has = each name (held text) there in
    (has.0, has.1, subst (λ e. Sends e (Some name) text has.0 v r old new) is (says (held text) has.0 there has.1))

-- and stays so as the output is flushed
pub flushed : (name text : List ℕ) (v : Val) (old mid new : Option (List ℕ)) → Keeps mid new → Shown name text v (Ok tt) old mid → Shown name text v (Ok tt) old new
flushed name text v old mid new keeps shown = (
  shown.0,
  shown.1,
  λ table it.
      let said = shown.2 table it in
      (said.0, appends_kept old mid new (meaning (holding name text) table (Some name) text shown.0 v).text said.1 keeps),
)

pub not_flushed : (name text : List ℕ) (v : Val) (old mid new : Option (List ℕ)) (e : Error) → IsAnyIo e → Keeps mid new → Shown name text v (Ok tt) old mid → Shown name text v (Err e) old new
not_flushed name text v old mid new e io keeps shown = (
  shown.0,
  shown.1,
  λ table it.
      let said = shown.2 table it in
      let whole = (meaning (holding name text) table (Some name) text shown.0 v).text in
      inr (inr io, (whole, [], sym (append-nil whole), appends_kept old mid new whole said.1 keeps)),
)

-- ---- what is answered at an error
-- the text is refused
pub refused : (name text : List ℕ) (v : Val) (e : Error) (r : Result (Unit {0}) Error) (a : Option (List ℕ)) → IsErrAnd r (λ x. x ≡ e) → IsSyntaxErrorOf name default_delimiters text e → RendersValue name text v r a a
refused name text v e (Ok u) a is faulty = absurd is
refused name text v e (Err x) a is faulty = inr (subst (IsSyntaxErrorOf name default_delimiters text) (sym is) faulty, keeps_same a)

-- its rendering ended
pub stopped : (name text : List ℕ) (v : Val) (e : Error) (q r : Result (Unit {0}) Error) (old new : Option (List ℕ)) → q ≡ Err e → IsErrAnd r (λ x. x ≡ e) → Shown name text v q old new → RendersValue name text v r old new
stopped name text v e q (Ok u) old new was is shown = absurd is
stopped name text v e q (Err x) old new was is shown = inl (subst (λ q. Shown name text v q old new) (was ∙ ap Err (sym is)) shown)

-- it was not flushed
pub unflushed : (Q : Error → Type 0) (name text : List ℕ) (v : Val) (q r : Result (Unit {0}) Error) (old mid new : Option (List ℕ)) → q ≡ Ok tt → IsErrAnd r (λ x. IsAnyIo x × Q x) → Keeps mid new → Shown name text v q old mid → RendersValue name text v r old new
unflushed Q name text v q (Ok u) old mid new was is keeps shown = absurd is
unflushed Q name text v q (Err x) old mid new was is keeps shown = inl (not_flushed name text v old mid new x is.0 keeps (subst (λ q. Shown name text v q old mid) was shown))

pub whole : (name text : List ℕ) (v : Val) (q : Result (Unit {0}) Error) (old mid new : Option (List ℕ)) → q ≡ Ok tt → Keeps mid new → Shown name text v q old mid → Shown name text v (Ok tt) old new
whole name text v q old mid new was keeps shown = flushed name text v old mid new keeps (subst (λ q. Shown name text v q old mid) was shown)
