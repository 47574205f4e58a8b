-- What renderings answer, as texts and faults.
use Rattle.std.proofs.Common.{◌≡◌, ◌⊎◌, ◌↔◌, ◌||◌, ◌∙◌, ℕ, List, Bool, true, false, Contains, Option, Some, None, is_some, IsNone, IsSomeAnd, Result, Ok, Err, IfErr, String, Global, string_bytes, refl, sym, ap, subst, inl, inr}
use Rattle.upon_types.specs.Error.{fault_of}
use Rattle.upon_types.specs.Fault.{Fault, out_of_memory}
use Rattle.upon_types.specs.Tree.{Statements}
use Rattle.upon_types.specs.Val.{Val}
use Rattle.upon_types.specs.declared.error.Error.{Error}
use Rattle.upon_language_spec.specs.Grammar.{HasTree}
use Rattle.upon_language_spec.specs.Search.{DelimiterText}
use Rattle.upon_syntax.specs.TagReading.{IsSyntaxError}
use Rattle.upon_meaning_spec.specs.Outcome.{Outcome}
use Rattle.upon_vm.specs.Course.{Course}
use Rattle.upon_vm.specs.Within.{FitsLimits}
use Rattle.upon_vm.specs.declared.limits.Limits.{Limits}
use Rattle.upon_engine.specs.Faults.{IsSyntaxErrorOf}
use Rattle.upon_engine.specs.Texts.{Stored, Texts}
use Rattle.upon_engine.specs.Theorem.{meaning}
use Rattle.upon_engine.specs.Within.{runs}
use Rattle.std.specs.Prelude.{⊤}
use Rattle.upon_calls.specs.Failure.{is_memory_kind, IsFaultReport, RefusedIf}
use Rattle.upon_vm.specs.Limits.{is_limited}
use Rattle.upon_calls.specs.Rendering.{AnswersIf, EndsWith, FailsNamed, FailsText, IsFirstNamed, IsFirstOfOne, IsMeaning, MeansNamed, MeansText}
use Rattle.upon_calls.specs.Work.{WorkFails}
use Rattle.upon_calls.specs.declared.failure.Argument.TheVariants.{Name}
use Rattle.upon_calls.specs.declared.failure.Failure.{Failure}
use Rattle.upon_calls.specs.declared.failure.Failure.TheVariants.{Faults, Refused, NotText, OutOfMemory}

not_memory : (e : Error) → is_memory_kind (fault_of e).kind ≡ false → fault_of e ≡ out_of_memory → ⊥
not_memory e is out = let no : true ≡ false = sym (ap (λ f. is_memory_kind f.kind) out) ∙ is in absurd cc

-- a report of a fault that is so, if memory was not out
pub reported : (Is : Fault → Type 0) (Absent : Type 0) (fault : Fault) (f : Failure) → IsFaultReport fault f → (is_memory_kind fault.kind ≡ false → Is fault) → WorkFails Is Absent f
reported Is Absent fault (Faults pictures) said so = (fault, said.0, said.1, so said.0)
reported Is Absent fault (Refused argument reason) said so = absurd said
reported Is Absent fault (NotText argument) said so = absurd said
reported Is Absent fault OutOfMemory said so = tt

-- what fails later fails
failed_later : (First Ends : Fault → Type 0) (Absent : Type 0) (f : Failure) → WorkFails Ends Absent f → WorkFails (λ fault. First fault ⊎ Ends fault) Absent f
failed_later First Ends Absent (Faults pictures) said = (said.0, said.1, said.2, inr said.3)
failed_later First Ends Absent (Refused argument reason) said = said
failed_later First Ends Absent (NotText argument) said = said
failed_later First Ends Absent OutOfMemory said = said

pub later_fails : {A : Type 0} (First Ends : Fault → Type 0) (Absent : Type 0) (r : Result A Failure) → IfErr r (WorkFails Ends Absent) → IfErr r (WorkFails (λ fault. First fault ⊎ Ends fault) Absent)
later_fails First Ends Absent (Ok a) said = tt
later_fails First Ends Absent (Err f) said = failed_later First Ends Absent f said

-- a name is refused that nothing is held under
pub no_name : (Ends : Fault → Type 0) (Absent : Type 0) (f : Failure) → RefusedIf Name ⊤ f → Absent → WorkFails Ends Absent f
no_name Ends Absent (Faults pictures) said absent = absurd said
no_name Ends Absent (Refused argument reason) said absent = (said.0, absent)
no_name Ends Absent (NotText argument) said absent = absurd said
no_name Ends Absent OutOfMemory said absent = tt

-- ---- no limit is set
fits_unlimited : {Q : Type 0} (limits : Limits) (steps output values : Option ℕ) → limits.steps ≡ steps → limits.output ≡ output → limits.values ≡ values → ((is_some steps || is_some output) || is_some values) ≡ false → (ran : Course Q) (o : Outcome Q) → FitsLimits limits ran o
fits_unlimited limits None None None no_steps no_output no_values is ran o = record {
  steps = rw no_steps tt;
  output = rw no_output tt;
  values = λ count point there. rw no_values tt;
}
fits_unlimited limits None None (Some n) no_steps no_output no_values is ran o = absurd cc
fits_unlimited limits None (Some n) values no_steps no_output no_values is ran o = absurd cc
fits_unlimited limits (Some k) output values no_steps no_output no_values is ran o = absurd cc

module _ (limits : Limits) (e : Texts) (name : Option (List ℕ)) (source : List ℕ) (tree : Statements) (v : Val) where
  -- the text is what the tree means
  means_if : (limited : Bool) → is_limited limits ≡ limited → (text : String Global) → AnswersIf limited limits e name source tree v (Ok text) → IsMeaning limits e name source tree v (string_bytes text)
  means_if false is text said = λ table it.
      ((said table it).0, (said table it).1, fits_unlimited limits limits.steps limits.output limits.values refl refl refl is (runs e table name source tree v) (meaning e table name source tree v))
  means_if true is text said = λ table it. said table it

  pub means : (text : String Global) → AnswersIf (is_limited limits) limits e name source tree v (Ok text) → IsMeaning limits e name source tree v (string_bytes text)
  means text said = means_if (is_limited limits) refl text said

  -- the fault is the one with which it ends
  ends_if : (limited : Bool) → is_limited limits ≡ limited → (error : Error) → is_memory_kind (fault_of error).kind ≡ false → AnswersIf limited limits e name source tree v (Err error) → EndsWith limits e name source tree v (fault_of error)
  ends_if false is error memory said = λ table it. elim (said table it) [
    | inl ended ↦ inl (ended, fits_unlimited limits limits.steps limits.output limits.values refl refl refl is (runs e table name source tree v) (meaning e table name source tree v))
    | inr out ↦ absurd (not_memory error memory out)
  ]
  ends_if true is error memory said = λ table it. elim (said table it) [
    | inl ended ↦ inl ended
    | inr other ↦ elim other [
      | inl out ↦ absurd (not_memory error memory out)
      | inr names ↦ inr names
    ]
  ]

  pub ends : (error : Error) → is_memory_kind (fault_of error).kind ≡ false → AnswersIf (is_limited limits) limits e name source tree v (Err error) → EndsWith limits e name source tree v (fault_of error)
  ends error memory said = ends_if (is_limited limits) refl error memory said

-- ---- by whether a limit is set
pub answered_if : (limits : Limits) (e : Texts) (name : Option (List ℕ)) (source : List ℕ) (tree : Statements) (v : Val) (limited b : Bool) (r : Result (String Global) Error) → limited ≡ b → AnswersIf b limits e name source tree v r → AnswersIf limited limits e name source tree v r
answered_if limits e name source tree v limited b r is said = subst (λ b. AnswersIf b limits e name source tree v r) (sym is) said

pub some_answered : (limits : Limits) (e : Texts) (name : Option (List ℕ)) (source : List ℕ) (tree : Statements) (v : Val) (limited b : Bool) (o : Option (Result (String Global) Error)) → limited ≡ b → IsSomeAnd o (AnswersIf b limits e name source tree v) → IsSomeAnd o (AnswersIf limited limits e name source tree v)
some_answered limits e name source tree v limited b o is said = subst (λ b. IsSomeAnd o (AnswersIf b limits e name source tree v)) (sym is) said

-- ---- the template of a name
module _ (limits : Limits) (e : Texts) (name : List ℕ) (v : Val) (o : Option (Result (String Global) Error))
    (each : (n : List ℕ) (held : Stored) → e.texts n ≡ Some held → (tree : Statements) × ∥ HasTree held.syntax held.text tree ∥₁)
    (answer : (held : Stored) (tree : Statements) → e.texts name ≡ Some held → ∥ HasTree held.syntax held.text tree ∥₁ → IsSomeAnd o (AnswersIf (is_limited limits) limits e (Some name) held.text tree v))
    (absent : IsNone o ↔ (e.texts name ≡ None)) where
  -- it is held, with its tree
  there : (r : Result (String Global) Error) → o ≡ Some r → (s : Option Stored) → e.texts name ≡ s → (held : Stored) × (tree : Statements) × (e.texts name ≡ Some held) × ∥ HasTree held.syntax held.text tree ∥₁ × AnswersIf (is_limited limits) limits e (Some name) held.text tree v r
  there r is None none = let no : true ≡ false = subst IsNone is (absent.1 none) in absurd cc
  there r is (Some held) here =
      let has = each name held here in
      (held, has.0, here, has.1, subst (λ o. IsSomeAnd o (AnswersIf (is_limited limits) limits e (Some name) held.text has.0 v)) is (answer held has.0 here has.1))

  pub named_means : (text : String Global) → o ≡ Some (Ok text) → MeansNamed limits e name v (string_bytes text)
  named_means text is =
      let t = there (Ok text) is (e.texts name) refl in
      (each, t.0, t.1, t.2, t.3, means limits e (Some name) t.0.text t.1 v text t.4)

  pub named_fails : (error : Error) → o ≡ Some (Err error) → is_memory_kind (fault_of error).kind ≡ false → FailsNamed limits e name v (fault_of error)
  named_fails error is memory =
      let t = there (Err error) is (e.texts name) refl in
      (each, t.0, t.1, t.2, t.3, ends limits e (Some name) t.0.text t.1 v error memory t.4)

-- ---- a text
pub text_means : (limits : Limits) (e : Texts) (source compiled : List ℕ) (tree : Statements) (v : Val) (text : String Global) → compiled ≡ source → HasTree e.syntax source tree → AnswersIf (is_limited limits) limits e None compiled tree v (Ok text) → MeansText limits e source v (string_bytes text)
text_means limits e source compiled tree v text is has said =
    (tree, has, means limits e None source tree v text (subst (λ s. AnswersIf (is_limited limits) limits e None s tree v (Ok text)) is said))

pub text_ends : (limits : Limits) (e : Texts) (source compiled : List ℕ) (tree : Statements) (v : Val) (error : Error) → compiled ≡ source → HasTree e.syntax source tree → AnswersIf (is_limited limits) limits e None compiled tree v (Err error) → is_memory_kind (fault_of error).kind ≡ false → FailsText limits e source v (fault_of error)
text_ends limits e source compiled tree v error is has said memory =
    inr (tree, has, ends limits e None source tree v error memory (subst (λ s. AnswersIf (is_limited limits) limits e None s tree v (Err error)) is said))

-- its first fault
pub text_first : (limits : Limits) (e : Texts) (source : List ℕ) (v : Val) (error : Error) → IsSyntaxError e.syntax source error → is_memory_kind (fault_of error).kind ≡ false → FailsText limits e source v (fault_of error)
text_first limits e source v error (inl out) memory = absurd (not_memory error memory out)
text_first limits e source v error (inr first) memory = inl first

-- ---- the templates of a call
first_named : (name : List ℕ) (delimiters : List DelimiterText) (s : List ℕ) (error : Error) → IsSyntaxErrorOf name delimiters s error → is_memory_kind (fault_of error).kind ≡ false → IsFirstNamed name delimiters s (fault_of error)
first_named name delimiters s error (inl out) memory = absurd (not_memory error memory out)
first_named name delimiters s error (inr first) memory = first

pub first_of_one : (delimiters engine : List DelimiterText) (sources : List (List ℕ × List ℕ)) (s : List ℕ × List ℕ) (error : Error) → engine ≡ delimiters → Contains sources s → IsSyntaxErrorOf s.0 engine s.1 error → is_memory_kind (fault_of error).kind ≡ false → IsFirstOfOne delimiters sources (fault_of error)
first_of_one delimiters engine sources s error is among said memory =
    (s, among, first_named s.0 delimiters s.1 error (subst (λ d. IsSyntaxErrorOf s.0 d s.1 error) is said) memory)
