-- An engine that is built: the table of its texts, and what may fail on the way.
use Rattle.std.proofs.Common.{◌≡◌, ℕ, List, Bool, true, false, cond, Option, Some, Result, Ok, Err, IsErrAnd, String, refl, sym, ap, ◌∙◌, inl, inr}
use Rattle.std.specs.Map.{update}
use Rattle.std.specs.Str.{bytes_eq}
use Rattle.std.specs.declared.alloc.Global.{Global}
use Rattle.upon_types.specs.Error.{fault_of}
use Rattle.upon_types.specs.Fault.{syntax, out_of_memory}
use Rattle.upon_types.specs.Tree.{Statements}
use Rattle.upon_types.specs.Val.{Val}
use Rattle.upon_types.specs.declared.error.Error.{Error}
use Rattle.upon_language_spec.specs.Grammar.{HasTree}
use Rattle.upon_language_spec.specs.Search.{DelimiterText}
use Rattle.upon_meaning_spec.specs.Alone.{fault_of_end}
use Rattle.upon_meaning_spec.specs.Engine.{Table, Template}
use Rattle.upon_meaning_spec.specs.Outcome.{good, Outcome}
use Rattle.upon_engine.specs.Answers.{AnswersText}
use Rattle.upon_engine.specs.Faults.{IsSyntaxErrorOf}
use Rattle.upon.specs.RenderingLaws.{IsTextOrMemory}
use Rattle.upon_engine.specs.Texts.{Stored, Texts}
use Rattle.upon_engine.specs.Theorem.{AnswersTree, IsTemplateOf, IsTable}

-- one entry more on both sides
put_at : (here : Bool) (s : Stored) (t : Statements) → ∥ HasTree s.syntax s.text t ∥₁ → (o : Option Stored) (u : Option Template) → IsTemplateOf o u
    → IsTemplateOf (cond here (Some s) o) (cond here (Some (record { source = s.text; tree = t })) u)
put_at true s t has o u is = (refl, has)
put_at false s t has o u is = is

pub put_in : (texts : List ℕ → Option Stored) (table : Table) (key : List ℕ) (s : Stored) (t : Statements) → ∥ HasTree s.syntax s.text t ∥₁ → IsTable texts table
    → IsTable (update bytes_eq texts key (Some s)) (update bytes_eq table key (Some (record { source = s.text; tree = t })))
put_in texts table key s t has is other = put_at (bytes_eq key other) s t has (texts other) (table other) (is other)

-- adding a text that has a tree fails only as memory is out
pub no_fault : (key : List ℕ) (d : List DelimiterText) (s : List ℕ) (e : Error) (t : Statements) → IsSyntaxErrorOf key d s e
    → ((fault_of e).kind ≡ syntax → (other : Statements) → HasTree d s other → ⊥) → HasTree d s t → fault_of e ≡ out_of_memory
no_fault key d s e t (inl out) none has = out
no_fault key d s e t (inr first) none has = absurd (none (ap (λ f. f.kind) first.3) t has)

-- an error that is handed on
pub handed_out : {A : Type 0} (e : Error) (r : Result A Error) → IsErrAnd r (λ x. x ≡ e) → fault_of e ≡ out_of_memory → IsErrAnd r (λ x. fault_of x ≡ out_of_memory)
handed_out e (Ok a) is out = absurd is
handed_out e (Err x) is out = ap fault_of is ∙ out

-- memory that is out is an answer to each meaning
pub out_is_text : (text : List ℕ) (r : Result (String Global) Error) → IsErrAnd r (λ e. fault_of e ≡ out_of_memory) → IsTextOrMemory text r
out_is_text text (Ok s) is = absurd is
out_is_text text (Err e) is = is

pub out_answers : (e : Texts) (name : Option (List ℕ)) (source : List ℕ) (tree : Statements) (v : Val) (r : Result (String Global) Error) → IsErrAnd r (λ e. fault_of e ≡ out_of_memory) → AnswersTree e name source tree v r
out_answers e name source tree v (Ok s) is table it = absurd is
out_answers e name source tree v (Err x) is table it = inr is

-- where the meaning ends well, its text is answered
pub good_only : {Q : Type 0} (limit : ℕ) (o : Outcome Q) (text : List ℕ) → o.end ≡ good → o.text ≡ text → (r : Result (String Global) Error) → AnswersText limit o r → IsTextOrMemory text r
good_only limit o text ends is (Ok s) said = said.1 ∙ is
good_only limit o text ends is (Err e) (inr out) = out
good_only limit o text ends is (Err e) (inl fault) =
    let none : fault_of_end limit good ≡ Some (fault_of e) = sym (ap (fault_of_end limit) ends) ∙ fault in
    absurd cc
