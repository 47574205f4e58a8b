-- The texts of pages.
use Rattle.std.proofs.Common.{◌≡◌, ◌⊎◌, ℕ, List, Bor, Option, Some, None, Result, Ok, Err, IsErr, IfErr, IsErrAnd, IsSomeAnd, String, string_bytes, refl, sym, ap, subst}
use Rattle.std.specs.declared.alloc.Global.{Global}
use Rattle.upon_types.specs.Error.{fault_of}
use Rattle.upon_types.specs.Fault.{out_of_memory}
use Rattle.upon_types.specs.Tree.{Statements}
use Rattle.upon_types.specs.Val.{Val}
use Rattle.upon_types.specs.declared.error.Error.{Error}
use Rattle.upon_vm.specs.declared.limits.Limits.{Limits}
use Rattle.upon_engine.specs.Texts.{Texts}
use Rattle.upon_engine.specs.Theorem.{AnswersTree}
use Rattle.upon_engine.specs.Within.{AnswersWithin}
use Rattle.upon_tool_many.specs.Build.{FramesText}
use Rattle.upon_tool_many.specs.Pages.{as_page, AnswersIn, IsHeldText, IsMemoryOut}
use Rattle.upon_tool_many.specs.Values.{IsContentValue}
use Rattle.upon_tool_many.specs.declared.pages.PageFault.{PageFault}
use Rattle.upon_tool_many.specs.declared.pages.PageFault.TheVariants.{Fault, NoTemplate}

pub answers_within : (limits : Option Limits) (l : Limits) (e : Texts) (name : Option (List ℕ)) (text : List ℕ) (tree : Statements) (v : Val) (r : Result (String Global) Error) → limits ≡ Some l → AnswersWithin e l name text tree v r → AnswersIn limits e name text tree v r
answers_within limits l e name text tree v r is said = subst (λ limits. AnswersIn limits e name text tree v r) (sym is) said

pub answers_whole : (limits : Option Limits) (e : Texts) (name : Option (List ℕ)) (text : List ℕ) (tree : Statements) (v : Val) (r : Result (String Global) Error) → limits ≡ None → AnswersTree e name text tree v r → AnswersIn limits e name text tree v r
answers_whole limits e name text tree v r is said = subst (λ limits. AnswersIn limits e name text tree v r) (sym is) said

-- an answer that is there, within limits, is an answer where these limits are set
pub some_within : (limits : Option Limits) (l : Limits) (e : Texts) (name : Option (List ℕ)) (text : List ℕ) (tree : Statements) (v : Val) (r : Option (Result (String Global) Error)) → limits ≡ Some l → IsSomeAnd r (AnswersWithin e l name text tree v) → IsSomeAnd r (AnswersIn limits e name text tree v)
some_within limits l e name text tree v r is said = subst (λ limits. IsSomeAnd r (AnswersIn limits e name text tree v)) (sym is) said

pub some_whole : (limits : Option Limits) (e : Texts) (name : Option (List ℕ)) (text : List ℕ) (tree : Statements) (v : Val) (r : Option (Result (String Global) Error)) → limits ≡ None → IsSomeAnd r (AnswersTree e name text tree v) → IsSomeAnd r (AnswersIn limits e name text tree v)
some_whole limits e name text tree v r is said = subst (λ limits. IsSomeAnd r (AnswersIn limits e name text tree v)) (sym is) said

-- the fault of a text that has no tree is that of a page
pub refused_page : (P : Error → Type 0) (answer : Result (String Global) Error) (result : Result (String Global) PageFault) → result ≡ as_page answer → IsErr answer × IfErr answer P → (error : Error) × P error × (result ≡ Err (Fault error))
refused_page P (Ok text) result is refused = absurd (cc (refused.0))
refused_page P (Err error) result is refused = (error, refused.1, is)

-- an answer is never that there is no template
pub not_absent : (answer : Result (String Global) Error) (result : Result (String Global) PageFault) → result ≡ as_page answer → result ≡ Err NoTemplate → ⊥
not_absent (Ok text) result is absent = absurd cc
not_absent (Err error) result is absent = absurd cc

-- memory was out
pub memory_out : (r : Result (String Global) PageFault) → IsErrAnd r (λ fault. (error : Error) × (fault_of error ≡ out_of_memory) × (fault ≡ Fault error)) → IsMemoryOut r
memory_out (Ok text) said = absurd said
memory_out (Err fault) said = (said.0, said.1, ap Err said.2)

-- ---- in a layout
pub frames_none : (limits : Option Limits) (e : Texts) (layout : Option (Bor (List ℕ))) (context : Val) (text : String Global) → layout ≡ None → FramesText limits e layout context (Ok text) (Ok text)
frames_none limits e layout context text is = subst (λ layout. FramesText limits e layout context (Ok text) (Ok text)) (sym is) refl

pub frames_some : (limits : Option Limits) (e : Texts) (layout : Option (Bor (List ℕ))) (name : Bor (List ℕ)) (context : Val) (text : String Global) (result : Result (String Global) PageFault) → layout ≡ Some name
    → ((v : Val) × IsContentValue context (string_bytes text) v × IsHeldText limits e name.now v result) ⊎ IsMemoryOut result → FramesText limits e layout context (Ok text) result
frames_some limits e layout name context text result is said = subst (λ layout. FramesText limits e layout context (Ok text) result) (sym is) said
