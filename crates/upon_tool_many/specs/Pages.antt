-- The texts of pages, and how pages end.
use Rattle.std.specs.Prelude.{◌≡◌, ◌&&◌, ℕ, List, [], ◌∷◌, Bool, true, false, not, Option, Some, None, Result, Ok, Err, String, string_bytes}
use Rattle.std.specs.Bool.{MatchBool}
use Rattle.std.specs.declared.alloc.Global.{Global}
use Rattle.upon_types.specs.Error.{fault_of}
use Rattle.upon_types.specs.Fault.{out_of_memory}
use Rattle.upon_types.specs.Tree.{Statements}
use Rattle.upon_types.specs.Val.{Val}
use Rattle.upon_types.specs.declared.error.Error.{Error}
use Rattle.upon_language_spec.specs.Grammar.{HasTree}
use Rattle.upon_syntax.specs.TagReading.{IsSyntaxError}
use Rattle.upon_vm.specs.declared.limits.Limits.{Limits}
use Rattle.upon_engine.specs.Texts.{Stored, Texts}
use Rattle.upon_engine.specs.Theorem.{AnswersTree}
use Rattle.upon_engine.specs.Within.{AnswersWithin}
use Rattle.upon_tool_io.specs.World.{World}
use Rattle.upon_tool_io.specs.Written.{written_as, Grows, Log}
use Rattle.upon_tool_many.specs.declared.pages.DonePage.{DonePage}
use Rattle.upon_tool_many.specs.declared.pages.PageEnd.{PageEnd}
use Rattle.upon_tool_many.specs.declared.pages.PageEnd.TheVariants.{Written, Unchanged, Failed}
use Rattle.upon_tool_many.specs.declared.pages.PageFault.{PageFault}
use Rattle.upon_tool_many.specs.declared.pages.PageFault.TheVariants.{Unread, Fault, NoTemplate, Unwritten}

-- what a rendering answers, with its fault as that of a page
abbrev pub as_page : Result (String Global) Error → Result (String Global) PageFault
as_page (Ok text) = Ok text
as_page (Err error) = Err (Fault error)

-- what the tree of a text answers on a value, within limits if there are some
abbrev pub AnswersIn : Option Limits → Texts → Option (List ℕ) → List ℕ → Statements → Val
    → Result (String Global) Error
    → Type 0
AnswersIn None e name text tree v answer = AnswersTree e name text tree v answer
AnswersIn (Some limits) e name text tree v answer = AnswersWithin e limits name text tree v answer

-- this is what the template of a name answers on a value, if an engine holds a text of this name
abbrev pub IsHeldText : Option Limits → Texts → List ℕ → Val → Result (String Global) PageFault → Type 0
IsHeldText limits e name v result = (held : Stored) (tree : Statements) → e.texts name ≡ Some held
    → ∥ HasTree held.syntax held.text tree ∥₁
    → (answer : Result (String Global) Error) × AnswersIn limits e (Some name) held.text tree v answer
    × (result ≡ as_page answer)

-- this is what the tree of a text answers on a value, if it has one; if not, it is a fault of the text
abbrev pub IsSourceText : Option Limits → Texts → List ℕ → Val → Result (String Global) PageFault → Type 0
IsSourceText limits e source v result = ((tree : Statements) → HasTree e.syntax source tree
    → (answer : Result (String Global) Error) × AnswersIn limits e None source tree v answer
    × (result ≡ as_page answer))
    × (((tree : Statements) → HasTree e.syntax source tree → ⊥)
    → (error : Error) × IsSyntaxError e.syntax source error × (result ≡ Err (Fault error)))

-- memory was out
abbrev pub IsMemoryOut : Result (String Global) PageFault → Type 0
IsMemoryOut result = (error : Error) × (fault_of error ≡ out_of_memory) × (result ≡ Err (Fault error))

-- whether a page was not written, as something failed
abbrev pub is_failed : PageEnd → Bool
is_failed Written = false
is_failed Unchanged = false
is_failed (Failed fault) = true

module _ (world : World) where
  -- Bytes were to be written to a file: they were, and nothing else; or it may have held them already, or it could not
  -- be written, and nothing was.
  abbrev pub IsOfWriting : List ℕ → List ℕ → PageEnd → Log → Log → Type 0
  IsOfWriting path bytes Written old new = Grows old new (written_as path bytes ∷ [])
  IsOfWriting path bytes Unchanged old new = world.holds path bytes × (new ≡ old)
  IsOfWriting path bytes (Failed (Unwritten fault)) old new = new ≡ old
  IsOfWriting path bytes (Failed (Unread fault)) old new = ⊥
  IsOfWriting path bytes (Failed (Fault error)) old new = ⊥
  IsOfWriting path bytes (Failed NoTemplate) old new = ⊥

  -- The page of a file ends by its text: that was to be written; or there is none, and the page failed for that reason,
  -- and nothing was written.
  abbrev pub PageEndsBy : List ℕ → Result (String Global) PageFault → PageEnd → Log → Log → Type 0
  PageEndsBy path (Ok text) end old new = IsOfWriting path (string_bytes text) end old new
  PageEndsBy path (Err fault) end old new = (end ≡ Failed fault) × (new ≡ old)

-- each of some things is in a relation to the one at its place among others, and there are as many
abbrev pub EachWith : {A B : Type 0} → (A → B → Type 0) → List A → List B → Type 0
EachWith R [] [] = Unit {0}
EachWith R [] (y ∷ ys) = ⊥
EachWith R (x ∷ xs) [] = ⊥
EachWith R (x ∷ xs) (y ∷ ys) = R x y × EachWith R xs ys

-- pages are done in their order, with what each writes after what those before it wrote: all of them if those after one
-- that failed are to be done too; else up to the first that failed
abbrev pub DoneInOrder : {A : Type 0} → Bool → (A → DonePage → Log → Log → Type 0) → List A → List DonePage → Log → Log
    → Type 0
DoneInOrder keeps R [] [] old new = new ≡ old
DoneInOrder keeps R [] (y ∷ ys) old new = ⊥
DoneInOrder keeps R (x ∷ xs) [] old new = ⊥
DoneInOrder keeps R (x ∷ xs) (y ∷ ys) old new = (next : Log) × R x y old next
    × MatchBool (is_failed y.end && not keeps) ((ys ≡ []) × (new ≡ next)) (DoneInOrder keeps R xs ys next new)
