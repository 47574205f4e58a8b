-- What the laws of rendering speak of: clauses of calls that render a text, and what they say together.
use Rattle.std.specs.Prelude.{◌≡◌, ℕ, List, length, Option, Result, Ok, Err, String, string_bytes}
use Rattle.std.specs.declared.alloc.Global.{Global}
use Rattle.upon_types.specs.Error.{fault_of}
use Rattle.upon_types.specs.Fault.{out_of_memory}
use Rattle.upon_types.specs.Tree.{Statements}
use Rattle.upon_types.specs.Val.{Val}
use Rattle.upon_types.specs.declared.error.Error.{Error}
use Rattle.upon_language_spec.specs.Grammar.{HasTree}
use Rattle.upon_language_spec.specs.Search.{DelimiterText, NoneFrom}
use Rattle.upon_engine.specs.Texts.{Texts}
use Rattle.upon_engine.specs.Theorem.{AnswersTree, Sends}

-- no delimiter is anywhere in the text
abbrev pub IsPlainText : List DelimiterText → List ℕ → Type 0
IsPlainText delimiters s = NoneFrom delimiters s 0 (length s)

-- a rendering of a text answers what its tree means
abbrev pub AnswersFor : Texts → Option (List ℕ) → List ℕ → Val → Result (String Global) Error → Type 0
AnswersFor e name source v result =
    (tree : Statements) → HasTree e.syntax source tree → AnswersTree e name source tree v result

-- a writer receives what the tree of a text means
abbrev pub SendsFor : Texts → Option (List ℕ) → List ℕ → Val → Result (Unit {0}) Error → Option (List ℕ)
    → Option (List ℕ)
    → Type 0
SendsFor e name source v result old new =
    (tree : Statements) → HasTree e.syntax source tree → Sends e name source tree v result old new

-- this text, or that memory is out
abbrev pub IsTextOrMemory : List ℕ → Result (String Global) Error → Type 0
IsTextOrMemory text (Ok t) = string_bytes t ≡ text
IsTextOrMemory text (Err e) = fault_of e ≡ out_of_memory
