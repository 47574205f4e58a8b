-- How a template of a name is refused.
use Rattle.std.specs.Prelude.{◌≡◌, ◌⊎◌, ℕ, List, Some}
use Rattle.upon_types.specs.Error.{fault_of}
use Rattle.upon_types.specs.Fault.{syntax, out_of_memory, bare_fault, fault_with_name, fault_with_picture}
use Rattle.upon_types.specs.declared.error.Error.{Error}
use Rattle.upon_types.specs.declared.types.Span.{Span}
use Rattle.upon_language_spec.specs.FirstFault.{IsFirstFault}
use Rattle.upon_language_spec.specs.Search.{DelimiterText}

-- an error reports the text's first fault, with its picture, in the template of a name; or that there was no memory
abbrev pub IsSyntaxErrorOf : List ℕ → List DelimiterText → List ℕ → Error → Type 0
IsSyntaxErrorOf name delimiters s e = (fault_of e ≡ out_of_memory) ⊎ ((span : Span) × (reason : List ℕ)
    × IsFirstFault delimiters s span reason
    × (fault_of e ≡ fault_with_name name (fault_with_picture s (bare_fault syntax (Some reason) (Some span)))))
