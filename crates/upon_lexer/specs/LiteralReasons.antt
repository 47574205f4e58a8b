-- The words that report what is wrong with a literal.
use Rattle.std.specs.Prelude.{ℕ, List, ◌++◌, codes}
use Rattle.std.specs.Fmt.{decimal}
use Rattle.upon_language_spec.specs.LaterFaults.{Report}
use Rattle.upon_lexer.specs.declared.literal_fault.LiteralFault.{LiteralFault}
use Rattle.upon_lexer.specs.declared.literal_fault.LiteralFault.TheVariants.{Float, InvalidDigit, NumberOutOfRange, IndexOutOfRange, UnknownEscape}
use Rattle.upon_lexer.specs.declared.literal_fault.Refusal.{Refusal}

-- the reason of the fault
abbrev pub literal_reason : LiteralFault → List ℕ
literal_reason Float = codes "invalid float literal"
literal_reason (InvalidDigit base) = codes "invalid digit for base " ++ (decimal base ++ codes " literal")
literal_reason (NumberOutOfRange base) =
    codes "base " ++ (decimal base ++ codes " literal out of range for 64-bit integer")
literal_reason IndexOutOfRange = codes "base 10 literal out of range for unsigned 64-bit integer"
literal_reason UnknownEscape = codes "unknown escape character"

-- what a refusal reports
abbrev pub report_of : Refusal → Report
report_of refusal = record { span = refusal.span; reason = literal_reason refusal.fault }
