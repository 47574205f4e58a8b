-- The best delimiter of the default syntax, by three bytes.
use Rattle.std.specs.Prelude.{ℕ, ◌==◌, Bool, true, false, Option, Some, None, if◌then◌else◌}
use Rattle.upon_types.specs.declared.types.Delimiter.{Delimiter}
use Rattle.upon_types.specs.declared.types.Delimiter.TheVariants.{BeginExpr, EndExpr, BeginExprTrim, EndExprTrim, BeginBlock, EndBlock, BeginBlockTrim, EndBlockTrim, BeginComment, EndComment, BeginCommentTrim, EndCommentTrim}

-- a delimiter of two bytes, or the one that has a hyphen too, and its length
abbrev pub hyphened : Bool → Delimiter → Delimiter → Delimiter × ℕ
hyphened true plain trimming = (trimming, 3)
hyphened false plain trimming = (plain, 2)

-- the delimiter that `{` and a byte begin, and its length
abbrev pub begin_with : ℕ → Bool → Option (Delimiter × ℕ)
begin_with b hyphen =
    if b == 123 then Some (hyphened hyphen BeginExpr BeginExprTrim)
    else (if b == 37 then Some (hyphened hyphen BeginBlock BeginBlockTrim)
    else (if b == 35 then Some (hyphened hyphen BeginComment BeginCommentTrim) else None))

-- the delimiter that a byte and `}` end, and its length
abbrev pub end_with : ℕ → Bool → Option (Delimiter × ℕ)
end_with b hyphen =
    if b == 125 then Some (hyphened hyphen EndExpr EndExprTrim)
    else (if b == 37 then Some (hyphened hyphen EndBlock EndBlockTrim)
    else (if b == 35 then Some (hyphened hyphen EndComment EndCommentTrim) else None))

-- the longest delimiter that three bytes begin with, and its length
abbrev pub best_of : ℕ → ℕ → ℕ → Option (Delimiter × ℕ)
best_of a b c =
    if a == 123 then begin_with b (c == 45)
    else (if a == 45 then (if c == 125 then end_with b true else None)
    else (if b == 125 then end_with a false else None))
