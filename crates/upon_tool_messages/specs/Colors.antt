-- The codes of colors.
use Rattle.std.specs.Prelude.{ℕ, List, ◌∷◌, Option, Some, None, codes}
use Rattle.upon_tool_messages.specs.declared.color.Tint.{Tint}
use Rattle.upon_tool_messages.specs.declared.color.Tint.TheVariants.{Plain, Message, Margin, Place, Hint}

-- a control sequence that selects graphic renditions (ECMA-48, 8.3.117): these follow the control character and a
-- bracket
abbrev pub rendition : List ℕ → List ℕ
rendition parameters = 27 ∷ parameters

-- what a terminal is sent before a part of a tint: bold and red, blue, cyan and green; before a plain one nothing
abbrev pub tint_code : Tint → Option (List ℕ)
tint_code Plain = None
tint_code Message = Some (rendition (codes "[1;31m"))
tint_code Margin = Some (rendition (codes "[34m"))
tint_code Place = Some (rendition (codes "[36m"))
tint_code Hint = Some (rendition (codes "[32m"))

-- what it is sent after such a part
abbrev pub reset_code : List ℕ
reset_code = rendition (codes "[0m")
