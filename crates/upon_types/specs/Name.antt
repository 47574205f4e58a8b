-- What a name in the code denotes: its bytes.
use Rattle.std.specs.Prelude.{ℕ, List, string_bytes}
use Rattle.upon_types.specs.declared.types.ast.name.Text.{Text}
use Rattle.upon_types.specs.declared.types.ast.name.Text.TheVariants.{Short, Long}

-- the bytes, wherever they lie
abbrev pub text_bytes : Text → List ℕ
text_bytes (Short text) = text.bytes
text_bytes (Long text) = string_bytes text
