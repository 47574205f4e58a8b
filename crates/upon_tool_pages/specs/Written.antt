-- The JSON Schema of a shape, as it is written.
use Rattle.std.specs.Prelude.{ℕ, List, [], ◌∷◌, ◌++◌}
use Rattle.std.specs.Str.{byte}
use Rattle.upon_shape_spec.specs.Shape.{Shape}
use Rattle.upon_schema.specs.Written.{schema_value}
use Rattle.upon_std.specs.Encoding.JsonText.{json_text}

-- the schema in a line
abbrev pub schema_line : Shape → List ℕ
schema_line s = json_text (schema_value s) ++ byte "\n" ∷ []
