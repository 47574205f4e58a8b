-- Renderings in which each formatter escapes.
use Rattle.std.specs.Prelude.{◌≡◌}
use Rattle.upon_types.specs.Answers.{Formatter}
use Rattle.upon_types.specs.Val.{Val}
use Rattle.upon_meaning_spec.specs.Engine.{Template, Calls, Resolver}
use Rattle.upon_meaning_spec.specs.Parts.{CanFormat}
use Rattle.upon_html.specs.Escaped.{escaped}

-- the default formatter, and each one that a template that is reached names, writes what the escaping one does
abbrev pub EscapesAll : {V T : Type 0} → Calls V → Resolver T → Template → Type 0
EscapesAll calls resolve t = (f : Formatter) → CanFormat calls resolve t f → (v : Val) → (f v).text ≡ (escaped v).text
