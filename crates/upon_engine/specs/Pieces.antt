-- Of which pieces a call's text is made.
use Rattle.std.specs.Prelude.{ℕ, List, [], Option}
use Rattle.upon_meaning_spec.specs.Engine.{Template, Rendering}
use Rattle.upon_meaning_spec.specs.Outcome.{States}
use Rattle.upon_meaning_spec.specs.Pieces.{TextPiece, pieces_of}
use Rattle.upon_engine.specs.Base.{ContextBase, on_root, no_value}
use Rattle.upon_engine.specs.Calls.{Call}

-- of a template by itself over a base; of a context that is no value there are none
abbrev pub pieces_over : {V T : Type 0} → Rendering V T → Template → Option (List ℕ) → ContextBase → States V T
    → List TextPiece
pieces_over rendering t name (on_root root) s = pieces_of rendering t name root s
pieces_over rendering t name (no_value f) s = []

-- of a call
abbrev pub pieces_of_call : {V T : Type 0} → Call V T → List TextPiece
pieces_of_call c = pieces_over c.rendering c.template c.name c.base c.from
