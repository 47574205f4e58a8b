-- Renderings that differ only in their value source, and what they agree on.
use Rattle.std.specs.Prelude.{◌≡◌}
use Rattle.upon_lookup.specs.Source.{Source}
use Rattle.upon_meaning_spec.specs.Engine.{Calls}
use Rattle.upon_meaning_spec.specs.Outcome.{Outcome, States}

-- callables and a default formatter, with this value source, whose states may be of another type
abbrev pub with_source : {V W : Type 0} → Source W → Calls V → Calls W
with_source ask calls = record { callables = calls.callables; default_formatter = calls.default_formatter; ask = ask }

-- two outcomes with one text, one end, and one next state of the template source
pub record SameBesideValues {V W T : Type 0} (one : Outcome (States V T)) (other : Outcome (States W T)) : Type 0 where
  pub text : one.text ≡ other.text
  pub end : one.end ≡ other.end
  pub templates : one.next.templates ≡ other.next.templates
