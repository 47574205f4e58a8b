-- What an include with a value finds.
use Rattle.std.specs.Prelude.{◌≡◌}
use Rattle.upon_types.specs.declared.types.Span.{Span}
use Rattle.upon_types.specs.Expression.{Expression}
use Rattle.upon_types.specs.Path.{Ident}
use Rattle.upon_types.specs.Val.{Val}
use Rattle.upon_lookup.specs.Environment.{Environment}
use Rattle.upon_lookup.specs.Finding.{found, reply}
use Rattle.upon_lookup.specs.Source.{says}
use Rattle.upon_meaning_spec.specs.Engine.{Template, Calls, Resolver}
use Rattle.upon_meaning_spec.specs.Evaluation.{operand, evaluate}
use Rattle.upon_meaning_spec.specs.Outcome.{States}

-- its expression gives the value, and its name is answered by the template; so the sources come to their next states
pub record IncludeFinds {V T : Type 0} (calls : Calls V) (resolve : Resolver T) (word : Ident) (e : Expression)
    (env : Environment) (s : States V T) (v : Val) (t : Template) (next : States V T) : Type 0 where
  pub span : Span
  pub value : evaluate calls e env s.values ≡ reply (found (operand v span)) next.values
  pub template : resolve s.templates word.text ≡ reply (says t) next.templates
