-- An include with a value gives what the template gives alone on it.
use Rattle.std.proofs.Common.{◌≡◌, ℕ, suc, Some, sym, ap, ◌∙◌, arith}
use Rattle.upon_types.specs.Expression.{Expression}
use Rattle.upon_types.specs.Path.{Ident}
use Rattle.upon_types.specs.Tree.{include}
use Rattle.upon_types.specs.Val.{Val}
use Rattle.upon_lookup.specs.Environment.{Environment, context, alone_over}
use Rattle.upon_meaning_spec.specs.Alone.{with_template, included, alone_within, includes_left, alone}
use Rattle.upon_meaning_spec.specs.Engine.{Template, Calls, Resolver, Rendering}
use Rattle.upon_meaning_spec.specs.IncludeFinds.{IncludeFinds}
use Rattle.upon_meaning_spec.specs.Meaning.{RunningTemplate, with_value, statement_means}
use Rattle.upon_meaning_spec.specs.Outcome.{States}

-- a depth that counts the template itself
pub left_of_depth : (left : ℕ) → includes_left (suc left) ≡ left
left_of_depth left = omega arith

module _ {V T : Type 0} where
  pub included_alone : (calls : Calls V) (resolve : Resolver T) (running : RunningTemplate) (left : ℕ) (word : Ident) (e : Expression) (env : Environment) (s : States V T) (v : Val) (t : Template) (next : States V T) → IncludeFinds calls resolve word e env s v t next → statement_means calls (included calls resolve (suc left)) running (include word (Some e)) env s ≡ alone_within calls resolve left t (Some word.text) (context v) next
  included_alone calls resolve running left word e env s v t next finds =
      ap (λ r. with_value running s.templates r (λ v s'. included calls resolve (suc left) running word (alone_over v) s')) finds.value
      ∙ ap (λ r. with_template running word next.values r (λ t s'. alone_within calls resolve left t (Some word.text) (context v) s')) finds.template

  pub included_of_depth : (rendering : Rendering V T) (running : RunningTemplate) (left : ℕ) (word : Ident) (e : Expression) (env : Environment) (s : States V T) (v : Val) (t : Template) (next : States V T) → IncludeFinds rendering.calls rendering.resolve word e env s v t next → statement_means rendering.calls (included rendering.calls rendering.resolve (suc left)) running (include word (Some e)) env s ≡ alone (record rendering { limit = suc left }) t (Some word.text) (context v) next
  included_of_depth rendering running left word e env s v t next finds =
      included_alone rendering.calls rendering.resolve running left word e env s v t next finds
      ∙ ap (λ n. alone_within rendering.calls rendering.resolve n t (Some word.text) (context v) next) (sym (left_of_depth left))
