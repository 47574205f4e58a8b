use Rattle.std.proofs.Common.{true, false, refl, ap, subst, ◌∙◌}
use Rattle.upon_tool_many.specs.Build.{IsNamedBy}
use Rattle.upon_tool_many.specs.Names.{page_name}
use Rattle.upon_tool_many.proofs.build.page_of.Goals as goal

pub returns-in_ok-name-in-Some : goal.returns-in_ok-name-in-Some
returns-in_ok-name-in-Some c = (
  refl,
  refl,
  subst (λ at. IsNamedBy at (record { name = c.in_ok-name-in-Some.name; from = record { path = c.args.path; is_template = true; fault = c.args.fault } }))
      (c.in-Some.ensures ∙ ap page_name c.as_str.ensures.value) (refl, c.in_ok-name-in-Some.ensures.ok),
)

pub returns-in_ok-name-in-None : goal.returns-in_ok-name-in-None
returns-in_ok-name-in-None c = (
  refl,
  refl,
  subst (λ at. IsNamedBy at (record { name = c.in_ok-name-in-None.name; from = record { path = c.args.path; is_template = false; fault = c.args.fault } }))
      (c.in-None.ensures ∙ ap page_name c.as_str.ensures.value) (refl, c.in_ok-name-in-None.ensures.cases),
)
