use Rattle.std.proofs.Common.{refl, sym, ap, ◌∙◌}
use Rattle.upon_lookup.specs.Source.{says}
use Rattle.upon_meaning_spec.specs.Engine.{table_answer}
use Rattle.upon_engine.specs.Template.{template_of}
use Rattle.upon_engine.proofs.sources.EngineTemplatesProgramSource.program.Goals as goal

pub returns-in-Some-clause-resolved : goal.returns-in-Some-clause-resolved
returns-in-Some-clause-resolved g c = (template_of c.lent.result.now, ap table_answer (sym c.in-Some.ensures) ∙ ap (λ t. says (template_of t)) (sym c.lent.ensures), c.program_of.ensures, refl)
