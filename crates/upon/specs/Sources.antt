-- The templates that sources have by their names.
use Rattle.std.specs.Prelude.{Some}
use Rattle.upon_meaning_spec.specs.Engine.{Table}
use Rattle.upon_engine.specs.Template.{template_of}
use Rattle.upon_engine.specs.declared.template.Template.{Template}

-- one template, under each name
abbrev pub one_template : Template → Table
one_template template name = Some (template_of template)
