-- What a call denotes that renders a template on a value.
use Rattle.std.specs.Prelude.{None}
use Rattle.upon_types.specs.Val.{Val}
use Rattle.upon_lookup.specs.Asked.{refuses_all}
use Rattle.upon_lookup.specs.Environment.{context}
use Rattle.upon_meaning_spec.specs.Engine.{Engine, Template, rendering_of}
use Rattle.upon_meaning_spec.specs.Outcome.{states}
use Rattle.upon_engine.specs.Base.{on_root}
use Rattle.upon_engine.specs.Calls.{Call}

-- a template without a name on a value, with what an engine denotes
abbrev pub call_on : Engine → Template → Val → Call (Unit {0}) (Unit {0})
call_on engine t v = record {
  rendering = rendering_of engine refuses_all None;
  template = t;
  name = None;
  base = on_root (context v);
  from = states (tt {0}) (tt {0});
}
