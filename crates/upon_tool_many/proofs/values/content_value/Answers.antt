use Rattle.upon_types.specs.Val.{key_of}
use Rattle.upon_types.specs.View.{view}
use Rattle.upon_types.proofs.Views.{view-String}
use Rattle.upon_tool_many.specs.Values.{content_key}
use Rattle.upon_tool_many.proofs.Keys.{put_over}
use Rattle.upon_tool_many.proofs.values.content_value.Goals as goal

pub returns : goal.returns
returns c =
    put_over c.in_ok-entries.entries c.insert.new.self c.in_ok-key.key _ content_key _ (λ key. key_of key (view c.args.context.now))
    c.in_ok-insert.ensures.ordered c.in_ok-insert.ensures.updates c.in_ok-key.ensures.ok (view-String c.args.text) c.in_ok-entries.ensures
