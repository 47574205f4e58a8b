use Rattle.std.proofs.Common.{sym, ap, ◌∙◌}
use Rattle.std.specs.Map.{update}
use Rattle.std.specs.Str.{bytes_eq}
use Rattle.upon_types.specs.Conversions.{or_else}
use Rattle.upon_tool_messages.specs.Library.{refused_as}
use Rattle.upon_tool_messages.proofs.Added.{entry_added, name_listed}
use Rattle.upon_tool_messages.proofs.library.Library.add.Goals as goal

pub returns-in_ok-insert-clause-names : goal.returns-in_ok-insert-clause-names
returns-in_ok-insert-clause-names c = name_listed c.args.self.now.names.items _ _ _ c.in_ok-push.ensures.items c.in_ok-from_str.ensures.ok

pub returns-in_ok-insert-clause-refused : goal.returns-in_ok-insert-clause-refused
returns-in_ok-insert-clause-refused c = λ other.
    entry_added _ _ c.args.self.now.refused c.insert.new.self _ c.in_ok-name.ensures.ok c.in_ok-insert.ensures.updates other
    ∙ ap (λ given. update bytes_eq (refused_as c.args.self.now) c.args.name.now (or_else given (refused_as c.args.self.now c.args.name.now)) other) (sym c.in-Some.is)

pub returns-in_default-clause-names : goal.returns-in_default-clause-names
returns-in_default-clause-names c = name_listed c.args.self.now.names.items _ _ _ c.in_ok-push.ensures.items c.in_ok-from_str.ensures.ok
