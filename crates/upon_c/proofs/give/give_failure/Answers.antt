use Rattle.std.proofs.Common.{inl, inr, refl, string_bytes}
use Rattle.upon_c.proofs.Ends.{gives_by, gives_same}
use Rattle.upon_c.proofs.give.give_failure.Goals as goal

pub returns-in-Ok : goal.returns-in-Ok
returns-in-Ok c = inl (
  string_bytes c.in-Ok.text,
  c.in-Ok.ensures,
  gives_same _ _ _ _ c.give.result c.give.new.size c.args.out.now c.give.new.out c.status-status.ensures c.as_bytes.ensures.value (gives_by _ _ c.give.result c.give.new.size c.args.out.now c.give.new.out c.give.ensures.size c.give.ensures.status c.give.ensures.text c.give.ensures.rest c.give.ensures.small c.give.ensures.same),
)
