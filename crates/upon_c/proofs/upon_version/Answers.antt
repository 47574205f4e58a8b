use Rattle.std.proofs.Common.{refl, ◌∙◌}
use Rattle.upon_c.proofs.Ends.{gives_by, gives_same}
use Rattle.upon_c.proofs.upon_version.Goals as goal

pub returns : goal.returns
returns c = gives_same 0 0 _ _ c.give.result c.give.new.size c.args.out.now c.give.new.out refl (c.as_bytes.ensures.value ∙ c.version.ensures) (gives_by _ _ c.give.result c.give.new.size c.args.out.now c.give.new.out c.give.ensures.size c.give.ensures.status c.give.ensures.text c.give.ensures.rest c.give.ensures.small c.give.ensures.same)
