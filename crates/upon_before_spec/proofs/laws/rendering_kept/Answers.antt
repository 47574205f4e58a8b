use Rattle.upon_before_spec.proofs.RenderingKept.{rendering_kept}
use Rattle.upon_before_spec.proofs.laws.rendering_kept.Goals as goal

pub returns : goal.returns
returns c given = λ calls before now limit t name root s held. rendering_kept calls before now t held limit name root s
