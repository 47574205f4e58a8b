use Rattle.std.proofs.Common.{refl}
use Rattle.base64.proofs.EngineFacts.{decode_of-encode_of}
use Rattle.base64.specs.Engines.{standard}
use Rattle.upon_std.proofs.encoding.laws.base64_again.Goals as goal

pub returns : goal.returns
returns c = λ bytes small. decode_of-encode_of standard bytes refl small
