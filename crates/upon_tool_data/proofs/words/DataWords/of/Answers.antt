use Rattle.std.proofs.Common.{refl}
use Rattle.upon_tool_data.proofs.words.DataWords.of.Goals as goal

pub returns : goal.returns
returns c = record { env = refl; files = c.as_slice.ensures.value; format = refl; values = c.as_slice-2.ensures.value; texts = c.as_slice-3.ensures.value }
