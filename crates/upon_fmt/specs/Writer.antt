-- What a writer as an output holds.
use denote.MutBor.{MutBor}
use Rattle.upon_fmt.specs.declared.output.LentWriter.{LentWriter}
use Rattle.upon_fmt.specs.declared.output.Mark.{Mark}
use Rattle.upon_fmt.specs.declared.output.Writer.{Writer}

-- the writer
abbrev pub writer_of : {W : Type 0} → Writer W → W
writer_of output = output.writer

-- its mark
abbrev pub mark_of : {W : Type 0} → Writer W → Mark
mark_of output = output.mark

-- the writer that is lent
abbrev pub lent_writer_of : {W : Type 0} → LentWriter W → MutBor W
lent_writer_of output = output.writer

-- its mark
abbrev pub lent_mark_of : {W : Type 0} → LentWriter W → Mark
lent_mark_of output = output.mark
