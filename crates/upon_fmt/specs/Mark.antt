-- The mark of an output: whether a write has failed, with which error, and whether that error waits to be taken.
use Rattle.std.specs.Prelude.{◌≡◌, Option, Some, None, Result, Ok, Err}
use Rattle.std.specs.declared.io.Error.{Error as IoError}
use Rattle.upon_fmt.specs.declared.output.Mark.{Mark}
use Rattle.upon_fmt.specs.declared.output.Mark.TheVariants.{Clear, Waits, Taken}

-- the error that waits to be taken
abbrev pub waiting : Mark → Option IoError
waiting Clear = None
waiting (Waits error) = Some error
waiting (Taken error) = None

-- the mark after the error that waits is taken; if none waits, the mark stays
abbrev pub set_aside : Mark → Mark
set_aside Clear = Clear
set_aside (Waits error) = Taken error
set_aside (Taken error) = Taken error

-- something was not received: a write failed, and its error waits; or memory was refused, and no error waits
abbrev pub LeftOut : Mark → Mark → Type 0
LeftOut old Clear = Clear ≡ set_aside old
LeftOut old (Waits error) = Unit {0}
LeftOut old (Taken error) = Taken error ≡ set_aside old

-- all was written, and the mark stays; or the write's error waits
abbrev pub Notes : {E : Type 0} → Result (Unit {0}) IoError → Mark → Mark → Result (Unit {0}) E → Type 0
Notes (Ok u) old new (Ok v) = new ≡ old
Notes (Ok u) old new (Err e) = ⊥
Notes (Err error) old new (Ok v) = ⊥
Notes (Err error) old new (Err e) = new ≡ Waits error
