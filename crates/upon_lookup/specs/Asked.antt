-- What a source is asked, and how its call says the answer. Memory that runs out is no answer.
use Rattle.std.specs.Prelude.{◌≡◌, List, [], map, Bool, true, false, Result, Ok, Err, string_bytes}
use Rattle.upon_lookup.specs.Finding.{Reply, reply}
use Rattle.upon_lookup.specs.Source.{SourceAnswer, says, refuses, ValueAccess, index, key, ValueMember, Source}
use Rattle.upon_lookup.specs.declared.source.SourceError.{SourceError}
use Rattle.upon_lookup.specs.declared.source.SourceError.TheVariants.{Refused, Memory}
use Rattle.upon_lookup.specs.declared.source.ValueAccess.{ValueAccess as AskedAccess}
use Rattle.upon_lookup.specs.declared.source.ValueAccess.TheVariants.{Index, Key}
use Rattle.upon_lookup.specs.declared.source.ValueAccessOp.{ValueAccessOp}
use Rattle.upon_lookup.specs.declared.source.ValueAccessOp.TheVariants.{Direct, Optional}
use Rattle.upon_lookup.specs.declared.source.ValueMember.{ValueMember as AskedMember}

-- whether the operator that a source is asked with is `?.`
abbrev pub asked_op : ValueAccessOp → Bool
asked_op Direct = false
asked_op Optional = true

-- the index or key that a source is asked for
abbrev pub asked_access : AskedAccess → ValueAccess
asked_access (Index n) = index n
asked_access (Key name) = key name.now

-- the member that a source is asked for
abbrev pub asked_member : AskedMember → ValueMember
asked_member m = record { is_optional = asked_op m.op; access = asked_access m.access }

-- the path that a source is asked for
abbrev pub asked_path : List AskedMember → List ValueMember
asked_path members = map asked_member members

-- the result is the reply's answer, and the source is in the reply's next state; or memory ran out
abbrev pub HasReply : {L A Q : Type 0} → (L → A) → Result L SourceError → Q → Reply Q (SourceAnswer A) → Type 0
HasReply shows (Ok l) state r = (r.answer ≡ says (shows l)) × (r.next ≡ state)
HasReply shows (Err (Refused text)) state r = (r.answer ≡ refuses (string_bytes text)) × (r.next ≡ state)
HasReply shows (Err Memory) state r = Unit {0}

-- a source that refuses each path, without words
abbrev pub refuses_all : {Q : Type 0} → Source Q
refuses_all q path = reply (refuses []) q
