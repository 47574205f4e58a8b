use Rattle.std.proofs.Common.{◌++◌, [], ap, sym, ◌∙◌}
use Rattle.std.proofs.lemmas.Result.{on_ok_weaker}
use Rattle.upon_serde.specs.Notes.{notes_of, noted, begun}
use Rattle.upon_serde.proofs.Noting.{one_more}
use Rattle.upon_serde.proofs.recorder.Recorder.note_value.Goals as goal

pub returns-in-None : goal.returns-in-None
returns-in-None c =
    let old = c.args.self.now in
    let new = c.push.new.self in
    let sends = noted c.args.note [] in
    let settled = ap begun (c.push.ensures.key ∙ c.in-None.is) in
    let is = ap (λ key. begun key ++ sends) (sym c.in-None.is) in
    on_ok_weaker c.push.result (one_more (notes_of old) (notes_of new) old.key new.key c.args.note sends settled is) c.push.ensures.notes
