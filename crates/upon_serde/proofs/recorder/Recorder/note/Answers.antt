use Rattle.std.proofs.Common.{◌++◌, [], ap, sym, ◌∙◌}
use Rattle.std.proofs.lemmas.Result.{on_ok_weaker}
use Rattle.upon_serde.specs.Notes.{notes_of, noted, begun}
use Rattle.upon_serde.proofs.Noting.{one_more}
use Rattle.upon_serde.proofs.recorder.Recorder.note.Goals as goal

pub returns : goal.returns
returns c =
    let old = c.settle.new.self in
    let new = c.push.new.self in
    let sends = noted c.args.note [] in
    let settled = c.in_ok-settle.ensures.noted in
    let after = ap begun c.push.ensures.key ∙ settled in
    let is = ap (λ before. before ++ sends) (sym settled) in
    on_ok_weaker c.push.result (λ pushed.
    one_more (notes_of old) (notes_of new) old.key new.key c.args.note sends after is pushed
    ∙ ap (λ before. before ++ sends) c.in_ok-settle.ensures.sent) c.push.ensures.notes
