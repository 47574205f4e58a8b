use Rattle.std.proofs.Common.{ap, sym, ◌∙◌}
use Rattle.unicode_ident.specs.Ident.{is_xid_continue}
use Rattle.upon_language_spec.specs.Words.{is_keyword}
use Rattle.upon_language_spec.proofs.Offsets.Names.{begins_continues}
use Rattle.upon_language_spec.proofs.Offsets.Runs.{some_run}
use Rattle.upon_lexer.proofs.compile.inside.word_at.Goals as goal

pub returns-else-is_keyword-clause-extent : goal.returns-else-is_keyword-clause-extent
returns-else-is_keyword-clause-extent c =
    let run = some_run is_xid_continue c.args.source.now c.args.at c.run_end-end.result c.run_end-end.ensures.run c.run_end-end.ensures.longest c.args.first c.requires.occurs (begins_continues c.args.first c.requires.begins) in
    (run, ap is_keyword (sym c.slice.ensures) ∙ sym c.if-is_keyword.ensures)
