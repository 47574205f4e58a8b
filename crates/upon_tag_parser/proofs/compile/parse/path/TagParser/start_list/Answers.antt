use Rattle.std.proofs.Common.{◌∙◌, sym}
use Rattle.std.proofs.lemmas.List.{length-map}
use Rattle.upon_compiler.specs.Program.{instr_of}
use Rattle.upon_tag_parser.specs.declared.compile.parse.brackets.Beginning.{Beginning}
use Rattle.upon_tag_parser.specs.Brackets.{place, place_of}
use Rattle.upon_tag_parser.proofs.Steps.Lists.{list_begun}
use Rattle.upon_tag_parser.proofs.compile.parse.path.TagParser.start_list.Goals as goal

pub returns-clause-step : goal.returns-clause-step
returns-clause-step c whole before g =
    let from = place before c.args.code.now.items in
    let start : Beginning = record { at = c.len-at.result; opening = c.args.opening } in
    c.start_item.ensures.step whole from (list_begun c.args.self.now.source.now start from (place_of c.args.tokens.now c.append.new.code.items) g (c.len-at.ensures ∙ c.args.code.now.ok.0 ∙ sym (length-map c.args.code.now.items instr_of)) c.in_ok-append.ensures)
