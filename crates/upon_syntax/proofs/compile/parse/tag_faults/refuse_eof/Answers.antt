use Rattle.std.proofs.Common.{codes}
use Rattle.upon_language_spec.specs.Wanted.{wanted_at_end, expected_found}
use Rattle.upon_tag_parser.specs.Wants.{wanted_of}
use Rattle.upon_syntax.proofs.compile.parse.tag_faults.refuse_eof.Goals as goal

pub returns : goal.returns
returns c = c.syntax_error.ensures.fault (expected_found (wanted_at_end (wanted_of c.args.want)) (codes "EOF")) c.cause_at_end.ensures
