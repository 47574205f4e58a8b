use Rattle.upon_language_spec.specs.Tags.{word_of}
use Rattle.upon_language_spec.specs.Wanted.{reason_for}
use Rattle.upon_tag_parser.specs.Wants.{wanted_of}
use Rattle.upon_syntax.proofs.compile.parse.tag_faults.refuse_token.Goals as goal

pub returns-in-Ok : goal.returns-in-Ok
returns-in-Ok c =
    let found = c.args.found in
    c.syntax_error.ensures.fault (reason_for (wanted_of c.args.want) found.token (word_of c.args.source.now found.token found.span)) c.in-Ok.ensures
