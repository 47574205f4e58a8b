use Rattle.std.proofs.Common.{true, false, ◌≡◌, [], refl}
use Rattle.upon_language_spec.specs.LiteralWords.{fits_word}
use Rattle.upon_syntax.specs.TagReading.{IsSyntaxError}
use Rattle.upon_tag_parser.specs.Wants.{wanted_of}
use Rattle.upon_syntax.proofs.TagRefused.{refused_at_end, refused_at_fault, refused_at_eof, refused_literal, refused_token}
use Rattle.upon_syntax.proofs.compile.parse.tag_faults.refuse_end.Goals as goal

pub returns-in-End : goal.returns-in-End
returns-in-End c = λ delimiters g. refused_at_end delimiters c.args.source.now c.args.want [] c.args.ended g refl c.in-End.found c.refuse_token.result c.in-End.is c.refuse_token.ensures

pub returns-in-Fault : goal.returns-in-Fault
returns-in-Fault c = λ delimiters g. refused_at_fault delimiters c.args.source.now c.args.want [] c.args.ended g refl c.in-Fault.e c.in-Fault.is

pub returns-in-Literal : goal.returns-in-Literal
returns-in-Literal c = λ delimiters g.
    let s = c.args.source.now in
    let l = c.in-Literal.found in
    let refusal = c.in-Literal.refusal in
    let e = c.refuse_literal.result in
    elim (fits_word l.token (wanted_of c.args.want)) as (λ b. fits_word l.token (wanted_of c.args.want) ≡ b → IsSyntaxError delimiters s e) [
      | true ↦ λ fits. refused_literal delimiters s c.args.want [] c.args.ended g refl l refusal c.in-Literal.is e fits (c.refuse_literal.ensures.fits fits)
      | false ↦ λ fits. refused_token delimiters s c.args.want [] c.args.ended g refl l refusal c.in-Literal.is e fits (c.refuse_literal.ensures.other fits)
    ] refl

pub returns-in-Eof : goal.returns-in-Eof
returns-in-Eof c = λ delimiters g. refused_at_eof delimiters c.args.source.now c.args.want [] c.args.ended g refl c.refuse_eof.result c.in-Eof.is c.refuse_eof.ensures
