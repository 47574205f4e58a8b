use Rattle.std.proofs.Common.{inl, inr, arith, refl, sym, ap, ◌+◌, ◌∙◌}
use Rattle.std.proofs.lemmas.Grind.{common_steps}
use Rattle.std.proofs.lemmas.Str.{length-encode}
use Rattle.upon_language_spec.proofs.OneCut.Run.{one_char}
use Rattle.upon_language_spec.proofs.OneFirstFault.Fault.{nothing_at_end}
use Rattle.upon_language_spec.proofs.Offsets.Bytes.{behind_byte}
use Rattle.upon_language_spec.proofs.Offsets.Unexpected.{no_question}
use Rattle.upon_lexer.proofs.compile.inside.question_at.Goals as goal

pub char_at-requires : goal.char_at-requires
char_at-requires c = behind_byte c.args.source.now c.args.at 63 (omega arith) c.utf8.source c.requires.boundary c.requires.occurs

pub returns-in-Some-clause-none : goal.returns-in-Some-clause-none
returns-in-Some-clause-none c = λ in_path.
    let s = c.args.source.now in
    let at = c.args.at in
    let other = c.in-Some.other in
    no_question s in_path at (at + 1 + c.len_utf8.result) c.unexpected.result.span _ c.unexpected.ensures.start c.unexpected.ensures.end c.unexpected.ensures.reason c.requires.occurs
    (λ o. c.in-Some.other-test.1 (one_char s (at + 1) other 46 c.in-Some.ensures.occurs o))
    (inr (other, c.in-Some.ensures.occurs, ap (λ n. at + 1 + n) (c.len_utf8.ensures.value ∙ sym (length-encode other))))

pub returns-in-None-clause-none : goal.returns-in-None-clause-none
returns-in-None-clause-none c = λ in_path.
    let s = c.args.source.now in
    let at = c.args.at in
    no_question s in_path at (at + 1) c.unexpected-in-None.result.span _ c.unexpected-in-None.ensures.start c.unexpected-in-None.ensures.end c.unexpected-in-None.ensures.reason c.requires.occurs
    (λ o. nothing_at_end s (at + 1) 46 (sym c.in-None.ensures.occurs) o)
    (inl (c.in-None.ensures.occurs, refl))

-- the search finds no proof of this, and takes long
pub returns-in-Some-eq46-clause-extent : goal.returns-in-Some-eq46-clause-extent
returns-in-Some-eq46-clause-extent = grind (arith, common_steps)
