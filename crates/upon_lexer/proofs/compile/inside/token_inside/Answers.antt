use Rattle.std.proofs.Common.{◌+◌, rules, inl, Some, arith, refl, sym, ap, ◌∙◌, subst}
use Rattle.std.proofs.lemmas.Grind.{common_steps}
use Rattle.std.specs.Char.{is_ascii_digit}
use Rattle.std.specs.Str.{IsCharBoundary}
use Rattle.std.proofs.lemmas.Str.{length-encode}
use Rattle.upon_types.specs.Span.{LiesIn}
use Rattle.upon_types.specs.declared.types.token.Token.TheVariants.{Whitespace, Index, Number}
use Rattle.upon_language_spec.specs.Words.{is_tag_space}
use Rattle.upon_language_spec.specs.Inside.{continues_number}
use Rattle.upon_language_spec.specs.Faults.{span_of}
use Rattle.upon_language_spec.proofs.SpansLieIn.Token.{char_between, low_between}
use Rattle.upon_language_spec.proofs.Offsets.KindsBy.{proper_kind, single}
use Rattle.upon_language_spec.proofs.Offsets.Runs.{some_run}
use Rattle.upon_language_spec.proofs.Offsets.Unexpected.{no_token, same_span}
use Rattle.upon_language_spec.proofs.Totality.SomethingOccurs.{digit_continues}
use Rattle.upon_lexer.proofs.compile.inside.token_inside.Goals as goal

pub returns-in-Some-Whitespace-clause-token : goal.returns-in-Some-Whitespace-clause-token
returns-in-Some-Whitespace-clause-token c =
    let first = c.args.first in
    let arm = c.in-Some-Whitespace in
    let kind = sym c.token_kind.ensures ∙ arm.is ∙ ap Some arm.field-0-is in
    let read = c.run_end in
    let passes = proper_kind first c.args.in_path Whitespace kind in
    record { first = first; occurs = c.requires.occurs; of_kind = kind; extent = some_run is_tag_space c.args.source.now c.args.at read.result read.ensures.run read.ensures.longest first c.requires.occurs passes }

pub returns-in-Some-Index-clause-token : goal.returns-in-Some-Index-clause-token
returns-in-Some-Index-clause-token c =
    let first = c.args.first in
    let arm = c.in-Some-Index in
    let kind = sym c.token_kind.ensures ∙ arm.is ∙ ap Some arm.field-0-is in
    let read = c.run_end-in-Some-Index in
    let passes = proper_kind first c.args.in_path Index kind in
    record { first = first; occurs = c.requires.occurs; of_kind = kind; extent = some_run is_ascii_digit c.args.source.now c.args.at read.result read.ensures.run read.ensures.longest first c.requires.occurs passes }

pub returns-in-Some-Number-clause-token : goal.returns-in-Some-Number-clause-token
returns-in-Some-Number-clause-token c =
    let first = c.args.first in
    let arm = c.in-Some-Number in
    let kind = sym c.token_kind.ensures ∙ arm.is ∙ ap Some arm.field-0-is in
    let read = c.run_end-in-Some-Number in
    let passes = proper_kind first c.args.in_path Number kind in
    record { first = first; occurs = c.requires.occurs; of_kind = kind; extent = some_run continues_number c.args.source.now c.args.at read.result read.ensures.run read.ensures.longest first c.requires.occurs (digit_continues first passes) }

pub returns-in-Some : goal.returns-in-Some
returns-in-Some c =
    let s = c.args.source.now in
    let at = c.args.at in
    let first = c.args.first in
    let t = c.in-Some.token in
    let kind = sym c.token_kind.ensures ∙ c.in-Some.is in
    let is = single s at first t (proper_kind first c.args.in_path t kind) (search rules) (search rules) (search rules) (search rules) (search rules) (search rules) in
    record {
      token = record { first = first; occurs = c.requires.occurs; of_kind = kind ∙ ap Some is.as_itself; extent = is.extent };
      span = record { ordered = omega arith; start = c.requires.boundary; end = low_between s c.utf8.source at c.requires.boundary first (at + 1) is.ascii c.requires.occurs refl };
      none = tt;
      wrong_span = tt;
    }

pub returns-in-None-clause-none : goal.returns-in-None-clause-none
returns-in-None-clause-none c =
    let s = c.args.source.now in
    let at = c.args.at in
    let first = c.args.first in
    no_token s c.args.in_path at (at + c.len_utf8.result) c.unexpected.result.span _ first c.unexpected.ensures.start c.unexpected.ensures.end c.unexpected.ensures.reason c.requires.occurs
    (inl (sym c.token_kind.ensures ∙ c.in-None.is, ap (λ n. at + n) (c.len_utf8.ensures.value ∙ sym (length-encode first))))

pub returns-in-None-clause-wrong_span : goal.returns-in-None-clause-wrong_span
returns-in-None-clause-wrong_span c =
    let s = c.args.source.now in
    let at = c.args.at in
    let length = c.len_utf8.result in
    let place = same_span c.unexpected.result.span at (at + length) c.unexpected.ensures.start c.unexpected.ensures.end in
    let end = char_between s c.utf8.source at c.requires.boundary c.args.first c.requires.occurs in
    let lies : LiesIn s (span_of at (at + length)) = record {
      ordered = omega arith;
      start = c.requires.boundary;
      end = subst (λ n. IsCharBoundary s (at + n)) (sym c.len_utf8.ensures.value) end;
    } in
    subst (LiesIn s) (sym place) lies

-- the search finds no proof of these, and takes long
pub string_at-requires-clause-occurs : goal.string_at-requires-clause-occurs
string_at-requires-clause-occurs = grind (arith, common_steps)

pub question_at-requires-clause-occurs : goal.question_at-requires-clause-occurs
question_at-requires-clause-occurs = grind (arith, common_steps)
