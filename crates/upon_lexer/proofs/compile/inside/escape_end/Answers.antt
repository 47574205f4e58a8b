use Rattle.std.proofs.Common.{◌≡◌, ℕ, ◌⊎◌, inl, inr, false, arith, sym, ap, ◌∙◌}
use Rattle.upon_language_spec.specs.Inside.{escape, is_piece}
use Rattle.upon_language_spec.proofs.OneCut.Run.{one_char}
use Rattle.upon_language_spec.proofs.OneFirstFault.Fault.{nothing_at_end}
use Rattle.upon_language_spec.proofs.Offsets.Bytes.{behind_byte}
use Rattle.upon_lexer.proofs.compile.inside.escape_end.Goals as goal

pub char_at-requires : goal.char_at-requires
char_at-requires c = behind_byte c.args.source.now c.args.at 92 (omega arith) c.utf8.source c.requires.boundary c.requires.occurs

no_piece : (c : ℕ) → (c ≡ 10) ⊎ (c ≡ 13) → is_piece (escape c) ≡ false
no_piece c (inl e) = ap (λ x. is_piece (escape x)) e
no_piece c (inr e) = ap (λ x. is_piece (escape x)) e

pub returns-in-Some-eq10-clause-escape : goal.returns-in-Some-eq10-clause-escape
returns-in-Some-eq10-clause-escape c = λ d o.
    let arm = c.in-Some-eq10 in
    let at = c.args.at in
    ap (λ x. is_piece (escape x)) (one_char c.args.source.now _ d arm.field-0 o arm.ensures.occurs) ∙ no_piece arm.field-0 arm.field-0-test

pub returns-in-None-clause-escape : goal.returns-in-None-clause-escape
returns-in-None-clause-escape c = λ d o. absurd (nothing_at_end c.args.source.now _ d (sym c.in-None.ensures.occurs) o)
