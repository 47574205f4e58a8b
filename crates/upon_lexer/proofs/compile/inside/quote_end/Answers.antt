use Rattle.std.proofs.Common.{arith, rules, ◌≡◌, ◌≢◌, ◌+◌, ◌⊎◌, inl, inr, ℕ, true, encode_utf8, sym, ap, ◌∙◌, subst}
use Rattle.std.proofs.lemmas.Grind.{common_steps}
use Rattle.std.specs.Str.{IsCharBoundary}
use Rattle.std.proofs.lemmas.Bool.Decides.{nat_tests}
use Rattle.std.proofs.lemmas.Str.{length-encode}
use Rattle.upon_language_spec.specs.Inside.{plain, escape, ends_line, is_piece}
use Rattle.upon_language_spec.proofs.Offsets.Bytes.{behind_byte, char_as_byte, joined}
use Rattle.upon_language_spec.proofs.Offsets.Strings.{none_read, read_more, closed, no_string, stuck_at_end, stuck_at_line_end, stuck_at_backslash}
use Rattle.upon_lexer.proofs.compile.inside.quote_end.Goals as goal

pub loop-c-init : goal.loop-c-init
loop-c-init c = record {
  between = behind_byte c.args.source.now c.args.at 34 (omega arith) c.utf8.source c.requires.boundary c.requires.occurs;
  read = none_read c.args.source.now c.args.at c.requires.occurs;
}

pub returns-in-34-clause-string : goal.returns-in-34-clause-string
returns-in-34-clause-string c =
    let s = c.args.source.now in
    let end = c.loop-c.end in
    closed s c.args.at end c.loop-c.invariant.read (char_as_byte s end 34 c.in-Some.c (omega arith) c.in-34.is c.in-Some.ensures.occurs)

pub loop-c-preserved-in-Some-escape_end : goal.loop-c-preserved-in-Some-escape_end
loop-c-preserved-in-Some-escape_end c =
    let s = c.args.source.now in
    let end = c.loop-c.end in
    let taken = c.in-Some-escape_end.ensures.escape in
    let backslash = char_as_byte s end 92 c.in-Some.c (omega arith) c.in-92.is c.in-Some.ensures.occurs in
    record {
      between = c.in-Some-escape_end.ensures.span.end;
      read = read_more s c.args.at end c.in-Some-escape_end.after (escape taken.0) c.loop-c.invariant.read taken.2 (joined s end 92 (encode_utf8 taken.0) backslash taken.1) (omega (arith, taken.3));
    }

pub returns-in-None-clause-string : goal.returns-in-None-clause-string
returns-in-None-clause-string c =
    let s = c.args.source.now in
    let end = c.loop-c.end in
    let backslash = char_as_byte s end 92 c.in-Some.c (omega arith) c.in-92.is c.in-Some.ensures.occurs in
    no_string s end (stuck_at_backslash s end backslash c.in-None.ensures.escape) c.args.at c.loop-c.invariant.read

ends_a_line : (c : ℕ) → (c ≡ 10) ⊎ (c ≡ 13) → ends_line c ≡ true
ends_a_line c (inl e) = ap ends_line e
ends_a_line c (inr e) = ap ends_line e

pub returns-in-10-clause-string : goal.returns-in-10-clause-string
returns-in-10-clause-string c =
    let s = c.args.source.now in
    let end = c.loop-c.end in
    no_string s end (stuck_at_line_end s end c.in-Some.c c.in-Some.ensures.occurs (ends_a_line c.in-Some.c c.in-10.is)) c.args.at c.loop-c.invariant.read

plain_piece : (c : ℕ) → c ≢ 10 → c ≢ 13 → c ≢ 34 → c ≢ 92 → is_piece (plain c) ≡ true
plain_piece c h i j k = grind (arith, nat_tests)

pub loop-c-preserved : goal.loop-c-preserved
loop-c-preserved c =
    let s = c.args.source.now in
    let end = c.loop-c.end in
    let value = c.len_utf8-end.ensures.value in
    let F : ℕ → Type 0 = λ n. IsCharBoundary s (end + n) in
    record {
      between = subst F (sym value) c.in-Some.ensures.span.end;
      read = read_more s c.args.at end (end + c.len_utf8-end.result) (plain c.in-Some.c) c.loop-c.invariant.read (plain_piece c.in-Some.c (search rules) (search rules) (search rules) (search rules)) c.in-Some.ensures.occurs (ap (λ n. end + n) (value ∙ sym (length-encode c.in-Some.c)));
    }

pub returns-clause-string : goal.returns-clause-string
returns-clause-string c =
    let s = c.args.source.now in
    let end = c.loop-c.end in
    no_string s end (stuck_at_end s end c.in_default.ensures.occurs) c.args.at c.loop-c.invariant.read

-- the search finds no proof of this, and takes long
pub escape_end-requires-clause-occurs : goal.escape_end-requires-clause-occurs
escape_end-requires-clause-occurs = grind (arith, common_steps)
