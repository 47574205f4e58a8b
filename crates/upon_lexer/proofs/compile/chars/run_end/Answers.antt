use Rattle.std.proofs.Common.{◌≡◌, ℕ, ◌+◌, false, encode_utf8, arith, sym, subst}
use Rattle.std.specs.Str.{IsCharBoundary}
use Rattle.std.specs.Char.{len_utf8}
use Rattle.std.proofs.lemmas.Str.{length-encode}
use Rattle.upon_language_spec.specs.Search.{Occurs}
use Rattle.upon_lexer.specs.Class.{class_test}
use Rattle.upon_language_spec.proofs.Offsets.Runs.{passes_more, stops_at_char, stops_at_end, run_or_none}
use Rattle.upon_lexer.proofs.compile.chars.run_end.Goals as goal
use Rattle.upon_lexer.proofs.compile.chars.run_end.Goals.{Then-not-has, In_default}

pub loop-c-preserved : goal.loop-c-preserved
loop-c-preserved c =
    let value : c.len_utf8-end.result ≡ len_utf8 c.in-Some.c = c.len_utf8-end.ensures.value in
    let F : ℕ → Type 0 = λ n. IsCharBoundary c.args.source.now (c.loop-c.end + n) in
    record {
      between = subst F (sym value) c.in-Some.ensures.span.end;
      passes = passes_more (class_test c.args.class) c.args.source.now c.args.at c.loop-c.end c.in-Some.c (c.loop-c.end + c.len_utf8-end.result) c.loop-c.invariant.passes c.in-Some.ensures.occurs (sym c.if-not-has.ensures) (omega (arith, length-encode c.in-Some.c, value));
    }

before : (c : Then-not-has) → (d : ℕ) → Occurs c.args.source.now c.loop-c.end (encode_utf8 d) → class_test c.args.class d ≡ false
before c = stops_at_char (class_test c.args.class) c.args.source.now c.args.at c.loop-c.end c.in-Some.c c.in-Some.ensures.occurs (sym c.if-not-has.ensures)

at_end : (c : In_default) → (d : ℕ) → Occurs c.args.source.now c.loop-c.end (encode_utf8 d) → class_test c.args.class d ≡ false
at_end c = stops_at_end (class_test c.args.class) c.args.source.now c.args.at c.loop-c.end c.in_default.ensures.occurs

pub returns-then-not-has-clause-run : goal.returns-then-not-has-clause-run
returns-then-not-has-clause-run c = run_or_none (class_test c.args.class) c.args.source.now c.args.at c.loop-c.end c.loop-c.invariant.passes (before c)

pub returns-then-not-has-clause-longest : goal.returns-then-not-has-clause-longest
returns-then-not-has-clause-longest c = before c

pub returns-in_default-clause-run : goal.returns-in_default-clause-run
returns-in_default-clause-run c = run_or_none (class_test c.args.class) c.args.source.now c.args.at c.loop-c.end c.loop-c.invariant.passes (at_end c)

pub returns-in_default-clause-longest : goal.returns-in_default-clause-longest
returns-in_default-clause-longest c = at_end c
