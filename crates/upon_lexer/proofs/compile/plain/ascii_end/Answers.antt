use Rattle.std.proofs.Common.{◌≡◌, ℕ, ◌+◌, ◌<◌, length, get_or, false, encode_utf8, arith, sym, ap}
use Rattle.std.proofs.lemmas.Str.{encode_ascii}
use Rattle.upon_language_spec.specs.Search.{Occurs}
use Rattle.upon_lexer.specs.Class.{class_test}
use Rattle.upon_language_spec.proofs.Offsets.Runs.{passes_more, stops_at_char, stops_at_end, run_or_none}
use Rattle.upon_lexer.proofs.Plain.{char_there, boundary_behind}
use Rattle.upon_lexer.proofs.compile.plain.ascii_end.Goals as goal
use Rattle.upon_lexer.proofs.compile.plain.ascii_end.Goals.{After-loop-end, Then-not-has_ascii}

pub loop-end-preserved : goal.loop-end-preserved
loop-end-preserved c =
    let s = c.args.source.now in
    let end = c.loop-end.end in
    let same = c.as_bytes-bytes.ensures.value in
    let b = get_or c.as_bytes-bytes.result.now end 0 in
    let is : b ≡ get_or s end 0 = ap (λ x. get_or x end 0) same in
    let inside : end < length s = omega (arith, ap length same) in
    let low : b < 128 = omega arith in
    record {
      between = boundary_behind s end b inside is low c.utf8.source c.loop-end.invariant.between;
      passes = passes_more (class_test c.args.class) s c.args.at end b (end + 1) c.loop-end.invariant.passes (char_there s end b inside is low) (sym c.if-not-has_ascii.ensures) (omega (arith, ap length (encode_ascii b low)));
    }

at_end : (c : After-loop-end) → (d : ℕ) → Occurs c.args.source.now c.loop-end.end (encode_utf8 d) → class_test c.args.class d ≡ false
at_end c =
    let all : c.loop-end.end ≡ length c.args.source.now = omega (arith, ap length c.as_bytes-bytes.ensures.value, c.loop-end.invariant.between.0) in
    stops_at_end (class_test c.args.class) c.args.source.now c.args.at c.loop-end.end all

before : (c : Then-not-has_ascii) → (d : ℕ) → Occurs c.args.source.now c.loop-end.end (encode_utf8 d) → class_test c.args.class d ≡ false
before c =
    let s = c.args.source.now in
    let end = c.loop-end.end in
    let same = c.as_bytes-bytes.ensures.value in
    let b = get_or c.as_bytes-bytes.result.now end 0 in
    let is : b ≡ get_or s end 0 = ap (λ x. get_or x end 0) same in
    let inside : end < length s = omega (arith, ap length same) in
    let low : b < 128 = omega arith in
    stops_at_char (class_test c.args.class) s c.args.at end b (char_there s end b inside is low) (sym c.if-not-has_ascii.ensures)

pub returns-after-loop-end-clause-run : goal.returns-after-loop-end-clause-run
returns-after-loop-end-clause-run c = run_or_none (class_test c.args.class) c.args.source.now c.args.at c.loop-end.end c.loop-end.invariant.passes (at_end c)

pub returns-after-loop-end-clause-longest : goal.returns-after-loop-end-clause-longest
returns-after-loop-end-clause-longest c = at_end c

pub returns-then-not-has_ascii-clause-run : goal.returns-then-not-has_ascii-clause-run
returns-then-not-has_ascii-clause-run c = run_or_none (class_test c.args.class) c.args.source.now c.args.at c.loop-end.end c.loop-end.invariant.passes (before c)

pub returns-then-not-has_ascii-clause-longest : goal.returns-then-not-has_ascii-clause-longest
returns-then-not-has_ascii-clause-longest c = before c
