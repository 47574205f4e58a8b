use Rattle.std.proofs.Common.{◌≡◌, ℕ, ◌+◌, ◌*◌, List, drop, Some, arith, sym, ap, ◌∙◌, subst}
use Rattle.std.proofs.lemmas.Grind.{common_steps}
use Rattle.std.specs.Char.{digit_value}
use Rattle.upon_language_spec.specs.Literal.{sum_of_digits, digits_in}
use Rattle.upon_lexer.proofs.Digits.{Onward, ended, past_underscore, past_digit}
use Rattle.upon_lexer.proofs.literal.digits_value.Goals.{then-byte-ne95+in-Some+else-next-from, else-byte-ne95}
use Rattle.upon_lexer.proofs.literal.digits_value.Goals as goal

pub loop-at-preserved : goal.loop-at-preserved
loop-at-preserved c =
    let base = c.args.notation.base in
    let limit = c.args.limit in
    let value = c.loop-at.value in
    let at = c.loop-at.at in
    let bytes = c.as_bytes-bytes.result.now in
    let whole = drop c.args.notation.start bytes in
    let h = c.loop-at.invariant in
    elim c.if-byte-ne95.branch [
      | then-byte-ne95+in-Some+else-next-from w ↦
          let next : c.if-byte-ne95.value ≡ value * base + w.in-Some.digit = w.value-is ∙ ap (λ (k : ℕ). k * w.from-then-byte-ne95-2.result + w.from-then-byte-ne95-3.result) w.from-then-byte-ne95.ensures ∙ ap (λ (k : ℕ). value * k + w.from-then-byte-ne95-3.result) w.from-then-byte-ne95-2.ensures ∙ ap (λ (k : ℕ). value * base + k) w.from-then-byte-ne95-3.ensures in
          let on = past_digit base limit value at bytes whole c.loop-at-test.true w.in-Some.digit c.if-byte-ne95.value w.if-byte-ne95.true (w.in-Some.ensures.value.1 ∙ ap digit_value w.from.ensures) (omega (arith, w.in-Some.ensures.value.0, w.in-Some.ensures.value.1)) next (omega (arith, w.value-is, w.if-next-from.false, w.from-then-byte-ne95-4.ensures)) h.sums in
          record { within = omega (arith, c.loop-at-test.true); low = omega (arith, w.value-is, w.if-next-from.false, w.from-then-byte-ne95-4.ensures); sums = on.0; fault = sym on.1 ∙ h.fault }
      | else-byte-ne95 w ↦
          let G : ℕ → Type 0 = λ x. Onward base limit value at bytes whole c.loop-at-test.true x in
          let on = subst G (sym w.value-is) (past_underscore base limit value at bytes whole c.loop-at-test.true w.if-byte-ne95.false h.sums) in
          record { within = omega (arith, c.loop-at-test.true); low = omega (arith, w.value-is, h.low); sums = on.0; fault = sym on.1 ∙ h.fault }
    ]

pub returns-clause-ok : goal.returns-clause-ok
returns-clause-ok c =
    let base = c.args.notation.base in
    let at = c.loop-at.at in
    let bytes = c.as_bytes-bytes.result.now in
    let found = ended base c.loop-at.value at bytes (drop c.args.notation.start bytes) (omega (arith, c.loop-at-test.false)) c.loop-at.invariant.sums in
    let F : List ℕ → Type 0 = λ x. (es : List ℕ) × (digits_in base (drop c.args.notation.start x) ≡ Some es) × (c.loop-at.value ≡ sum_of_digits base es) in
    let all : F c.args.text.now = subst F c.as_bytes-bytes.ensures.value found in
    (c.loop-at.invariant.low, all.0, all.1, all.2)

-- the search finds no proof of these, and takes long
pub returns-in_default-clause-err : goal.returns-in_default-clause-err
returns-in_default-clause-err = grind (arith, common_steps)

pub returns-then-next-from-clause-err : goal.returns-then-next-from-clause-err
returns-then-next-from-clause-err = grind (arith, common_steps)
