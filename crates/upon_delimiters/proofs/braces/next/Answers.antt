use Rattle.std.proofs.Common.{◌≡◌, ℕ, ◌+◌, ◌-◌, ◌<◌, ◌≤◌, List, sym, subst, length, get_or, take, drop, arith, ap, length-take, length-drop}
use Rattle.upon_language_spec.specs.DefaultDelimiters.{default_delimiters}
use Rattle.upon_language_spec.specs.Search.{NoneFrom}
use Rattle.upon_delimiters.specs.Pairs.{NoPairIn, NoPairWith, IsFirstPairWith}
use Rattle.upon_delimiters.proofs.Pairing.{NoPairs, none_up_to, none_more, none_passed, near_pair, no_pair_none}
use Rattle.upon_delimiters.proofs.braces.next.Goals as goal

pub returns-in-Some-pair_with-clause-none : goal.returns-in-Some-pair_with-clause-none
returns-in-Some-pair_with-clause-none c =
    let s = c.args.source.now in
    let bytes = c.as_bytes-bytes.result.now in
    let at = c.args.at in
    let from = c.loop-found.from in
    let found = c.in-Some.ensures.0 in
    let room : c.in-Some.found ≤ length bytes - from = omega (arith, found.high, length-take (length bytes - from) (drop from bytes)) in
    let same = c.as_bytes-bytes.ensures.value in
    let pairs = none_up_to s bytes at from c.in-Some.found same room found.before c.loop-found.invariant.none in
    let brace = from + c.in-Some.found in
    let pair = c.in-Some-pair_with.pair in
    let First : List ℕ → Type 0 = λ x. IsFirstPairWith x at brace pair in
    let first : IsFirstPairWith s at brace pair = subst First same c.in-Some-pair_with.ensures in
    let Hyphens : List ℕ → Type 0 = λ x. (q : ℕ) → at ≤ q → q < c.begin_of.result → q + 1 ≡ pair → get_or x q 0 ≡ 45 → ⊥ in
    near_pair s at brace pair pairs first.before first.first c.begin_of.result c.begin_of.ensures.before (subst Hyphens same c.begin_of.ensures.no_hyphen)

pub loop-found-preserved : goal.loop-found-preserved
loop-found-preserved c =
    let s = c.args.source.now in
    let bytes = c.as_bytes-bytes.result.now in
    let at = c.args.at in
    let from = c.loop-found.from in
    let found = c.in-Some.ensures.0 in
    let total = length-take (length bytes - from) (drop from bytes) in
    let room : c.in-Some.found ≤ length bytes - from = omega (arith, found.high, total) in
    let same = c.as_bytes-bytes.ensures.value in
    let pairs = none_up_to s bytes at from c.in-Some.found same room found.before c.loop-found.invariant.none in
    let brace = from + c.in-Some.found in
    let With : List ℕ → Type 0 = λ x. NoPairWith x at brace in
    let In : List ℕ → Type 0 = λ x. NoPairIn x (brace + 1) c.pass_blocks-from.result in
    record {
      after = omega (arith, c.loop-found.invariant.after, c.pass_blocks-from.ensures.after);
      within = omega (arith, ap length same, c.pass_blocks-from.ensures.within);
      none = none_passed s at brace c.pass_blocks-from.result (omega (arith, c.loop-found.invariant.after))
          (none_more s at brace pairs (subst With same c.in_default-pair_with.ensures))
          (subst With same c.in_default-pair_with.ensures)
          (subst In same c.pass_blocks-from.ensures.none);
    }

pub returns-clause-none : goal.returns-clause-none
returns-clause-none c =
    let s = c.args.source.now in
    let bytes = c.as_bytes-bytes.result.now in
    let at = c.args.at in
    let from = c.loop-found.from in
    let hay = take (length bytes - from) (drop from bytes) in
    let total : length hay ≡ length bytes - from = omega (arith, length-take (length bytes - from) (drop from bytes), length-drop from bytes) in
    let same = c.as_bytes-bytes.ensures.value in
    let pairs = none_up_to s bytes at from (length hay) same (omega (arith, total)) c.in_default.ensures c.loop-found.invariant.none in
    let all : from + length hay ≡ length s = omega (arith, total, ap length same, c.loop-found.invariant.within) in
    let Pairs : ℕ → Type 0 = λ x. NoPairs s at x in
    let None : ℕ → Type 0 = λ x. NoneFrom default_delimiters s at x in
    subst None (ap length (sym same)) (no_pair_none s at (subst Pairs all pairs))
