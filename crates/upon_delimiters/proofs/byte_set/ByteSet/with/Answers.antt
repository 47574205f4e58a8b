use Rattle.std.proofs.Common.{◌≢◌, ℕ, ◌<◌, arith, ◌∙◌}
use Rattle.upon_delimiters.proofs.byte_set.ByteSet.with.Goals as goal

below_apart : (m n : ℕ) → m < n → m ≢ n
below_apart m n less = grind (arith, less)

pub returns-clause-more : goal.returns-clause-more
returns-clause-more c = record {
  place = c.args.self.count;
  inside = c.if-self-ge6.false;
  is_taken = omega arith;
  is_there = c.put.ensures.there;
}

pub returns-clause-kept : goal.returns-clause-kept
returns-clause-kept c = λ b is. record {
  place = is.place;
  inside = is.inside;
  is_taken = omega (arith, is.is_taken);
  is_there = c.put.ensures.others is.place (below_apart is.place c.args.self.count is.is_taken) ∙ is.is_there;
}
