use Rattle.std.proofs.Common.{◌≢◌, length, ne_eqb, sym, ◌∙◌, arith}
use Rattle.upon_types.proofs.Bindings.{rises-entries}
use Rattle.upon_types.proofs.Same.{apart_entries, says_one_map, says_by_key}
use Rattle.upon_types.proofs.value.same.is_same_map.Goals as goal

pub returns-then-len : goal.returns-then-len
returns-then-len c =
    let first = rises-entries c.args.a.now.entries c.len.ensures.ordered in
    let second = rises-entries c.args.b.now.entries c.len-2.ensures.ordered in record {
      by_key = says_by_key _ _ _ first second c.same_entries.ensures;
      one_map = says_one_map _ _ _ c.same_entries.ensures;
      first_rises = first;
      second_rises = second;
    }

pub returns-else-len : goal.returns-else-len
returns-else-len c =
    let first = rises-entries c.args.a.now.entries c.len.ensures.ordered in
    let second = rises-entries c.args.b.now.entries c.len-2.ensures.ordered in
    let apart : length c.args.a.now.entries ≢ length c.args.b.now.entries =
    λ even. c.if-len.false (omega (arith, even, c.len.ensures.len, c.len-2.ensures.len)) in
    let is = ne_eqb _ _ c.if-len.false ∙ sym (apart_entries c.args.a.now.entries c.args.b.now.entries apart) in record {
      by_key = says_by_key _ _ _ first second is;
      one_map = says_one_map _ _ _ is;
      first_rises = first;
      second_rises = second;
    }
