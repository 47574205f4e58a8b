use Rattle.std.proofs.Common.{◌≡◌, None, Some, option_map, false, sym, ap, ◌∙◌, rules}
use Rattle.upon_types.specs.Val.{Val}
use Rattle.upon_types.specs.View.{entries_view}
use Rattle.upon_data.specs.AtPath.{put_inside, rebuilt}
use Rattle.upon_data.specs.Entries.{keys_of, with_member}
use Rattle.upon_data.specs.Parts.{is_part_memory}
use Rattle.upon_data.proofs.Paths.{member_at, new_member}
use Rattle.upon_data.proofs.at_path.go_in.Goals as goal

pub loop-key-preserved : goal.loop-key-preserved
loop-key-preserved c =
    let around = c.loop-key.around.items in
    let rest = c.loop-key.rest.now in
    let more = c.in-Some.more.now in
    let es = entries_view c.loop-key.entries.entries in
    record {
      text = search rules;
      sets = λ v.
          c.loop-key.invariant.sets v
          ∙ ap (option_map (rebuilt around)) (member_at rest c.in-Some.key.now more v es c.in-Some.ensures.keys)
          ∙ (rw c.if-not-branch.false at c.in_ok-enter.ensures.ok) (with_member (keys_of more) v);
      whole = c.enter.ensures.kept ∙ c.loop-key.invariant.whole;
    }

pub returns-then-not-branch-clause-ok : goal.returns-then-not-branch-clause-ok
returns-then-not-branch-clause-ok c =
    let around = c.loop-key.around.items in
    let rest = c.loop-key.rest.now in
    let es = entries_view c.loop-key.entries.entries in
    let nothing = rw c.if-not-branch.true at c.in_ok-enter.ensures.ok in
    λ v.
    c.loop-key.invariant.sets v
    ∙ ap (option_map (rebuilt around)) (new_member rest c.in-Some.key.now c.in-Some.more.now v es c.in-Some.ensures.keys nothing.0)
    ∙ (λ i. Some (rebuilt (sym nothing.2 i) (put_inside (keys_of rest) v (sym nothing.1 i))))

pub returns-in_err-enter-clause-refused : goal.returns-in_err-enter-clause-refused
returns-in_err-enter-clause-refused c =
    let around = c.loop-key.around.items in
    let rest = c.loop-key.rest.now in
    let more = c.in-Some.more.now in
    let es = entries_view c.loop-key.entries.entries in
    let stops : is_part_memory c.in_err-enter.field-0.0 ≡ false → (v : Val) → with_member (keys_of c.args.path.now) v (entries_view c.args.entries.now.entries) ≡ None =
    λ kept v.
    c.loop-key.invariant.sets v
    ∙ ap (option_map (rebuilt around)) (member_at rest c.in-Some.key.now more v es c.in-Some.ensures.keys ∙ c.in_err-enter.ensures.refused kept (with_member (keys_of more) v)) in
    search (rules, stops)
