use Rattle.std.proofs.Common.{◌≡◌, ◌∷◌, [], ◌∙◌, ap, sym, string_bytes, arith}
use Rattle.upon_types.specs.CopyTasks.{finished, entries_zip, entries_rest}
use Rattle.upon_types.specs.Val.{entry_then, rises}
use Rattle.upon_types.specs.View.{view, entries_view}
use Rattle.upon_types.proofs.Copies.{joined, joined-none, insert_entry-joined}
use Rattle.upon_types.proofs.CopyTasks.{finished-push, rises-zip, zip-none, rest-none, empty_from_length}
use Rattle.upon_types.proofs.value.copy.gather_entries.Goals as goal

pub loop-key-preserved : goal.loop-key-preserved
loop-key-preserved c =
    let so_far = c.loop-key.copies.entries in
    let copy = c.in-Some-pop.copy in
    let put = c.in_ok-put-in-Some-pop.ensures in
    let left = c.pop.new.self.items in
    let popped : finished c.loop-key.done.items ≡ view copy ∷ finished left = ap finished c.in-Some-pop.ensures.items ∙ finished-push left copy in
    let steps = c.in-Some.ensures.steps in
    let key : string_bytes put.0 ≡ string_bytes c.in-Some.key.now = put.1 in
    let before = c.loop-key.invariant in
    let rest = entries_zip c.next.new.self (finished left) in
    let whole : joined (entries_view so_far) (entry_then (string_bytes put.0) (view copy) rest) ≡ entries_zip c.args.entries.now.entries (finished c.args.done.now.items) =
    (λ i. joined (entries_view so_far) (entry_then (key i) (view copy) rest))
    ∙ sym (λ i. joined (entries_view so_far) (entries_zip (steps i) (popped i)))
    ∙ before.whole in
    let rise = ap rises whole ∙ rises-zip c.args.entries.now.entries (finished c.args.done.now.items) c.iter-key-items.ensures.ordered in
    record {
      whole = ap (λ es. joined (entries_view es) rest) put.2 ∙ insert_entry-joined so_far put.0 copy rest rise ∙ whole;
      left = sym (λ i. entries_rest (steps i) (popped i)) ∙ before.left;
    }

pub returns-in-None-pop-clause-copies : goal.returns-in-None-pop-clause-copies
returns-in-None-pop-clause-copies c =
    let so_far = entries_view c.loop-key.copies.entries in
    let none : c.loop-key.done.items ≡ [] = empty_from_length c.loop-key.done.items (omega (arith, c.loop-key.done.ok.0, c.in-None-pop.ensures.cases.0)) in
    sym (joined-none so_far) ∙ sym (ap (λ vs. joined so_far (entries_zip c.loop-key.key-iterator (finished vs))) none) ∙ c.loop-key.invariant.whole

pub returns-clause-copies : goal.returns-clause-copies
returns-clause-copies c =
    let so_far = entries_view c.loop-key.copies.entries in
    let left = finished c.loop-key.done.items in
    sym (joined-none so_far) ∙ ap (joined so_far) (sym (zip-none left)) ∙ ap (λ es. joined so_far (entries_zip es left)) (sym c.in-None.ensures.steps.0) ∙ c.loop-key.invariant.whole

pub returns-clause-rest : goal.returns-clause-rest
returns-clause-rest c =
    let left = finished c.loop-key.done.items in
    sym (rest-none left) ∙ ap (λ es. entries_rest es left) (sym c.in-None.ensures.steps.0) ∙ c.loop-key.invariant.left
