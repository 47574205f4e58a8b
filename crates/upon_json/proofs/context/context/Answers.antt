use Rattle.std.proofs.Common.{◌≡◌, Some, None, IfErr, option_map, sym, ap, subst, ◌∙◌, rules, refl, take}
use Rattle.std.proofs.lemmas.List.{take_all}
use Rattle.upon_types.specs.Conversions.{last_at, or_else}
use Rattle.std.specs.Prelude.{bytes_eq, if◌then◌else◌}
use Rattle.upon_types.specs.Val.{entry_at, no_entries, rises}
use Rattle.upon_types.specs.View.{entries_view}
use Rattle.upon_types.proofs.Bindings.{rises-entries}
use Rattle.upon_types.proofs.ConversionLemmas.{entry_at-insert}
use Rattle.upon_types.proofs.Views.{view-Map}
use Rattle.upon_json.specs.Context.{HasEntries, IsContextRefusal, IsSetOver, set_pairs}
use Rattle.upon_json.proofs.SetOver.{set_last}
use Rattle.upon_json.proofs.context.context.Goals.{in-Some+in_ok-entries-in-Some, in-None}
use Rattle.upon_json.proofs.context.context.Goals as goal

pub returns-in_err-entries-in-Some-clause-refused : goal.returns-in_err-entries-in-Some-clause-refused
returns-in_err-entries-in-Some-clause-refused c =
    let text : Some c.in-Some.text.now ≡ option_map (λ text. text.now) c.args.json = rw c.in-Some.is refl in
    subst (λ json. IfErr c.from_residual.result (IsContextRefusal json)) text (search rules)

pub loop-key-init : goal.loop-key-init
loop-key-init c = elim c.match-json.branch [
  | in-Some+in_ok-entries-in-Some w ↦
      let text : Some w.in-Some.text.now ≡ option_map (λ text. text.now) c.args.json = rw w.in-Some.is refl in
      let same = ap (λ m. entries_view m.entries) (sym w.entries-is) in (
        entries_view c.match-json.entries.entries,
        subst (λ json. HasEntries json (entries_view c.match-json.entries.entries)) text (subst (HasEntries (Some w.in-Some.text.now)) same (w.in_ok-entries-in-Some.ensures.read)),
        ap rises (sym same) ∙ w.in_ok-entries-in-Some.ensures.rise,
        λ key. refl,
      )
  | in-None w ↦
      let text : None ≡ option_map (λ text. text.now) c.args.json = rw w.in-None.is refl in
      let same : entries_view c.match-json.entries.entries ≡ no_entries = search rules in (
        no_entries,
        subst (λ json. HasEntries json no_entries) text refl,
        ap rises same,
        λ key. ap (entry_at key) same,
      )
]

pub loop-key-preserved : goal.loop-key-preserved
loop-key-preserved c =
    let so_far = c.loop-key.invariant in
    let i = c.loop-key.key-index in
    let set = c.args.set.now in
    let named = c.in_ok-from_str.ensures.ok in
    let valued = c.in_ok-value.ensures in (
      so_far.0,
      so_far.1,
      rises-entries c.insert.new.self.entries c.in_ok-insert.ensures.ordered,
      λ key. entry_at-insert c.loop-key.entries c.insert.new.self c.in_ok-from_str.field-0 c.in_ok-value.value c.in_ok-insert.ensures.updates key
          ∙ (λ j. or_else (if bytes_eq key (named j) then Some (valued j) else None) (so_far.3 key j))
          ∙ set_last key set i _ (entry_at key so_far.0) c.loop-key-test.true,
    )

pub returns-clause-read : goal.returns-clause-read
returns-clause-read c =
    let so_far = c.loop-key.invariant in
    let set = c.args.set.now in
    let all : take c.loop-key.key-index set ≡ set = search (rules, take_all) in (
      so_far.0,
      so_far.1,
      subst (IsSetOver (set_pairs set) so_far.0) (sym (view-Map c.loop-key.entries))
          (so_far.2, λ key. so_far.3 key ∙ ap (λ s. or_else (last_at key (set_pairs s)) (entry_at key so_far.0)) all),
    )
