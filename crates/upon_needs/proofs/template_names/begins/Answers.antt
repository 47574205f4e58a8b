use Rattle.std.proofs.Common.{rules, arith, ◌≡◌, ◌<◌, ◌+◌, ◌⊎◌, inl, inr, ℕ, Bool, ◌∙◌, length, drop, false, ap, sym}
use Rattle.std.specs.List.{list_any}
use Rattle.upon_compiler.specs.Program.{instr_of, program_view}
use Rattle.upon_machine_spec.specs.ProgramNames.{is_this, path_name, unbound}
use Rattle.upon_needs.proofs.NeededNames.{walk_on, count_grows}
use Rattle.upon_needs.proofs.template_names.begins.Goals as goal

nothing_here : (count : ℕ) (here : Bool) → ((count ≡ 0) × (here ≡ false)) ⊎ (count ≡ 0 → ⊥) → count ≡ 0 → here ≡ false
nothing_here count here (inl h) is = h.1
nothing_here count here (inr h) is = absurd (h is)

pub loop-at-preserved : goal.loop-at-preserved
loop-at-preserved c =
    let name = c.args.name.now in
    let instrs = c.instrs-instrs.result.now in
    let at = c.loop-at.at in
    let count = c.loop-at.count in
    let item = c.index-instrs-at.result in
    let inside : at < length instrs = search rules in
    let found : c.is_this-here.result ≡ is_this name (path_name (instr_of item)) = c.is_this-here.ensures ∙ ap (is_this name) c.path_name.ensures in
    let nothing : count ≡ 0 → is_this name (path_name (instr_of item)) ≡ false = λ none. sym found ∙ nothing_here count c.is_this-here.result c.else-count-eq0.either none in (
      omega (arith, c.count_after-count.ensures, count_grows name at (instr_of item) count, c.loop-at.invariant.0),
      ap (λ n. list_any (λ i. is_this name (path_name i)) (unbound name (at + 1) n (program_view (drop (at + 1) instrs)))) c.count_after-count.ensures
          ∙ walk_on name at count instrs item inside c.index-instrs-at.is nothing ∙ c.loop-at.invariant.1,
    )
