use Rattle.std.proofs.Common.{◌≡◌, true, false, [], ◌∷◌, ◌++◌, None, Some, option_map, sym, ap, ◌∙◌, rules}
use Rattle.std.proofs.lemmas.Iterator.Splits.{YieldsList-from_lines}
use Rattle.std.specs.Str.Iter.{lines_rest}
use Rattle.std.specs.Str.Lines.{lines}
use Rattle.upon_types.specs.Val.{list_val}
use Rattle.upon_types.specs.View.{vals_view}
use Rattle.upon_types.proofs.Views.{view-List}
use Rattle.upon_json.specs.Context.{without_mark}
use Rattle.upon_data.specs.Fault.{is_data_memory}
use Rattle.upon_data.specs.Lines.{is_blank, lines_val, lines_values}
use Rattle.upon_data.proofs.LineValues.{vals_before, before_first, past_blank, past_value, at_no_value, at_end, line_next, line_none}
use Rattle.upon_data.proofs.lines.lines.Goals as goal

pub loop-line-init : goal.loop-line-init
loop-line-init c =
    let whole = without_mark c.args.text.now in
    let rest = ap lines_rest (c.into_iter-line-iterator.ensures.into_iter_gives) ∙ c.lines-line-items.ensures.rest ∙ c.without_mark.ensures in (
      tt,
      tt,
      lines whole,
      YieldsList-from_lines whole rest,
      before_first (lines_values (lines whole)) ∙ ap (λ vs. option_map (vals_before (vals_view vs)) (lines_values (lines whole))) (sym c.new-values.ensures.items),
    )

pub returns-in_err-value_from-clause-refused : goal.returns-in_err-value_from-clause-refused
returns-in_err-value_from-clause-refused c =
    let inv = c.loop-line.invariant in
    let vs = c.loop-line.values.items in
    let next = line_next c.loop-line.line-iterator c.next.new.self c.in-Some.line inv.2 inv.3 c.in-Some.ensures.steps in
    let full : is_blank c.in-Some.line.now ≡ false = sym c.is_blank.ensures ∙ c.if-not-is_blank.true in
    let stops : is_data_memory c.in_err-value_from.field-0.0 ≡ false → lines_val c.args.text.now ≡ None =
    λ kept. ap (option_map list_val) (inv.4 ∙ ap (λ rest. option_map (vals_before (vals_view vs)) (lines_values rest)) next.1
    ∙ at_no_value vs c.in-Some.line.now next.0 full (c.in_err-value_from.ensures.refused kept)) in
    search (rules, stops)

pub loop-line-preserved-in_ok-push : goal.loop-line-preserved-in_ok-push
loop-line-preserved-in_ok-push c =
    let inv = c.loop-line.invariant in
    let vs = c.loop-line.values.items in
    let v = c.in_ok-value_from.field-0 in
    let next = line_next c.loop-line.line-iterator c.next.new.self c.in-Some.line inv.2 inv.3 c.in-Some.ensures.steps in
    let full : is_blank c.in-Some.line.now ≡ false = sym c.is_blank.ensures ∙ c.if-not-is_blank.true in
    let pushed : c.push.new.self.items ≡ vs ++ v ∷ [] = search rules in (
      tt,
      tt,
      next.0,
      next.2,
      inv.4 ∙ ap (λ rest. option_map (vals_before (vals_view vs)) (lines_values rest)) next.1
          ∙ past_value vs v c.in-Some.line.now next.0 full c.in_ok-value_from.ensures.read
          ∙ ap (λ all. option_map (vals_before (vals_view all)) (lines_values next.0)) (sym pushed),
    )

pub loop-line-preserved : goal.loop-line-preserved
loop-line-preserved c =
    let inv = c.loop-line.invariant in
    let vs = c.loop-line.values.items in
    let next = line_next c.loop-line.line-iterator c.next.new.self c.in-Some.line inv.2 inv.3 c.in-Some.ensures.steps in
    let blank : is_blank c.in-Some.line.now ≡ true = sym c.is_blank.ensures ∙ c.if-not-is_blank.false in (
      tt,
      tt,
      next.0,
      next.2,
      inv.4 ∙ ap (λ rest. option_map (vals_before (vals_view vs)) (lines_values rest)) next.1 ∙ past_blank vs c.in-Some.line.now next.0 blank,
    )

pub returns-clause-read : goal.returns-clause-read
returns-clause-read c =
    let inv = c.loop-line.invariant in
    let vs = c.loop-line.values.items in
    let end = line_none c.loop-line.line-iterator c.next.new.self inv.2 inv.3 c.in-None.ensures.steps in
    ap (option_map list_val) (inv.4 ∙ ap (λ rest. option_map (vals_before (vals_view vs)) (lines_values rest)) end ∙ at_end vs)
    ∙ ap Some (sym (view-List c.loop-line.values))
