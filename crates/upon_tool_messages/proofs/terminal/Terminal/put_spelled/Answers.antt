use Rattle.std.proofs.Common.{rules, ◌≡◌, ◌<◌, ◌≤◌, ◌++◌, ◌∷◌, [], ◌/◌, ◌%◌, ℕ, List, sym, subst, ap, ◌∙◌, append_assoc, arith}
use Rattle.std.proofs.lemmas.Result.{on_ok_weaker}
use Rattle.std.specs.Char.{digit_char}
use Rattle.std.specs.Char.Escape.{escape_unicode}
use Rattle.upon_tool_messages.specs.Terminal.{held_line, paints_lines, PassesOn}
use Rattle.upon_tool_messages.specs.declared.terminal.Terminal.{Terminal}
use Rattle.upon_tool_messages.proofs.HandedOn.{handed_next}
use Rattle.upon_tool_messages.proofs.ShownTexts.{one_digit, two_digits}
use Rattle.upon_tool_messages.proofs.terminal.Terminal.put_spelled.Goals as goal
use Rattle.upon_tool_messages.proofs.terminal.Terminal.put_spelled.Goals.{then-code-ge16+in_ok-hold-2, else-code-ge16}

pub returns-clause-shown : goal.returns-clause-shown
returns-clause-shown g c =
    let contents = g.E.Write.contents in
    let was = c.args.self.now in
    let letter = c.args.letter in
    let paints = paints_lines was in
    let Begun : Terminal g.row.E.Denot → Type 0 =
    λ t. (paints_lines t ≡ paints) × ((front : List ℕ) × PassesOn paints (held_line was) (held_line t) (contents was.err.now) (contents t.err.now) front
    × (escape_unicode letter ≡ front ++ ((digit_char (letter % 16) ∷ []) ++ (125 ∷ [])))) in
    let code : c.from-code.result ≡ letter = search rules in
    let begun : Begun c.if-code-ge16.self =
    elim c.if-code-ge16.branch as (λ _. Begun c.if-code-ge16.self) [
      | then-code-ge16+in_ok-hold-2 w ↦
          let large : 16 ≤ letter = subst (λ n. 16 ≤ n) code w.if-code-ge16.true in
          let small : letter / 16 < 16 = let k = c.requires in omega arith in
          let is : w.digit.result.now ≡ digit_char (letter / 16) ∷ [] =
          w.digit.ensures (subst (λ n. n / 16 < 16) (sym code) small) ∙ ap (λ n. digit_char (n / 16) ∷ []) code in
          subst Begun (sym w.self-is) (
            w.in_ok-hold-2.ensures.paints ∙ c.in_ok-hold.ensures.paints,
            (
              _,
              handed_next paints _ _ _ _ _ _ _ (92 ∷ 117 ∷ 123 ∷ []) _ _ c.in_ok-hold.ensures.paints (ap (λ l. (92 ∷ 117 ∷ 123 ∷ []) ++ l) is) c.in_ok-hold.ensures.shown w.in_ok-hold-2.ensures.shown,
              two_digits letter large c.requires,
            ),
          )
      | else-code-ge16 w ↦
          let small : letter < 16 = subst (λ n. n < 16) code w.if-code-ge16.false in
          subst Begun (sym w.self-is) (c.in_ok-hold.ensures.paints, (92 ∷ 117 ∷ 123 ∷ [], c.in_ok-hold.ensures.shown, one_digit letter small))
    ] in
    let rest : letter % 16 < 16 = omega arith in
    let last : c.digit-2.result.now ≡ digit_char (letter % 16) ∷ [] =
    c.digit-2.ensures (subst (λ n. n % 16 < 16) (sym code) rest) ∙ ap (λ n. digit_char (n % 16) ∷ []) code in
    let front = begun.1.0 in
    on_ok_weaker c.hold-3.result (λ shown.
    handed_next paints _ _ _ _ _ _ _ _ (125 ∷ []) _ (c.in_ok-hold-3.ensures.paints ∙ begun.0)
    (append_assoc front (digit_char (letter % 16) ∷ []) (125 ∷ []) ∙ sym begun.1.2)
    (handed_next paints _ _ _ _ _ _ _ front _ _ begun.0 (ap (λ l. front ++ l) last) begun.1.1 c.in_ok-hold-3.ensures.shown) shown) c.hold-3.ensures.shown
