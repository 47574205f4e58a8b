use Rattle.std.proofs.Common.{◌≡◌, ◌+◌, ◌≤◌, ◌<◌, List, ℕ, ◌++◌, length, take, drop, ◌∙◌, ap, subst, sym, arith}
use Rattle.std.proofs.KnownBytes.{Appends-kept, Appends-trans}
use Rattle.std.proofs.lemmas.List.{take-take, drop-take, take-append-drop, length-drop}
use Rattle.std.proofs.lemmas.Grind.{common_steps}
use Rattle.std.specs.Io.KnownBytes.{Appends}
use Rattle.upon_fmt.proofs.output.write_whole.Goals as goal

-- a beginning, and then more of what is left
beginning-longer : (sent more : ℕ) (text : List ℕ) → take sent text ++ take more (drop sent text) ≡ take (sent + more) text
beginning-longer sent more text =
    ap (λ l. l ++ take more (drop sent text)) (sym (take-take sent (sent + more) text (omega arith)))
    ∙ (ap (λ l. take sent (take (sent + more) text) ++ l) (sym (drop-take sent more text)) ∙ take-append-drop sent (take (sent + more) text))

-- a beginning of a text, and then more of a slice of which a part was sent
slice-longer : (sent more most : ℕ) (text bytes : List ℕ) → bytes ≡ text → more ≤ most
    → take sent text ++ take more (take most (drop sent bytes)) ≡ take (sent + more) text
slice-longer sent more most text bytes is within =
    ap (λ b. take sent text ++ take more (take most (drop sent b))) is
    ∙ ap (λ l. take sent text ++ l) (take-take more most (drop sent text) within)
    ∙ beginning-longer sent more text

bounded : (more most : ℕ) (bytes : List ℕ) → more ≤ length (take most bytes) → more ≤ most
bounded more most bytes h = grind (arith, common_steps)

pub loop-sent-preserved : goal.loop-sent-preserved
loop-sent-preserved g c =
    let joined = slice-longer _ _ _ _ _ c.as_bytes-bytes.ensures.value (bounded _ _ _ c.in-Ok.ensures.bound) in
    record {
      within = grind arith;
      received = subst (Appends _ _) joined (Appends-trans _ _ _ _ _ c.loop-sent.invariant.received c.in-Ok.ensures.bytes);
    }

pub returns-in-Err : goal.returns-in-Err
returns-in-Err g c =
    let text = c.args.text.now in
    let sent = c.loop-sent.sent in
    let rest : 0 < length (drop sent text) =
    omega (arith, length-drop sent text, c.loop-sent-test.true, c.as_bytes-bytes.ensures.len, ap length c.as_bytes-bytes.ensures.value) in
    (take sent text, drop sent text, sym (take-append-drop sent text), rest, Appends-kept _ _ _ (take sent text) c.loop-sent.invariant.received c.in-Err.ensures.bytes)

-- the search finds no proof of these, and takes long
pub returns-in-Ok-eq0 : goal.returns-in-Ok-eq0
returns-in-Ok-eq0 = grind (arith, common_steps)

pub returns : goal.returns
returns = grind (arith, common_steps)
