use Rattle.std.proofs.Common.{rules, arith, ◌≡◌, ◌∙◌, ◌<◌, ◌≤◌, ◌+◌, ◌++◌, ℕ, List, length, drop, get_or, sym, ap, append_assoc, append-nil}
use Rattle.std.proofs.lemmas.List.{drop_all, drop_more}
use Rattle.upon_tool.specs.Names.{in_line, one_line}
use Rattle.upon_tool.proofs.names_text.push_name.Goals as goal

-- one byte more
name_step : (start done new bytes : List ℕ) (i : ℕ) → i < length bytes → done ++ one_line (drop i bytes) ≡ start ++ one_line bytes
    → new ≡ done ++ in_line (get_or bytes i 0) → new ++ one_line (drop (i + 1) bytes) ≡ start ++ one_line bytes
name_step start done new bytes i inside so_far is =
    ap (λ t. t ++ one_line (drop (i + 1) bytes)) is
    ∙ append_assoc done (in_line (get_or bytes i 0)) (one_line (drop (i + 1) bytes))
    ∙ ap (λ bs. done ++ one_line bs) (sym (drop_more bytes i 0 inside))
    ∙ so_far

name_done : (start done bytes : List ℕ) (i : ℕ) → length bytes ≤ i → done ++ one_line (drop i bytes) ≡ start ++ one_line bytes → done ≡ start ++ one_line bytes
name_done start done bytes i past so_far =
    sym (append-nil done) ∙ ap (λ bs. done ++ one_line bs) (sym (drop_all i bytes past)) ∙ so_far

pub loop-byte-preserved : goal.loop-byte-preserved
loop-byte-preserved c =
    let bytes = c.as_bytes-bytes.result.now in
    let at = c.loop-byte.byte-index in
    let inside : at < length bytes = search rules in
    name_step c.args.text.now.items c.loop-byte.text.items _ bytes at inside c.loop-byte.invariant c.in_ok-push_byte.ensures

pub returns : goal.returns
returns c =
    let bytes = c.as_bytes-bytes.result.now in
    name_done c.args.text.now.items c.loop-byte.text.items bytes c.loop-byte.byte-index (omega (arith, c.loop-byte-test.false)) c.loop-byte.invariant
    ∙ ap (λ bs. c.args.text.now.items ++ one_line bs) c.as_bytes-bytes.ensures.value
