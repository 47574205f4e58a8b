-- What a text says that a rendering answers.
use Rattle.std.proofs.Common.{◌≡◌, ℕ, List, Result, Ok, Err, String, IfOk, string_bytes, subst, sym, ap, ◌∙◌}
use Rattle.std.specs.declared.alloc.Global.{Global}
use Rattle.upon_types.specs.Val.{Val, Entries, entry_at, map_val}
use Rattle.upon_types.specs.declared.error.Error.{Error}
use Rattle.upon_lookup.specs.Environment.{context}
use Rattle.upon_meaning_spec.specs.Engine.{Table, from_table}
use Rattle.upon_meaning_spec.specs.GreaterDepth.{GoesOn}
use Rattle.upon_meaning_spec.specs.Names.{AgreeOn, Reads}
use Rattle.upon_meaning_spec.specs.Outcome.{Outcome, End, good, too_deep}
use Rattle.upon_meaning_spec.specs.Parts.{WovenOf}
use Rattle.upon_engine.specs.Answers.{AnswersText}
use Rattle.upon_engine.specs.Base.{on_root}
use Rattle.upon_engine.specs.Calls.{Call, outcome, on_base}
use Rattle.upon_engine.specs.KeepsLaws.{KeepsLaws}
use Rattle.upon_engine.specs.Pieces.{pieces_of_call}

-- an end that is good is not that includes are too deep
not_deep : (e : End) → e ≡ good → e ≡ too_deep → ⊥
not_deep e well deep = let same : good ≡ too_deep = sym well ∙ deep in absurd cc

-- a text that is there is that of each outcome that goes on
pub deeper : {Q : Type 0} (a b : ℕ) (o p : Outcome Q) (r : Result (String Global) Error) → AnswersText a o r → GoesOn o p
    → IfOk r (λ text. AnswersText b p (Ok text))
deeper a b o p (Ok text) said on =
    let same = on.same (not_deep o.end said.0) in
    (ap (λ x. x.end) same ∙ said.0, said.1 ∙ ap (λ x. x.text) (sym same))
deeper a b o p (Err e) said on = tt

-- what a rendering answers is so of an equal outcome
pub of_equal : {Q : Type 0} (limit : ℕ) (o p : Outcome Q) (r : Result (String Global) Error) → AnswersText limit o r → o ≡ p
    → AnswersText limit p r
of_equal limit o p r said is = subst (λ x. AnswersText limit x r) is said

-- what a call renders, and what it renders with another map that agrees on the names that are read, is the same text
pub on_maps : {V T : Type 0} (call : Call V T) (table : Table) (v w : Val) (these those : Entries) (a b : List ℕ) → KeepsLaws call
    → call.rendering.resolve ≡ from_table table → call.base ≡ on_root (context v)
    → a ≡ (outcome call).text → b ≡ (outcome (on_base (on_root (context w)) call)).text → v ≡ map_val these → w ≡ map_val those
    → AgreeOn (Reads table call.template.tree) (λ n. entry_at n these) (λ n. entry_at n those) → a ≡ b
on_maps call table v w these those a b laws by root one other is are agree =
    let outcomes = laws.names_read table these those by (root ∙ ap (λ x. on_root (context x)) is) agree in
    let others = ap (λ x. outcome (on_base (on_root (context x)) call)) (sym are) in
    one ∙ ap (λ o. o.text) (outcomes ∙ others) ∙ sym other

-- a text that is there is the call's pieces joined
pub woven_text : {V T : Type 0} (call : Call V T) (limit : ℕ) (r : Result (String Global) Error)
    → AnswersText limit (outcome call) r → KeepsLaws call
    → IfOk r (λ text. WovenOf call.rendering.calls call.rendering.resolve call.template (pieces_of_call call) (string_bytes text))
woven_text call limit (Ok text) said laws = subst (λ x. WovenOf call.rendering.calls call.rendering.resolve call.template (pieces_of_call call) x) (sym said.1) laws.woven
woven_text call limit (Err e) said laws = tt
