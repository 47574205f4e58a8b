use Rattle.std.proofs.Common.{inl, inr, ℕ, List, sym, subst, ◌∙◌}
use Rattle.upon_language_spec.specs.Search.{text_at}
use Rattle.upon_delimiters.specs.Begins.{BeginsText}
use Rattle.upon_delimiters.specs.Syntax.{syntax_delimiters}
use Rattle.upon_delimiters.proofs.Pairing.{less_or_same}
use Rattle.upon_delimiters.proofs.begins.Begins.of.Goals as goal

pub loop-i-preserved : goal.loop-i-preserved
loop-i-preserved c = λ j below.
    let ds = syntax_delimiters c.args.syntax.now in
    elim (less_or_same j c.loop-i.i below) [
      | inl less ↦ c.in_ok-begins.ensures.kept (text_at ds j) (c.loop-i.invariant j less)
      | inr same ↦ let P : ℕ → Type 0 = λ x. BeginsText c.in_ok-begins.begins (text_at ds x) in
          let Q : List ℕ → Type 0 = λ t. BeginsText c.in_ok-begins.begins t in subst P (sym same) (subst Q (c.as_bytes.ensures.value ∙ c.get.ensures.text) c.in_ok-begins.ensures.more)
    ]
