use Rattle.std.proofs.Common.{◌∙◌, sym}
use Rattle.upon_calls.specs.Pairs.{triple_of}
use Rattle.upon_calls.proofs.Triples.{no_triple, triple_list}
use Rattle.upon_calls.proofs.pairs.triple.Goals as goal

pub returns-then-parts-ne3-clause-read : goal.returns-then-parts-ne3-clause-read
returns-then-parts-ne3-clause-read c =
    sym (no_triple c.args.item.now c.in-List.parts c.as_slice-parts.result.now c.in-List.is c.as_slice-parts.ensures.value c.if-parts-ne3.true)

pub returns-clause-read : goal.returns-clause-read
returns-clause-read c =
    c.three.ensures.read
    ∙ (λ i. triple_of (c.sort_of.ensures i) (c.some_text.ensures.read i) (c.some_text-2.ensures.read i))
    ∙ triple_list c.args.item.now c.in-List.parts c.as_slice-parts.result.now _ _ _ c.in-List.is c.as_slice-parts.ensures.value c.if-parts-ne3.false c.index-parts-0.is c.index-parts-1.is c.index-parts-2.is
