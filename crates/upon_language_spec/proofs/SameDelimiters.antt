-- `delimiters_eq` is true of two lists of delimiters exactly where they are one.
use Rattle.std.specs.Prelude.{◌≡◌, List, refl}
use Rattle.std.specs.Bool.{Decides}
use Rattle.std.proofs.Common.{ap}
use Rattle.std.proofs.lemmas.Bool.Decides.{Decides-and, Decides-like}
use Rattle.std.proofs.lemmas.Slice.Eq.{bytes_eq-Decides, slice_eq-Decides}
use denote.Enum.Bare.{same_true, true_same}
use Rattle.upon_types.specs.contracts.types.Delimiter.{the_type}
use Rattle.upon_language_spec.specs.SameDelimiters.{delimiter_eq, delimiters_eq}
use Rattle.upon_language_spec.specs.Search.{DelimiterText}

delimiter_eq-Decides : (p q : DelimiterText) → Decides (delimiter_eq p q) (p ≡ q)
delimiter_eq-Decides p q =
    Decides-like (delimiter_eq p q)
    (λ both. λ i. record { kind = both.0 i; text = both.1 i })
    (λ is. (ap (λ (d : DelimiterText). d.kind) is, ap (λ (d : DelimiterText). d.text) is))
    (Decides-and _ _
    (same_true the_type tt p.kind q.kind, true_same the_type p.kind q.kind)
    (bytes_eq-Decides p.text q.text))

-- the test decides whether two lists are one
pub delimiters_eq-Decides : (ps qs : List DelimiterText) → Decides (delimiters_eq ps qs) (ps ≡ qs)
delimiters_eq-Decides ps qs = slice_eq-Decides delimiter_eq-Decides ps qs (delimiters_eq ps qs) refl
