use Rattle.std.proofs.Common.{◌≡◌, Bool, true, false, refl, sym, ◌∙◌, string_bytes}
use Rattle.std.proofs.lemmas.Slice.Eq.{bytes_eq-Decides}
use Rattle.upon_users.proofs.users.rendered_twice.Goals as goal

-- what can't be untrue is true
stays : (b : Bool) → ((b ≡ true → ⊥) → ⊥) → b ≡ true
stays true not_not = refl
stays false not_not = absurd (not_not (λ is. let impossible : false ≡ true = is in absurd cc))

pub returns : goal.returns
returns g c =
    let same = (bytes_eq-Decides (string_bytes c.in_ok-first.first) (string_bytes c.in_ok-second.second)).1 in
    stays c.eq.result (λ no.
    let refused = c.in_ok-first.ensures.refused (λ tree has.
    let table = c.one_table.ensures in
    let first = c.in_ok-first.ensures.means tree has table.0 table.1 in
    let second = c.in_ok-second.ensures.means tree has table.0 table.1 in
    no (c.eq.ensures ∙ same (first.1 ∙ sym second.1))) in
    let impossible : false ≡ true = refused.0 in
    absurd cc)
