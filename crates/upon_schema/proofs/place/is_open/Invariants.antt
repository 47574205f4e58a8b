use Rattle.std.proofs.Common.{◌≡◌, ℕ, List, Bor, drop, map}
use Rattle.upon_shape_spec.specs.Wider.{is_listed}
use Rattle.upon_schema.proofs.place.is_open.Given as goal

-- the references to come decide
abbrev pub invariant-loop-known : goal.invariant-loop-known
invariant-loop-known l =
    is_listed l.reference (map (λ (r : Bor (List ℕ)). r.now) (drop l.known-index l.references)) ≡ is_listed l.reference (map (λ (r : Bor (List ℕ)). r.now) l.references)
