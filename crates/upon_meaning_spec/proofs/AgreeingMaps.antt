-- In two maps that hold the same at some names, paths that begin with one of them are found alike.
use Rattle.std.proofs.Common.{◌≡◌, ℕ, List, refl}
use Rattle.upon_types.specs.declared.types.Span.{Span}
use Rattle.upon_types.specs.declared.types.ast.path.AccessOp.{AccessOp}
use Rattle.upon_types.specs.Path.{Access, by_index, by_key, Member}
use Rattle.upon_types.specs.Val.{Entries, map_val, entry_at}
use Rattle.upon_lookup.specs.Environment.{context, root_environment}
use Rattle.upon_lookup.specs.Finding.{reply}
use Rattle.upon_lookup.specs.Lookup.{lookup, or_not_in_scope}
use Rattle.upon_lookup.specs.LookupFaults.{not_in_map}
use Rattle.upon_lookup.specs.Source.{Source}
use Rattle.upon_lookup.specs.Walk.{after_first, found_or_missed, walk}
use Rattle.upon_meaning_spec.specs.Names.{AgreeOn}
use Rattle.upon_meaning_spec.proofs.SameLookups.{Known, FoundAlike}

module _ {V : Type 0} (ask : Source V) (names : List ℕ → Type 0) (these those : Entries) (agree : AgreeOn names (λ n. entry_at n these) (λ n. entry_at n those)) where
  by_selector : (selector : Access) (op : AccessOp) (span : Span) (rest : List Member) (q : V) → Known names selector →
      lookup ask (root_environment (context (map_val these))) (record { op = op; access = selector; span = span }) rest q ≡ lookup ask (root_environment (context (map_val those))) (record { op = op; access = selector; span = span }) rest q
  by_selector (by_index n at) op span rest q known = refl
  by_selector (by_key word) op span rest q known =
      λ i. reply (or_not_in_scope (after_first (found_or_missed (agree word.text known i) op (not_in_map span)) (walk rest)) span) q

  pub maps_alike : FoundAlike ask names (root_environment (context (map_val these))) (root_environment (context (map_val those)))
  maps_alike first rest q known = by_selector first.access first.op first.span rest q known
