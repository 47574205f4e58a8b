use Rattle.std.proofs.Common.{rules, ◌≡◌, ◌≢◌, ◌<◌, ℕ, List, None, Some, get_or, inl, inr, length, lit<, subst, sym, ◌∙◌}
use Rattle.std.proofs.lemmas.Map.Lookups.{exact_bytes}
use Rattle.std.proofs.lemmas.Str.Pattern.{NoCharPasses-char}
use Rattle.upon_tool_messages.specs.Included.{IsOnWay}
use Rattle.upon_tool_messages.specs.Library.{refused_as}
use Rattle.upon_tool_messages.proofs.Ways.{beyond_front, cut_at_last, front_on_way, longer_or_same}
use Rattle.upon_tool_messages.proofs.library.Library.refused_on_way.Goals as goal

pub returns-in-Some : goal.returns-in-Some
returns-in-Some c =
    let same : c.as_str.result.now ≡ c.loop-found.path.now = c.as_str.ensures.value ∙ sym (exact_bytes c.loop-found.path.now _ c.in-Some.ensures.same_key) in
    let Found : List ℕ → Type 0 =
    λ found. IsOnWay found c.args.name.now × (refused_as c.args.self.now found ≡ Some c.in-Some.refusal.now)
    × ((path : List ℕ) → IsOnWay path c.args.name.now → length found < length path → refused_as c.args.self.now path ≡ None) in
    subst Found (sym same) (c.loop-found.invariant.1.way, sym c.in-Some.ensures.value, c.loop-found.invariant.1.longer)

pub returns-in_err-path : goal.returns-in_err-path
returns-in_err-path c =
    let path = c.loop-found.path.now in
    let name = c.args.name.now in
    let refused = refused_as c.args.self.now in
    let here : refused path ≡ None = search rules in
    let none : (k : ℕ) → k < length path → get_or path k 0 ≢ 47 = λ k inside. NoCharPasses-char 47 path k c.in_err-path.ensures.cases (lit< tt) inside in
    let each : (other : List ℕ) → IsOnWay other name → refused other ≡ None =
    λ other way. elim (longer_or_same name path other 0 c.loop-found.invariant.1.way way (λ k from inside. none k inside) (search rules)) [
      | inl longer ↦ c.loop-found.invariant.1.longer other way longer
      | inr same ↦ subst (λ l. refused l ≡ None) (sym same) here
    ] in
    search rules

pub loop-found-preserved : goal.loop-found-preserved
loop-found-preserved c =
    let path = c.loop-found.path.now in
    let front = c.in_ok-path.field-0-0.now in
    let back = c.in_ok-path.field-0-1.now in
    let name = c.args.name.now in
    let refused = refused_as c.args.self.now in
    let here : refused path ≡ None = search rules in
    let cut = cut_at_last path front back c.in_ok-path.ensures.cases in (
      search rules,
      record {
        way = front_on_way front back path name cut.0 c.loop-found.invariant.1.way;
        longer = λ other way longer. elim (beyond_front front back path cut.0 cut.1 name other c.loop-found.invariant.1.way way longer) [
          | inl beyond ↦ c.loop-found.invariant.1.longer other way beyond
          | inr same ↦ subst (λ l. refused l ≡ None) (sym same) here
        ];
      },
    )
