-- Patterns that are known to be well formed.
use Rattle.std.proofs.Common.{◌≡◌, ℕ, true, nat_eq, List, sym, ap, ◌∙◌}
use Rattle.std.specs.Global.{Vec}
use Rattle.std.specs.Cmp.Lexicographic.{pointwise, same_text}
use Rattle.std.specs.List.{All, Any}
use Rattle.std.proofs.lemmas.List.Folds.{Any-from_list_any}
use Rattle.bv_base.specs.KeySets.{has_item}
use Rattle.name_split.specs.Patterns.{pattern_ok}

-- what is among patterns that are well formed is well formed
pub known_ok : (pattern : List ℕ) (known : List (Vec ℕ)) → All (λ bytes. pattern_ok bytes.items ≡ true) known
    → has_item (λ bytes. bytes.items) pattern known ≡ true → true ≡ pattern_ok pattern
known_ok pattern known all found = by (Any-from_list_any (λ bytes. pointwise nat_eq pattern bytes.items) known found)
  where
    by : Any (λ bytes. pointwise nat_eq pattern bytes.items ≡ true) known → true ≡ pattern_ok pattern
    by (k, x, less, is, same) =
        sym (ap pattern_ok (same_text pattern x.items (sym same)) ∙ ap (λ bytes. pattern_ok bytes.items) (sym is) ∙ all k x less)
