-- Taking a text in two pieces is taking it in one.
use Rattle.std.proofs.Common.{◌≡◌, ℕ, ◌+◌, List, ◌++◌, take, drop, Option, Some, None, refl, ap, sym, ◌∙◌, append_assoc, take-add}
use Rattle.bv_base.specs.Outside.{appended}

pub appended_more :
    (written : Option (List ℕ)) (text : List ℕ) (done count : ℕ) →
    appended (appended written (take done text)) (take count (drop done text)) ≡ appended written (take (done + count) text)
appended_more None text done count = refl
appended_more (Some written) text done count = ap Some (append_assoc written _ _ ∙ ap (λ bytes. written ++ bytes) (sym (take-add done count text)))
