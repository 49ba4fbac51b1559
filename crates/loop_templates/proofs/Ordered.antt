-- The place of a fact among facts in their order.
use Rattle.std.proofs.Common.{◌≡◌, ℕ, suc, ◌+◌, ◌<◌, Bool, true, false, cond, ap, sym, ◌∙◌, arith, List, [], ◌∷◌, ◌++◌, length, take, drop, get_or, append_assoc}
use Rattle.std.specs.List.{insert}
use Rattle.std.proofs.lemmas.List.{drop_more, take-append-drop}
use Rattle.std.proofs.Math.Seq.{take-suc, drop-length}
use Rattle.sym_state.specs.declared.symbol.Fact.{Fact}
use Rattle.loop_templates.specs.Cases.{same_fact, stands_before, with_fact}

-- what a fact comes to behind one that it doesn't stand before and isn't
goes_on : (fact x : Fact) (rest : List Fact) → stands_before fact x ≡ false → same_fact fact x ≡ false → with_fact fact (x ∷ rest) ≡ x ∷ with_fact fact rest
goes_on fact x rest after other =
    ap (λ (b : Bool). cond b (fact ∷ (x ∷ rest)) (cond (same_fact fact x) (x ∷ rest) (x ∷ with_fact fact rest))) after
    ∙ ap (λ (b : Bool). cond b (x ∷ rest) (x ∷ with_fact fact rest)) other

stops_before : (fact x : Fact) (rest : List Fact) → stands_before fact x ≡ true → with_fact fact (x ∷ rest) ≡ fact ∷ (x ∷ rest)
stops_before fact x rest before =
    ap (λ (b : Bool). cond b (fact ∷ (x ∷ rest)) (cond (same_fact fact x) (x ∷ rest) (x ∷ with_fact fact rest))) before

stays : (fact x : Fact) (rest : List Fact) → stands_before fact x ≡ false → same_fact fact x ≡ true → with_fact fact (x ∷ rest) ≡ x ∷ rest
stays fact x rest after same =
    ap (λ (b : Bool). cond b (fact ∷ (x ∷ rest)) (cond (same_fact fact x) (x ∷ rest) (x ∷ with_fact fact rest))) after
    ∙ ap (λ (b : Bool). cond b (x ∷ rest) (x ∷ with_fact fact rest)) same

at_next : (x : Fact) (kept : List Fact) (at : ℕ) → at < length kept → x ≡ get_or kept at x → drop at kept ≡ x ∷ drop (at + 1) kept
at_next x kept at within is = drop_more kept at x within ∙ ap (λ (y : Fact). y ∷ drop (at + 1) kept) (sym is)

front_more : (x : Fact) (kept : List Fact) (at : ℕ) → at < length kept → x ≡ get_or kept at x → take at kept ++ x ∷ [] ≡ take (at + 1) kept
front_more x kept at within is =
    let next : suc at ≡ at + 1 = omega arith in
    ap (λ (y : Fact). take at kept ++ y ∷ []) is ∙ sym (take-suc kept at x within) ∙ ap (λ (n : ℕ). take n kept) next

-- a fact goes past one that it doesn't stand before and isn't
pub passed : (fact x : Fact) (kept : List Fact) (at : ℕ) → at < length kept → x ≡ get_or kept at x
    → stands_before fact x ≡ false → same_fact fact x ≡ false
    → with_fact fact kept ≡ take at kept ++ with_fact fact (drop at kept)
    → with_fact fact kept ≡ take (at + 1) kept ++ with_fact fact (drop (at + 1) kept)
passed fact x kept at within is after other e =
    let rest = drop (at + 1) kept in
    e ∙ ap (λ (xs : List Fact). take at kept ++ with_fact fact xs) (at_next x kept at within is)
    ∙ ap (λ (xs : List Fact). take at kept ++ xs) (goes_on fact x rest after other)
    ∙ sym (append_assoc (take at kept) (x ∷ []) (with_fact fact rest))
    ∙ ap (λ (xs : List Fact). xs ++ with_fact fact rest) (front_more x kept at within is)

-- it is put before one that it stands before
pub put_before : (fact x : Fact) (kept : List Fact) (at : ℕ) → at < length kept → x ≡ get_or kept at x → stands_before fact x ≡ true
    → with_fact fact kept ≡ take at kept ++ with_fact fact (drop at kept) → with_fact fact kept ≡ insert kept at fact
put_before fact x kept at within is before e =
    let next = at_next x kept at within is in
    e ∙ ap (λ (xs : List Fact). take at kept ++ with_fact fact xs) next
    ∙ ap (λ (xs : List Fact). take at kept ++ xs) (stops_before fact x (drop (at + 1) kept) before)
    ∙ ap (λ (xs : List Fact). take at kept ++ fact ∷ xs) (sym next)

-- where it stands there, nothing changes
pub is_there : (fact x : Fact) (kept : List Fact) (at : ℕ) → at < length kept → x ≡ get_or kept at x → stands_before fact x ≡ false
    → same_fact fact x ≡ true → with_fact fact kept ≡ take at kept ++ with_fact fact (drop at kept) → with_fact fact kept ≡ kept
is_there fact x kept at within is after same e =
    let next = at_next x kept at within is in
    e ∙ ap (λ (xs : List Fact). take at kept ++ with_fact fact xs) next
    ∙ ap (λ (xs : List Fact). take at kept ++ xs) (stays fact x (drop (at + 1) kept) after same)
    ∙ ap (λ (xs : List Fact). take at kept ++ xs) (sym next) ∙ take-append-drop at kept

-- behind all of them it is put last
pub put_last : (fact : Fact) (kept : List Fact) (n : ℕ) → n ≡ length kept
    → with_fact fact kept ≡ take n kept ++ with_fact fact (drop n kept) → with_fact fact kept ≡ insert kept n fact
put_last fact kept n all e =
    let none : drop n kept ≡ [] = ap (λ (k : ℕ). drop k kept) all ∙ drop-length kept in
    e ∙ ap (λ (xs : List Fact). take n kept ++ with_fact fact xs) none ∙ ap (λ (xs : List Fact). take n kept ++ fact ∷ xs) (sym none)
