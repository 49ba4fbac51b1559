-- The keys of parents that are in a list, and the parents that are wanted by them.
use Rattle.std.proofs.Common.{arith, ◌≡◌, ℕ, suc, Bool, true, false, cond, not, ◌&&◌, ◌||◌, List, [], ◌∷◌, length, ◌==◌, eqb-true, refl, sym, ap, ◌∙◌}
use Rattle.bv_base.specs.KeySets.{has_lowered}
use Rattle.entry_list.specs.Keys.{Listed, is_listed, same_key}
use Rattle.entry_list.specs.Parents.{is_named_twice}
use Rattle.entry_list.proofs.Naming.{has_same}

both_same : (l m r : Bool) → (((m && true) || l) || (m && r)) ≡ (l || (m && (true || r)))
both_same true true r = refl
both_same true false r = refl
both_same false true r = refl
both_same false false r = refl

none_more : (l m : Bool) → ((m && false) || l) ≡ l
none_more l true = refl
none_more l false = refl

one_more : (l n m s r : Bool) → (s ≡ true → n ≡ m) → (((m && s) || l) || (n && r)) ≡ (l || (n && (s || r)))
one_more l n m true r same =
    ap (λ b. ((m && true) || l) || (b && r)) (same refl)
    ∙ both_same l m r
    ∙ ap (λ b. l || (b && (true || r))) (sym (same refl))
one_more l n m false r same = ap (λ b. b || (n && r)) (none_more l m)

-- an entry of a list whose key is one of these or isn't
pub among_step : (listed new named : List (List ℕ)) (entry : Listed) (key : List ℕ) (rest : List Listed)
    → has_lowered key new ≡ ((has_lowered entry.key named && same_key key entry.key) || has_lowered key listed)
    → (has_lowered key new || (has_lowered key named && is_listed key rest))
    ≡ (has_lowered key listed || (has_lowered key named && is_listed key (entry ∷ rest)))
among_step listed new named entry key rest added =
    ap (λ b. b || (has_lowered key named && is_listed key rest)) added
    ∙ one_more (has_lowered key listed) (has_lowered key named) (has_lowered entry.key named) (same_key key entry.key)
    (is_listed key rest) (λ same. has_same key entry.key named same)

pub among_end : (listed named : Bool) → (listed || (named && false)) ≡ listed
among_end true named = refl
among_end false true = refl
among_end false false = refl

-- what is named twice is named
pub twice_named : (key : List ℕ) (parents : List Listed) → is_named_twice key parents ≡ true → is_listed key parents ≡ true
twice_named key [] twice = absurd cc
twice_named key (parent ∷ parents) twice = by (same_key key parent.key) twice (twice_named key parents)
  where
    by : (b : Bool) → cond b (is_listed key parents) (is_named_twice key parents) ≡ true
        → (is_named_twice key parents ≡ true → is_listed key parents ≡ true) → (b || is_listed key parents) ≡ true
    by true is later = refl
    by false is later = later is

-- where keys say of what is named twice whether it is in a list, they say what is wanted
pub wanted_told : (is twice has listed : Bool) → is ≡ twice → (twice ≡ true → has ≡ listed) → (is && not has) ≡ (twice && not listed)
wanted_told is twice has listed same told = ap (λ b. b && not has) same ∙ by twice told
  where
    by : (b : Bool) → (b ≡ true → has ≡ listed) → (b && not has) ≡ (b && not listed)
    by true told = ap not (told refl)
    by false told = refl

-- no key is one of none
pub none_named : (key : List ℕ) (parents : List Listed) (empty : Bool) → empty ≡ (length parents == 0) → empty ≡ true
    → is_listed key parents ≡ false
none_named key [] empty is same = refl
none_named key (parent ∷ parents) empty is same =
    let none : suc (length parents) ≡ 0 = eqb-true (suc (length parents)) 0 (sym is ∙ same) in absurd (omega (arith, none))
