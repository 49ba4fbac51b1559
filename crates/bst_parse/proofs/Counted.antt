-- How many bodies and blocks there are after a change of one body and after one more.
use Rattle.std.proofs.Common.{◌≡◌, ℕ, zero, suc, ◌+◌, ◌<◌, ◌≤◌, List, [], ◌∷◌, ◌++◌, Option, None, Some, length, length-append, get_or, refl, ap, arith}
use Rattle.std.proofs.Math.ListN.{set}
use Rattle.name_table.specs.declared.style.TheConstants.{MOST_BODIES}
use Rattle.name_table.specs.declared.style.Body.{Body}
use Rattle.name_table.specs.declared.style.TokenAt.{TokenAt}
use Rattle.bst_parse.specs.Bodies.{changed_at, token_added, counted, block_count}

-- an item is changed where it is there
pub changed_at-set : {X : Type 0} (k : ℕ) (f : X → X) (xs : List X) (d : X) → k < length xs
    → changed_at k f xs ≡ set xs k (f (get_or xs k d))
changed_at-set zero f [] d h = refl
changed_at-set (suc k) f [] d h = refl
changed_at-set zero f (x ∷ xs) d h = refl
changed_at-set (suc k) f (x ∷ xs) d h = ap (λ l. x ∷ l) (changed_at-set k f xs d (omega arith))

pub changed_at-past : {X : Type 0} (k : ℕ) (f : X → X) (xs : List X) → length xs ≤ k → changed_at k f xs ≡ xs
changed_at-past zero f [] h = refl
changed_at-past (suc k) f [] h = refl
changed_at-past zero f (x ∷ xs) h = absurd (omega arith)
changed_at-past (suc k) f (x ∷ xs) h = ap (λ l. x ∷ l) (changed_at-past k f xs (omega arith))

pub length-changed_at : {X : Type 0} (k : ℕ) (f : X → X) (xs : List X) → length (changed_at k f xs) ≡ length xs
length-changed_at zero f [] = refl
length-changed_at (suc k) f [] = refl
length-changed_at zero f (x ∷ xs) = refl
length-changed_at (suc k) f (x ∷ xs) = ap (λ n. suc n) (length-changed_at k f xs)

pub block_count-token_added : (k : ℕ) (token : TokenAt) (bodies : List Body)
    → block_count (token_added (record { 0 = k }) token bodies) ≡ block_count bodies
block_count-token_added zero token [] = refl
block_count-token_added (suc k) token [] = refl
block_count-token_added zero token (body ∷ bodies) = refl
block_count-token_added (suc k) token (body ∷ bodies) =
    ap (λ n. counted body.block + n) (block_count-token_added k token bodies)

pub block_count-push : (bodies : List Body) (body : Body)
    → block_count (bodies ++ body ∷ []) ≡ block_count bodies + counted body.block
block_count-push [] body = omega arith
block_count-push (first ∷ bodies) body = let e = block_count-push bodies body in omega arith

counted-le : (o : Option ℕ) → counted o ≤ 1
counted-le None = omega arith
counted-le (Some n) = omega arith

pub block_count-le : (bodies : List Body) → block_count bodies ≤ length bodies
block_count-le [] = omega arith
block_count-le (body ∷ bodies) = let e = block_count-le bodies in let f = counted-le body.block in omega arith

-- one more body
pub one_more : (n : ℕ) (bodies new : List Body) (body : Body) → n ≡ block_count bodies → length bodies < MOST_BODIES
    → new ≡ bodies ++ body ∷ [] → (n + counted body.block ≡ block_count new) × (length new ≤ MOST_BODIES)
one_more n bodies new body blocks short is =
    let e = block_count-push bodies body in
    let f = ap block_count is in
    let g = ap (λ l. length l) is in
    (omega (arith, e, f), omega (arith, g, length-append {A = Body}))
