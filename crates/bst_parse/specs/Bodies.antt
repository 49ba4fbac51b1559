-- The bodies of a style in the order of their opening braces (docs/LANGUAGE.md, "What is read").
use Rattle.std.specs.Prelude.{ℕ, zero, suc, ◌+◌, List, [], ◌∷◌, ◌++◌, length, Option, None, Some}
use Rattle.bv_base.specs.declared.place.Place.{Place}
use Rattle.name_table.specs.declared.style.Body.{Body}
use Rattle.name_table.specs.declared.style.BodyId.{BodyId}
use Rattle.name_table.specs.declared.style.TokenAt.{TokenAt}
use Rattle.name_table.specs.declared.style.Token.TheVariants.{Block}

-- the id of the body that begins next
abbrev pub next_body : List Body → BodyId
next_body bodies = record { 0 = length bodies }

-- an item of a list becomes what a function makes of it
abbrev pub changed_at : {X : Type 0} → ℕ → (X → X) → List X → List X
changed_at k f [] = []
changed_at zero f (x ∷ xs) = f x ∷ xs
changed_at (suc k) f (x ∷ xs) = x ∷ changed_at k f xs

-- a token goes to the end of a body
abbrev pub token_added : BodyId → TokenAt → List Body → List Body
token_added id token bodies = changed_at id.0 (λ body. record body { tokens = body.tokens ++ token ∷ [] }) bodies

-- 1 for a block, 0 for the body of a function
abbrev pub counted : Option ℕ → ℕ
counted None = 0
counted (Some number) = 1

-- how many bodies are blocks
abbrev pub block_count : List Body → ℕ
block_count [] = 0
block_count (body ∷ bodies) = counted body.block + block_count bodies

-- the body of a function begins
abbrev pub function_begun : Place → List Body → List Body
function_begun place bodies = bodies ++ record { tokens = []; block = None; place = place } ∷ []

-- a block begins in a body: it is a token of that body and a body of its own
abbrev pub block_begun : BodyId → Place → List Body → List Body
block_begun inside place bodies =
    token_added inside (record { token = Block (next_body bodies); place = place }) bodies
    ++ record { tokens = []; block = Some (block_count bodies); place = place } ∷ []

-- the first of the bodies that are open
abbrev pub innermost : List BodyId → Option BodyId
innermost [] = None
innermost (first ∷ _) = Some first
