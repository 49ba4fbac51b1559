-- What holds of every style that has been read (docs/LANGUAGE.md, "What is read").
use Rattle.std.specs.Prelude.{◌≡◌, ℕ, suc, ◌<◌, ◌≤◌, Bool, true, false, List, [], ◌∷◌, ◌++◌, length, map, Option, None, Some, slice_get}
use Rattle.std.specs.Option.{option_map}
use Rattle.bv_base.specs.declared.limits.TheConstants.{STYLE_BYTES}
use Rattle.name_table.specs.declared.names.TheConstants.{MOST_NAMES}
use Rattle.name_table.specs.declared.names.Kind.{Kind}
use Rattle.name_table.specs.declared.names.Kind.TheVariants.{Builtin, Wizard}
use Rattle.name_table.specs.declared.style.Body.{Body}
use Rattle.name_table.specs.declared.style.BodyId.{BodyId}
use Rattle.name_table.specs.declared.style.Command.{Command}
use Rattle.name_table.specs.declared.style.Command.TheVariants.{Execute, Function, Iterate, Reverse}
use Rattle.name_table.specs.declared.style.Style.{Style}
use Rattle.name_table.specs.declared.style.TheConstants.{MOST_BODIES}
use Rattle.name_table.specs.declared.style.Token.{Token}
use Rattle.name_table.specs.declared.style.Token.TheVariants.{Int, Str, Quote, Block, Call}
use Rattle.name_table.specs.Names.{same_name, kind_at, lowered, is_definable}
use Rattle.name_table.specs.Numbers.{IsByteList, has_32_bits}
use Rattle.name_table.specs.Opening.{opening_names}

-- each item of a list has a property
abbrev pub Each : {X : Type 0} → (X → Type 0) → List X → Type 0
Each P [] = Unit {0}
Each P (x ∷ xs) = P x × Each P xs

-- a declared name has name bytes alone, doesn't begin with a digit, is lowered, and is no longer than a style
pub record IsDeclared (name : List ℕ) : Type 0 where
  pub definable : is_definable name ≡ true
  pub lower : lowered name ≡ name
  pub short : length name ≤ STYLE_BYTES

-- no two of the names are equal
abbrev pub AreApart : List (List ℕ × Kind) → Type 0
AreApart [] = Unit {0}
AreApart (first ∷ rest) = Each (λ other. same_name other.0 first.0 ≡ false) rest × AreApart rest

-- a body's number if it is a block, where the body is there
abbrev pub block_of : BodyId → List Body → Option (Option ℕ)
block_of id bodies = option_map (λ body. body.block) (slice_get bodies id.0)

-- the body of a function is there, and is no block
abbrev pub IsKindSound : List Body → Kind → Type 0
IsKindSound bodies (Wizard id) = block_of id bodies ≡ Some None
IsKindSound bodies _ = Unit {0}

-- an integer has 32 bits, the names and texts of a token are there, and a block token's body is a block
abbrev pub IsTokenSound : List (List ℕ × Kind) → List Body → List (List ℕ) → Token → Type 0
IsTokenSound names bodies texts (Int value) = has_32_bits value ≡ true
IsTokenSound names bodies texts (Str id) = id.0 < length texts
IsTokenSound names bodies texts (Quote id) = id.0 < length names
IsTokenSound names bodies texts (Call id) = id.0 < length names
IsTokenSound names bodies texts (Block id) = (number : ℕ) × (block_of id bodies ≡ Some (Some number))

-- a built-in function or one that the style defines
abbrev pub is_callable : Option Kind → Bool
is_callable (Some (Builtin _)) = true
is_callable (Some (Wizard _)) = true
is_callable _ = false

-- EXECUTE, ITERATE and REVERSE call a function, and FUNCTION defines one
abbrev pub IsCommandSound : List (List ℕ × Kind) → Command → Type 0
IsCommandSound names (Execute id) = is_callable (kind_at id names) ≡ true
IsCommandSound names (Iterate id) = is_callable (kind_at id names) ≡ true
IsCommandSound names (Reverse id) = is_callable (kind_at id names) ≡ true
IsCommandSound names (Function id) = (body : BodyId) × (kind_at id names ≡ Some (Wizard body))
IsCommandSound names _ = Unit {0}

-- the blocks among these bodies have the numbers from n on, in order, so that a number is that of one body
abbrev pub AreNumbered : ℕ → List (Option ℕ) → Type 0
AreNumbered n [] = Unit {0}
AreNumbered n (None ∷ rest) = AreNumbered n rest
AreNumbered n (Some number ∷ rest) = (number ≡ n) × AreNumbered (suc n) rest

-- what holds of a style: what each part of it names is there, its texts are of bytes, and nothing is beyond the limits
pub record IsSound (style : Style) : Type 0 where
  pub declared : List (List ℕ × Kind)
  pub names : style.names ≡ opening_names ++ declared
  pub spelled : Each (λ entry. IsDeclared entry.0) declared
  pub apart : AreApart style.names
  pub kinds : Each (λ entry. IsKindSound style.bodies entry.1) style.names
  pub tokens : Each (λ body. Each (λ at. IsTokenSound style.names style.bodies style.texts at.token) body.tokens) style.bodies
  pub commands : Each (λ at. IsCommandSound style.names at.command) style.commands
  pub numbered : AreNumbered 0 (map (λ body. body.block) style.bodies)
  pub few_names : length style.names ≤ MOST_NAMES
  pub few_bodies : length style.bodies ≤ MOST_BODIES
  pub few_commands : length style.commands ≤ STYLE_BYTES
  pub short_texts : Each (λ text. length text ≤ STYLE_BYTES) style.texts
  pub byte_names : Each (λ entry. IsByteList entry.0) style.names
  pub byte_texts : Each IsByteList style.texts
