-- The forms of words (docs/COMMANDS.md, "Forms").
use Rattle.std.specs.Prelude.{ℕ, ◌≤◌, Bool, ◌&&◌, not, nat_eq, nat_le, if◌then◌else◌, List, [], ◌∷◌, codes, Option, None, Some, String}
use Rattle.std.specs.Borrow.{Bor}
use Rattle.std.specs.Option.{option_and_then, option_map}
use Rattle.std.specs.Global.{Global}
use Rattle.std.specs.String.{string_bytes}
use Rattle.std.specs.Cmp.Lexicographic.{pointwise}
use Rattle.bv_base.specs.Runs.{number_from}
use Rattle.cert_format.specs.Items.{has_leading_zero, is_numeral}
use Rattle.bst_run.specs.declared.words.TheConstants.{MOST_FUNCTIONS, NINE_DIGITS}
use Rattle.bst_run.specs.declared.words.Form.{Form as Words}
use Rattle.bst_run.specs.declared.words.Form.TheVariants.{Check as CheckWords, Infer as InferWords, Run as RunWords, RunUnder as UnderWords, Gen as GenWords}

-- what some words ask for, with the names of files, the number of steps, and the seed and the number of functions
pub data Form : Type 0 where
  Check : (style cert : List ℕ) → Form
  Infer : (style : List ℕ) → (cond : Option (List ℕ)) → Form
  Run : (aux : List ℕ) → (steps : ℕ) → Form
  RunUnder : (aux : List ℕ) → (steps : ℕ) → (cert : List ℕ) → Form
  Gen : (seed count : ℕ) → Form

-- one to nine digits without a leading zero, except 0 itself
abbrev pub is_small : List ℕ → Bool
is_small bytes = is_numeral bytes && (not (has_leading_zero bytes) && nat_le (number_from 0 bytes) NINE_DIGITS)

-- the number that such a word writes
abbrev pub number_in : List ℕ → Option ℕ
number_in bytes = if is_small bytes then Some (number_from 0 bytes) else None

-- a number of functions that a style is made of
abbrev pub are_functions : ℕ → Bool
are_functions count = nat_le 1 count && nat_le count MOST_FUNCTIONS

-- the words `run AUX N`
abbrev pub run_form : List ℕ → List ℕ → Option Form
run_form aux steps = option_map (Run aux) (number_in steps)

-- the words `run AUX N CERT`
abbrev pub under_form : List ℕ → List ℕ → List ℕ → Option Form
under_form aux steps cert = option_map (λ n. RunUnder aux n cert) (number_in steps)

-- the words `gen SEED COUNT` with this number of functions
abbrev pub made_form : List ℕ → ℕ → Option Form
made_form seed count = if are_functions count then option_map (λ n. Gen n count) (number_in seed) else None

-- the words `gen SEED COUNT`
abbrev pub gen_form : List ℕ → List ℕ → Option Form
gen_form seed count = option_and_then (made_form seed) (number_in count)

-- the words `check STYLE CERT`, `infer STYLE`, `infer STYLE COND`, `run AUX N`, `run AUX N CERT` and `gen SEED COUNT`, and no others
abbrev pub form_of : List (String Global) → Option Form
form_of (word ∷ style ∷ []) = if pointwise nat_eq (string_bytes word) (codes "infer") then Some (Infer (string_bytes style) None) else None
form_of (word ∷ first ∷ second ∷ []) =
    if pointwise nat_eq (string_bytes word) (codes "check") then Some (Check (string_bytes first) (string_bytes second))
    else if pointwise nat_eq (string_bytes word) (codes "infer") then Some (Infer (string_bytes first) (Some (string_bytes second)))
    else if pointwise nat_eq (string_bytes word) (codes "run") then run_form (string_bytes first) (string_bytes second)
    else if pointwise nat_eq (string_bytes word) (codes "gen") then gen_form (string_bytes first) (string_bytes second)
    else None
form_of (word ∷ aux ∷ steps ∷ cert ∷ []) =
    if pointwise nat_eq (string_bytes word) (codes "run") then under_form (string_bytes aux) (string_bytes steps) (string_bytes cert) else None
form_of _ = None

-- the name of a file that may be named
abbrev pub name_in : Option (Bor (List ℕ)) → Option (List ℕ)
name_in name = option_map (λ n. n.now) name

-- the same of the words that were read
abbrev pub form_in : Words → Form
form_in (CheckWords style cert) = Check style.now cert.now
form_in (InferWords style cond) = Infer style.now (name_in cond)
form_in (RunWords aux steps) = Run aux.now steps
form_in (UnderWords aux steps cert) = RunUnder aux.now steps cert.now
form_in (GenWords seed count) = Gen seed count

-- the words `gen SEED COUNT`
abbrev pub IsGen : Form → Type 0
IsGen (Gen seed count) = Unit {0}
IsGen _ = ⊥

-- a form's number of functions is one that a style is made of
abbrev pub IsWithin : Form → Type 0
IsWithin (Gen seed count) = (1 ≤ count) × (count ≤ MOST_FUNCTIONS)
IsWithin _ = Unit {0}
