-- The style that the words `gen SEED COUNT` make, and what they come to (docs/COMMANDS.md, "A style that is made").
use Rattle.std.specs.Prelude.{◌≡◌, ℕ, zero, suc, ◌+◌, ◌-◌, ◌*◌, ◌/◌, ◌%◌, nat_eq, if◌then◌else◌, List, [], ◌++◌, codes, length, Result, Ok}
use Rattle.std.specs.Fmt.{decimal}
use Rattle.bv_base.specs.Answers.{then_do}
use Rattle.name_table.specs.declared.style.Style.{Style}
use Rattle.bst_parse.specs.Reading.{style_of}
use Rattle.bst_meaning.specs.Safe.{Safe}
use Rattle.cert_format.specs.declared.cert.Cert.{Cert}
use Rattle.command_flow.specs.Checks.{checked}
use Rattle.infer.specs.DefaultCond.{default_cond}
use Rattle.infer.specs.Infer.{infer_of}
use Rattle.bst_run.specs.declared.outcome.Outcome.{Outcome}
use Rattle.bst_run.specs.Delivery.{Sunk, IsFront}
use Rattle.bst_run.specs.Inferred.{shown, unrejected}
use Rattle.bst_run.specs.Report.{generated as told}
use Rattle.bst_run.specs.Sources.{read_style}

-- the number after another
abbrev pub next_number : ℕ → ℕ
next_number number = (number * 1103515245 + 12345) % 2147483648

-- the number of a function, counted on from the seed
abbrev pub number_of : ℕ → ℕ → ℕ
number_of seed zero = seed
number_of seed (suc k) = next_number (number_of seed k)

-- which of four bodies a number chooses
abbrev pub choice_of : ℕ → ℕ
choice_of number = number / 65536 % 4

-- the body of the function of this number, from 1, by a choice: it writes the title, its own number or the author, or calls the
-- function before it
abbrev pub body_by : ℕ → ℕ → List ℕ
body_by choice k =
    if nat_eq choice 0 then codes "title empty$ 'skip$ {title write$ newline$} if$"
    else if nat_eq choice 1 then codes "\"" ++ (decimal k ++ codes "\" write$ newline$")
    else if nat_eq choice 2 then codes "author duplicate$ missing$ 'pop$ 'write$ if$ newline$"
    else codes "f" ++ decimal (k - 1)

-- the line of the function of this number, by a choice
abbrev pub function_line : ℕ → ℕ → List ℕ
function_line choice k = codes "FUNCTION{f" ++ (decimal k ++ (codes "}{" ++ (body_by choice k ++ codes "}\n")))

-- the functions up to that of this number
abbrev pub functions : ℕ → ℕ → List ℕ
functions seed zero = []
functions seed (suc k) = functions seed k ++ function_line (choice_of (number_of seed (suc k))) (suc k)

-- the line that visits each entry with the function of this number
abbrev pub visit_line : ℕ → List ℕ
visit_line k = codes "ITERATE{f" ++ (decimal k ++ codes "}\n")

-- the visits with the functions up to that of this number
abbrev pub visits : ℕ → List ℕ
visits zero = []
visits (suc k) = visits k ++ visit_line (suc k)

-- the text of a style of so many functions, made from a seed
abbrev pub generated : ℕ → ℕ → List ℕ
generated seed count =
    codes "ENTRY{title author}{}{}\nFUNCTION{f0}{skip$}\n" ++ (functions seed count ++ (codes "READ\n" ++ visits count))

-- a certificate is found for a style under its default condition, and the rules hold of it
abbrev pub shown_by_default : Style → Result (Unit {0}) Outcome
shown_by_default style = then_do (shown (infer_of style (default_cond style))) (λ cert. unrejected (checked style cert))

-- the words `gen SEED COUNT`: the style is made, read and shown
abbrev pub gen_outcome : ℕ → ℕ → Result Outcome Outcome
gen_outcome seed count =
    then_do (read_style (style_of (generated seed count))) (λ style.
    then_do (shown_by_default style) (λ held.
    Ok (told count (length (generated seed count)))))

-- of the certificate that is found for a style under its default condition all rules hold: the style is safe
pub record IsShown (style : Style) : Type 0 where
  pub cert : Cert
  pub found : infer_of style (default_cond style) ≡ Ok cert
  pub holds : checked style cert ≡ Ok []
  pub safe : Safe style (default_cond style)

-- the text that is made is a style of which this holds
pub record IsGenerated (seed count : ℕ) : Type 0 where
  pub style : Style
  pub style_read : style_of (generated seed count) ≡ Ok style
  pub shown : IsShown style

-- an outcome tells of that style
pub record IsGenerating (seed count : ℕ) (outcome : Outcome) : Type 0 where
  pub made : IsGenerated seed count
  pub printed : outcome ≡ told count (length (generated seed count))

-- what was put on standard output is a front of what tells of it
pub record IsSafelyGenerated (seed count : ℕ) (out : Sunk) : Type 0 where
  pub made : IsGenerated seed count
  pub printed : IsFront (told count (length (generated seed count))).out out
