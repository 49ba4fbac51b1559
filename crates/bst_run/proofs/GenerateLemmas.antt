-- The text of a style that is made is short, and what the style comes to.
use Rattle.std.proofs.Common.{◌≡◌, ℕ, zero, suc, ◌*◌, ◌-◌, ◌≤◌, Bool, true, false, cond, nat_eq, List, [], ◌++◌, codes, length, length-append, Result, Ok, Err, sym, ◌∙◌, ap, subst, arith}
use Rattle.std.specs.Fmt.{decimal}
use Rattle.std.specs.Prelude.{IfOk}
use Rattle.std.proofs.lemmas.Fmt.{length-decimal-le}
use Rattle.bv_base.specs.declared.limits.TheConstants.{STYLE_BYTES}
use Rattle.name_table.specs.declared.style.Style.{Style}
use Rattle.bst_parse.specs.Reading.{style_of}
use Rattle.bst_meaning.specs.Safe.{Safe}
use Rattle.bst_meaning.specs.declared.condition.Cond.{Cond}
use Rattle.cert_format.specs.declared.cert.Cert.{Cert}
use Rattle.command_flow.specs.Checks.{checked}
use Rattle.infer.specs.DefaultCond.{default_cond}
use Rattle.infer.specs.Infer.{infer_of}
use Rattle.bst_run.specs.declared.outcome.Outcome.{Outcome}
use Rattle.bst_run.specs.declared.stop.Stop.{Stop}
use Rattle.bst_run.specs.declared.words.TheConstants.{MOST_FUNCTIONS}
use Rattle.bst_run.specs.Generated.{IsGenerating, IsShown, body_by, choice_of, function_line, functions, gen_outcome, generated, number_of, shown_by_default, visit_line, visits}
use Rattle.bst_run.specs.Inferred.{shown, unrejected}
use Rattle.bst_run.specs.Report.{generated as told}
use Rattle.bst_run.specs.Sources.{read_style}
use Rattle.bst_run.specs.Stops.{Decides, outcome_of}
use Rattle.bst_run.proofs.ReadsLemmas.{stopped, then_decided}
use Rattle.bst_run.proofs.StyleLemmas.{is_style}

-- a number of functions has at most four digits
few_digits : (k : ℕ) → k ≤ 2000 → length (decimal k) ≤ 4
few_digits k few = length-decimal-le 4 k (omega arith) (omega arith) (omega arith)

body_short : (choice k : ℕ) → k ≤ 2000 → length (body_by choice k) ≤ 60
body_short choice k few = by (nat_eq choice 0) (nat_eq choice 1) (nat_eq choice 2)
  where
    by : (a b c : Bool) → length (cond a (codes "title empty$ 'skip$ {title write$ newline$} if$")
        (cond b (codes "\"" ++ (decimal k ++ codes "\" write$ newline$"))
        (cond c (codes "author duplicate$ missing$ 'pop$ 'write$ if$ newline$") (codes "f" ++ decimal (k - 1))))) ≤ 60
    by true b c = omega arith
    by false true c =
        omega (arith, few_digits k few, length-append (codes "\"") (decimal k ++ codes "\" write$ newline$"), length-append (decimal k) (codes "\" write$ newline$"))
    by false false true = omega arith
    by false false false = omega (arith, few_digits (k - 1) (omega (arith, few)), length-append (codes "f") (decimal (k - 1)))

line_short : (choice k : ℕ) → k ≤ 2000 → length (function_line choice k) ≤ 80
line_short choice k few =
    omega (
      arith,
      few_digits k few,
      body_short choice k few,
      length-append (codes "FUNCTION{f") (decimal k ++ (codes "}{" ++ (body_by choice k ++ codes "}\n"))),
      length-append (decimal k) (codes "}{" ++ (body_by choice k ++ codes "}\n")),
      length-append (codes "}{") (body_by choice k ++ codes "}\n"),
      length-append (body_by choice k) (codes "}\n"),
    )

functions_short : (seed k : ℕ) → k ≤ 2000 → length (functions seed k) ≤ 80 * k
functions_short seed zero few = omega arith
functions_short seed (suc k) few =
    let line = line_short (choice_of (number_of seed (suc k))) (suc k) few in
    omega (arith, functions_short seed k (omega (arith, few)), line, length-append (functions seed k) (function_line (choice_of (number_of seed (suc k))) (suc k)))

visit_short : (k : ℕ) → k ≤ 2000 → length (visit_line k) ≤ 20
visit_short k few = omega (arith, few_digits k few, length-append (codes "ITERATE{f") (decimal k ++ codes "}\n"), length-append (decimal k) (codes "}\n"))

visits_short : (k : ℕ) → k ≤ 2000 → length (visits k) ≤ 20 * k
visits_short zero few = omega arith
visits_short (suc k) few = omega (arith, visits_short k (omega (arith, few)), visit_short (suc k) few, length-append (visits k) (visit_line (suc k)))

pub generated_short : (seed count : ℕ) → count ≤ MOST_FUNCTIONS → length (generated seed count) ≤ STYLE_BYTES
generated_short seed count few =
    omega (
      arith,
      few,
      functions_short seed count few,
      visits_short count few,
      length-append (codes "ENTRY{title author}{}{}\nFUNCTION{f0}{skip$}\n") (functions seed count ++ (codes "READ\n" ++ visits count)),
      length-append (functions seed count) (codes "READ\n" ++ visits count),
      length-append (codes "READ\n") (visits count),
    )

-- a text that is the one that is made is short
pub made_short : (seed count : ℕ) (source : List ℕ) → count ≤ MOST_FUNCTIONS → source ≡ generated seed count → length source ≤ STYLE_BYTES
made_short seed count source few made = subst (λ (t : List ℕ). length t ≤ STYLE_BYTES) (sym made) (generated_short seed count few)

-- the rules of the certificate that is found decide
pub shown_decided : (style : Style) (admits : Cond) (cert : Cert) (result : Result (Unit {0}) Stop)
    → admits ≡ default_cond style → infer_of style admits ≡ Ok cert → Decides {A = Unit {0}} (unrejected (checked style cert)) result
    → Decides {A = Unit {0}} (shown_by_default style) result
shown_decided style admits cert result same found decides =
    then_decided {A = Cert} {B = Unit {0}} (shown (infer_of style (default_cond style))) cert (λ c. unrejected (checked style c)) result
    (ap shown (subst (λ (a : Cond). infer_of style a ≡ Ok cert) same found)) decides

-- where they hold the style is shown
pub is_shown : (style : Style) (admits : Cond) (cert : Cert) (result : Result (Unit {0}) Stop)
    → admits ≡ default_cond style → infer_of style admits ≡ Ok cert → cert.cond ≡ admits
    → IfOk result (λ _. (checked style cert ≡ Ok []) × Safe style cert.cond) → IfOk result (λ _. IsShown style)
is_shown style admits cert (Err stop) same found under held = tt
is_shown style admits cert (Ok left) same found under held = record {
  cert = cert;
  found = subst (λ (a : Cond). infer_of style a ≡ Ok cert) same found;
  holds = held.0;
  safe = subst (Safe style) (under ∙ same) held.1;
}

module _ (seed count : ℕ) (source : List ℕ) (style : Style) (made : source ≡ generated seed count)
    (read : Decides {A = Style} (read_style (style_of source)) (Ok style)) where
  -- the style is read, and then shown
  pub gen_decided : (left : Unit {0}) (outcome : Outcome) (bytes : ℕ) → Decides {A = Unit {0}} (shown_by_default style) (Ok left)
      → bytes ≡ length source → outcome ≡ told count bytes → gen_outcome seed count ≡ Ok outcome
  gen_decided left outcome bytes held many is =
      then_decided {A = Style} {B = Outcome} (read_style (style_of (generated seed count))) style _ (Ok outcome)
      (subst (λ (b : List ℕ). read_style (style_of b) ≡ Ok style) made read)
      (then_decided {A = Unit {0}} {B = Outcome} (shown_by_default style) left (λ h. Ok (told count (length (generated seed count)))) (Ok outcome) held
      (ap Ok (sym (is ∙ ap (told count) (many ∙ ap length made)))))

  -- the style is read, and isn't shown
  pub gen_stopped : (stop : Stop) → Decides {A = Unit {0}} (shown_by_default style) (Err stop) → Decides {A = Outcome} (gen_outcome seed count) (Err stop)
  gen_stopped stop held =
      then_decided {A = Style} {B = Outcome} (read_style (style_of (generated seed count))) style _ (Err stop)
      (subst (λ (b : List ℕ). read_style (style_of b) ≡ Ok style) made read)
      (stopped {A = Unit {0}} {B = Outcome} (outcome_of stop) (shown_by_default style) (λ h. Ok (told count (length (generated seed count)))) held)

  -- the outcome tells of it
  pub generates : (outcome : Outcome) (bytes : ℕ) → IsShown style → bytes ≡ length source → outcome ≡ told count bytes
      → IsGenerating seed count outcome
  generates outcome bytes held many is = record {
    made = record {
      style = style;
      style_read = is_style (style_of (generated seed count)) style (subst (λ (b : List ℕ). read_style (style_of b) ≡ Ok style) made read);
      shown = held;
    };
    printed = is ∙ ap (told count) (many ∙ ap length made);
  }
