-- The rules in order: of summaries, of loops, and of commands.
use Rattle.std.proofs.Common.{◌≡◌, ℕ, zero, suc, ◌+◌, ◌≤◌, ◌<◌, List, [], ◌∷◌, drop, Option, None, Some, Result, Ok, slice_get, refl, sym, ap, subst, ◌∙◌, add-one, arith, Bor, get_or, Bor, length}
use Rattle.std.specs.List.{All}
use Rattle.std.specs.Option.{ForSome, MatchOption, option_map, option_map_or}
use Rattle.std.proofs.lemmas.List.Elements.{All-head, All-tail}
use Rattle.std.proofs.lemmas.Option.{slice_get-get_or}
use Rattle.cert_check.specs.Certified.{IsCommandOf}
use Rattle.bv_base.specs.Answers.{then_do}
use Rattle.name_table.specs.declared.style.CommandAt.{CommandAt}
use Rattle.name_table.specs.declared.style.Style.{Style}
use Rattle.cert_format.specs.declared.cert.Cert.{Cert}
use Rattle.cert_format.specs.declared.cert.CommandPart.{CommandPart}
use Rattle.cert_check.specs.Given.{Refused}
use Rattle.cert_check.specs.declared.refusal.Refusal.{Refusal}
use Rattle.command_flow.specs.Checks.{commands_checked, each_checked}
use Rattle.command_flow.specs.Commands.{Left, Onward, command_taken}
use Rattle.command_flow.specs.Records.{record_at}
use Rattle.command_flow.specs.declared.between.Between.{Between}

-- a rule that fails, before others
pub then_fails : {A B : Type 0} (first : Result A Refusal) (next : A → Result B Refusal) (all : Result B Refusal) (refusal : Refusal)
    → all ≡ then_do first next → Refused first refusal → Refused all refusal
then_fails {A} {B} first next all refusal same refused = λ memory. same ∙ ap (λ (r : Result A Refusal). then_do r next) (refused memory)

-- the units from one number on
units_from : {X : Type 0} (check : X → Left) (i : ℕ) (units : List X)
    → each_checked check (drop i units) ≡ then_do (option_map_or check (slice_get units i) (Ok [])) (λ hints. each_checked check (drop (suc i) units))
units_from check zero [] = refl
units_from check (suc i) [] = refl
units_from check zero (unit ∷ units) = refl
units_from check (suc i) (unit ∷ units) = units_from check i units

pub next_unit : {X : Type 0} (check : X → Left) (i : ℕ) (units : List X) → option_map_or check (slice_get units i) (Ok []) ≡ Ok []
    → each_checked check (drop (i + 1) units) ≡ each_checked check (drop i units)
next_unit check i units is =
    ap (λ (n : ℕ). each_checked check (drop n units)) (add-one i)
    ∙ sym (units_from check i units ∙ ap (λ (r : Left). then_do r (λ hints. each_checked check (drop (suc i) units))) is)

pub unit_refused : {X : Type 0} (check : X → Left) (i : ℕ) (units : List X) (refusal : Refusal) → each_checked check (drop i units) ≡ each_checked check units
    → Refused (option_map_or check (slice_get units i) (Ok [])) refusal → Refused (each_checked check units) refusal
unit_refused check i units refusal so_far =
    then_fails (option_map_or check (slice_get units i) (Ok [])) (λ hints. each_checked check (drop (suc i) units)) (each_checked check units) refusal
    (sym so_far ∙ units_from check i units)

-- the commands from one number on
pub commands_from : (style : Style) (cert : Cert) (index i : ℕ) (between : Between) (commands : List CommandAt) (at : CommandAt)
    → slice_get commands i ≡ Some at → commands_checked style cert index between (drop i commands)
    ≡ then_do (command_taken style cert at (record_at index cert.commands) between) (λ after. commands_checked style cert (suc index) after (drop (suc i) commands))
commands_from style cert index i between [] at is = absurd (cc)
commands_from style cert index zero between (first ∷ commands) at is =
    let same : first ≡ at = cc in
    ap (λ (c : CommandAt). then_do (command_taken style cert c (record_at index cert.commands) between) (λ after.
    commands_checked style cert (suc index) after commands)) same
commands_from style cert index (suc i) between (first ∷ commands) at is = commands_from style cert index i between commands at is

-- the record that is taken is one of those that are left, and so are those behind it
pub fit_first : (style : Style) (one : Option (Bor CommandPart)) (records rest : List CommandPart)
    → MatchOption one (rest ≡ records) (λ first. records ≡ first.now ∷ rest) → All (IsCommandOf style) records
    → ForSome (option_map (λ r. r.now) one) (IsCommandOf style)
fit_first style None records rest behind fit = λ r is. absurd (cc)
fit_first style (Some first) records rest behind fit =
    λ r is. let same : first.now ≡ r = cc in subst (IsCommandOf style) same
    (All-head (IsCommandOf style) first.now rest (subst (All (IsCommandOf style)) behind fit))

pub fit_behind : (style : Style) (one : Option (Bor CommandPart)) (records rest : List CommandPart)
    → MatchOption one (rest ≡ records) (λ first. records ≡ first.now ∷ rest) → All (IsCommandOf style) records → All (IsCommandOf style) rest
fit_behind style None records rest behind fit = subst (All (IsCommandOf style)) (sym behind) fit
fit_behind style (Some first) records rest behind fit = All-tail (IsCommandOf style) first.now rest (subst (All (IsCommandOf style)) behind fit)

-- a command is taken from those that are left
pub one_command : (style other : Style) (cert another : Cert) (index : ℕ) (between : Between) (records : List CommandPart) (items : List CommandAt) (d : CommandAt)
    (one : Option (Bor CommandPart)) → style ≡ other → cert ≡ another → items ≡ style.commands → index < length items
    → option_map (λ r. r.now) one ≡ record_at index records → ((k : ℕ) → index ≤ k → record_at k cert.commands ≡ record_at k records)
    → commands_checked style cert index between (drop index style.commands)
    ≡ then_do (command_taken other another (get_or items index d) (option_map (λ r. r.now) one) between) (λ after.
    commands_checked style cert (suc index) after (drop (suc index) style.commands))
one_command style other cert another index between records items d one same is lists within found later =
    let at : CommandAt = get_or items index d in
    let there : slice_get style.commands index ≡ Some at =
    ap (λ (l : List CommandAt). slice_get l index) (sym lists) ∙ slice_get-get_or items index d within in
    let taken : command_taken style cert at (record_at index cert.commands) between
    ≡ command_taken other another at (option_map (λ r. r.now) one) between =
    ap (λ (r : Option CommandPart). command_taken style cert at r between) (later index (omega arith) ∙ sym found)
    ∙ ap (λ (s : Style). command_taken s cert at (option_map (λ r. r.now) one) between) same
    ∙ ap (λ (c : Cert). command_taken other c at (option_map (λ r. r.now) one) between) is in
    commands_from style cert index index between style.commands at there
    ∙ ap (λ (r : Onward). then_do r (λ after. commands_checked style cert (suc index) after (drop (suc index) style.commands))) taken

pub command_refused : (style : Style) (cert : Cert) (index : ℕ) (between : Between) (taken : Onward) (all : Left) (refusal : Refusal)
    → commands_checked style cert index between (drop index style.commands)
    ≡ then_do taken (λ after. commands_checked style cert (suc index) after (drop (suc index) style.commands))
    → commands_checked style cert index between (drop index style.commands) ≡ all → Refused taken refusal → Refused all refusal
command_refused style cert index between taken all refusal turn so_far =
    then_fails taken (λ after. commands_checked style cert (suc index) after (drop (suc index) style.commands)) all refusal (sym so_far ∙ turn)

pub next_command : (style : Style) (cert : Cert) (index : ℕ) (between after : Between) (taken : Onward) (all : Left)
    → commands_checked style cert index between (drop index style.commands)
    ≡ then_do taken (λ next. commands_checked style cert (suc index) next (drop (suc index) style.commands))
    → commands_checked style cert index between (drop index style.commands) ≡ all → taken ≡ Ok after
    → commands_checked style cert (index + 1) after (drop (index + 1) style.commands) ≡ all
next_command style cert index between after taken all turn so_far is =
    ap (λ (n : ℕ). commands_checked style cert n after (drop n style.commands)) (add-one index)
    ∙ sym (turn ∙ ap (λ (r : Onward). then_do r (λ next. commands_checked style cert (suc index) next (drop (suc index) style.commands))) is) ∙ so_far
