-- The commands for which pieces and loops are made, in order, and their records.
use Rattle.std.proofs.Common.{◌≡◌, ℕ, zero, suc, ◌+◌, ◌<◌, ◌⊎◌, List, [], ◌∷◌, ◌++◌, drop, length, Some, Result, Ok, slice_get, get_or, refl, sym, ap, subst, ◌∙◌, inl, inr, add-one, arith}
use Rattle.std.proofs.lemmas.List.{append-nil}
use Rattle.std.proofs.lemmas.List.Elements.{All-append, All-nil}
use Rattle.std.proofs.lemmas.Option.{slice_get-get_or}
use Rattle.bv_base.specs.Answers.{then_do}
use Rattle.bv_base.specs.declared.place.Place.{Place}
use Rattle.name_table.specs.declared.names.NameId.{NameId}
use Rattle.name_table.specs.declared.style.Command.{Command}
use Rattle.name_table.specs.declared.style.Command.TheVariants.{Execute, Iterate, Reverse}
use Rattle.name_table.specs.declared.style.CommandAt.{CommandAt}
use Rattle.name_table.specs.declared.style.Style.{Style}
use Rattle.cert_format.specs.CertText.{IsCommandPart}
use Rattle.cert_format.specs.declared.cert.CommandPart.{CommandPart}
use Rattle.cert_format.proofs.Plain.{each_append}
use Rattle.cert_check.specs.Certified.{IsCommandOf}
use Rattle.cert_check.specs.Given.{Refused}
use Rattle.cert_check.specs.declared.refusal.Refusal.{Refusal}
use Rattle.cert_check.proofs.ReadPieces.{each_each}
use Rattle.command_flow.specs.Ready.{Decides}
use Rattle.command_flow.specs.Templates.{AreMadeAt, AreMadeBefore, Seeking, command_in, commands_in, visited_in}
use Rattle.command_flow.specs.declared.templates.Lasting.{Lasting}
use Rattle.command_flow.specs.declared.templates.Made.{Made}
use Rattle.command_flow.proofs.CommandsFound.{all_below, rise_on}
use Rattle.command_flow.proofs.Deciding.{then_fails}

-- the commands from one number on
made_from : (seeking : Seeking) (index i : ℕ) (lasting : Lasting) (parts : List CommandPart) (commands : List CommandAt) (at : CommandAt)
    → slice_get commands i ≡ Some at → commands_in seeking index lasting parts (drop i commands)
    ≡ then_do (command_in seeking index at.command at.place lasting) (λ made.
    commands_in seeking (suc index) made.lasting (parts ++ made.parts) (drop (suc i) commands))
made_from seeking index i lasting parts [] at is = absurd (cc)
made_from seeking index zero lasting parts (first ∷ commands) at is =
    let same : first ≡ at = cc in
    ap (λ (c : CommandAt). then_do (command_in seeking index c.command c.place lasting) (λ made.
    commands_in seeking (suc index) made.lasting (parts ++ made.parts) commands)) same
made_from seeking index (suc i) lasting parts (first ∷ commands) at is = made_from seeking index i lasting parts commands at is

-- a command is walked from those that are left
pub one_made : (seeking : Seeking) (other : Style) (index : ℕ) (lasting : Lasting) (parts : List CommandPart) (items : List CommandAt) (d : CommandAt)
    → other ≡ seeking.style → items ≡ other.commands → index < length items → commands_in seeking index lasting parts (drop index seeking.style.commands)
    ≡ then_do (command_in seeking index (get_or items index d).command (get_or items index d).place lasting) (λ made.
    commands_in seeking (suc index) made.lasting (parts ++ made.parts) (drop (suc index) seeking.style.commands))
one_made seeking other index lasting parts items d same lists within =
    made_from seeking index index lasting parts seeking.style.commands (get_or items index d)
    (ap (λ (s : Style). slice_get s.commands index) (sym same) ∙ ap (λ (l : List CommandAt). slice_get l index) (sym lists) ∙ slice_get-get_or items index d within)

-- its rule fails
pub made_refused : (seeking : Seeking) (index : ℕ) (lasting : Lasting) (parts : List CommandPart) (taken : Result Made Refusal) (all : Result Made Refusal)
    (refusal : Refusal) → commands_in seeking index lasting parts (drop index seeking.style.commands)
    ≡ then_do taken (λ made. commands_in seeking (suc index) made.lasting (parts ++ made.parts) (drop (suc index) seeking.style.commands))
    → commands_in seeking index lasting parts (drop index seeking.style.commands) ≡ all → Refused taken refusal → Refused all refusal
made_refused seeking index lasting parts taken all refusal turn so_far =
    then_fails taken (λ made. commands_in seeking (suc index) made.lasting (parts ++ made.parts) (drop (suc index) seeking.style.commands)) all refusal
    (sym so_far ∙ turn)

-- it gives what stands behind it, and its records
pub made_next : (seeking : Seeking) (index : ℕ) (lasting : Lasting) (parts more : List CommandPart) (made : Made) (taken : Result Made Refusal)
    (all : Result Made Refusal) → commands_in seeking index lasting parts (drop index seeking.style.commands)
    ≡ then_do taken (λ m. commands_in seeking (suc index) m.lasting (parts ++ m.parts) (drop (suc index) seeking.style.commands))
    → commands_in seeking index lasting parts (drop index seeking.style.commands) ≡ all → taken ≡ Ok made → more ≡ parts ++ made.parts
    → commands_in seeking (index + 1) made.lasting more (drop (index + 1) seeking.style.commands) ≡ all
made_next seeking index lasting parts more made taken all turn so_far is put =
    ap (λ (n : ℕ). commands_in seeking n made.lasting more (drop n seeking.style.commands)) (add-one index)
    ∙ ap (λ (l : List CommandPart). commands_in seeking (suc index) made.lasting l (drop (suc index) seeking.style.commands)) put
    ∙ sym (turn ∙ ap (λ (r : Result Made Refusal). then_do r (λ m. commands_in seeking (suc index) m.lasting (parts ++ m.parts)
    (drop (suc index) seeking.style.commands))) is) ∙ so_far

-- no record was made yet
pub none_made_before : (style : Style) (index : ℕ) → AreMadeBefore style index []
none_made_before style index = record { each = tt; of_style = All-nil (IsCommandOf style); rise = refl; before = tt }

-- those of a command come behind the others
more_made : (style : Style) (index : ℕ) (parts more : List CommandPart) → AreMadeBefore style index parts → AreMadeAt style index more
    → AreMadeBefore style (suc index) (parts ++ more)
more_made style index parts [] are at =
    subst (AreMadeBefore style (suc index)) (sym (append-nil parts))
    (record { each = are.each; of_style = are.of_style; rise = are.rise; before = all_below index parts are.before })
more_made style index parts (part ∷ []) are at = record {
  each = each_append (IsCommandPart style) parts (part ∷ []) are.each at.each;
  of_style = All-append (IsCommandOf style) parts (part ∷ []) are.of_style at.of_style;
  rise = rise_on index parts part are.before at.at.0 are.rise;
  before = let is = at.at.0 in
      each_append (λ p. p.index < suc index) parts (part ∷ []) (all_below index parts are.before) (omega (arith, is), tt);
}
more_made style index parts (part ∷ (other ∷ more)) are at = let few = at.few in absurd (omega (arith, few))

pub made_before_next : (style : Style) (index : ℕ) (parts made more : List CommandPart) → AreMadeBefore style index parts → AreMadeAt style index made
    → more ≡ parts ++ made → AreMadeBefore style (index + 1) more
made_before_next style index parts made more are at put =
    subst (λ (n : ℕ). AreMadeBefore style n more) (sym (add-one index))
    (subst (AreMadeBefore style (suc index)) (sym put) (more_made style index parts made are at))

-- behind all commands each is of one of them
pub made_in_all : (style : Style) (index : ℕ) (parts : List CommandPart) → AreMadeBefore style index parts → AreMadeBefore style (length style.commands) parts
made_in_all style index parts are = record {
  each = are.each;
  of_style = are.of_style;
  rise = are.rise;
  before = each_each (IsCommandPart style) (λ p. p.index < length style.commands) (λ p is. is.there) parts are.each;
}

-- ITERATE and REVERSE
pub visits_made : (seeking : Seeking) (index : ℕ) (k : Command) (name : NameId) (place : Place) (lasting : Lasting) (result : Result Made Refusal)
    → (k ≡ Iterate name) ⊎ (k ≡ Reverse name) → Decides (visited_in seeking index name place lasting) result
    → Decides (command_in seeking index k place lasting) result
visits_made seeking index k name place lasting result (inl is) decides =
    subst (λ (c : Command). Decides (command_in seeking index c place lasting) result) (sym is) decides
visits_made seeking index k name place lasting result (inr is) decides =
    subst (λ (c : Command). Decides (command_in seeking index c place lasting) result) (sym is) decides

-- another command makes nothing
pub nothing_made : (seeking : Seeking) (index : ℕ) (k : Command) (place : Place) (lasting : Lasting) (parts : List CommandPart)
    → ((name : NameId) → k ≡ Execute name → ⊥) → ((name : NameId) → k ≡ Iterate name → ⊥) → ((name : NameId) → k ≡ Reverse name → ⊥) → parts ≡ []
    → command_in seeking index k place lasting ≡ Ok (record { lasting = lasting; parts = parts })
nothing_made seeking index (Execute name) place lasting parts execute iterate reverse none = absurd (execute name refl)
nothing_made seeking index (Iterate name) place lasting parts execute iterate reverse none = absurd (iterate name refl)
nothing_made seeking index (Reverse name) place lasting parts execute iterate reverse none = absurd (reverse name refl)
nothing_made seeking index _ place lasting parts execute iterate reverse none =
    ap (λ (all : List CommandPart). let made : Result Made Refusal = Ok (record { lasting = lasting; parts = all }) in made) (sym none)
