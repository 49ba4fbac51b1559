-- Visits, one after the other.
use Rattle.std.proofs.Common.{◌≡◌, ◌≢◌, ℕ, suc, ◌+◌, ◌-◌, ◌<◌, Bool, true, false, cond, nat_eq, List, length, Result, Ok, ap, sym, ◌∙◌, arith}
use Rattle.std.proofs.lemmas.Bool.Decides.{nat_tests}
use Rattle.bv_base.specs.Answers.{then_do}
use Rattle.bv_base.specs.declared.place.Place.{Place}
use Rattle.lin_facts.specs.declared.row.Row.{Row}
use Rattle.name_table.specs.declared.names.NameId.{NameId}
use Rattle.name_table.specs.declared.style.Style.{Style}
use Rattle.bst_meaning.specs.declared.condition.Cond.{Cond}
use Rattle.sym_state.specs.State.{State}
use Rattle.sym_state.specs.declared.piece.Piece.{Piece}
use Rattle.loop_templates.specs.Visits.{left_by}
use Rattle.cert_check.specs.Courses.{refuses}
use Rattle.cert_check.specs.Given.{Refused}
use Rattle.cert_check.specs.declared.checker.Called.{Called}
use Rattle.cert_check.specs.declared.refusal.Reason.TheVariants.{NoInvariant}
use Rattle.cert_check.specs.declared.refusal.Refusal.{Refusal}
use Rattle.command_flow.specs.Commands.{started_visit}
use Rattle.command_flow.specs.Templates.{Seeking, called_in, visits_by, visits_from}
use Rattle.command_flow.specs.declared.templates.Lasting.{Lasting}
use Rattle.command_flow.specs.declared.templates.Visits.{Visits}
use Rattle.command_flow.proofs.Deciding.{then_fails}

-- from a visit on, behind so many, the visits come to what all of them do
abbrev pub VisitsTo : Seeking → NameId → Place → Lasting → ℕ → Piece → Result Visits Refusal → Type 0
VisitsTo seeking name place lasting done visit whole = (n : ℕ) → n + done ≡ 65 → visits_from n seeking name place lasting visit ≡ whole

-- one visit
abbrev pub visit_of : Seeking → NameId → Place → Lasting → Piece → Result Called Refusal
visit_of seeking name place lasting visit =
    called_in seeking (length lasting.loops) name place (started_visit seeking.style seeking.cert.cond visit lasting.between.entry)

-- its walk fails
pub visit_fails : (seeking : Seeking) (name : NameId) (place : Place) (lasting : Lasting) (done : ℕ) (visit : Piece) (whole : Result Visits Refusal) (refusal : Refusal)
    → done < 65 → VisitsTo seeking name place lasting done visit whole → Refused (visit_of seeking name place lasting visit) refusal → Refused whole refusal
unfolding visits_from
visit_fails seeking name place lasting done visit whole refusal more comes refused =
    let n : ℕ = 65 - suc done in
    then_fails (visit_of seeking name place lasting visit)
    (λ calling. visits_by (visits_from n seeking name place lasting) visit (left_by seeking.cert.cond calling.given visit) calling) whole refusal
    (sym (comes (suc n) (omega (arith, more)))) refused

-- what comes of it where it comes to its end
visit_comes : (n : ℕ) (seeking : Seeking) (name : NameId) (place : Place) (lasting : Lasting) (visit : Piece) (calling : Called) (same : Bool)
    → visit_of seeking name place lasting visit ≡ Ok calling
    → nat_eq (length (left_by seeking.cert.cond calling.given visit).rows) (length visit.rows) ≡ same
    → visits_from (suc n) seeking name place lasting visit
    ≡ cond same (Ok (record { visit = visit; calling = calling })) (visits_from n seeking name place lasting (left_by seeking.cert.cond calling.given visit))
unfolding visits_from
visit_comes n seeking name place lasting visit calling same walked test =
    let next = left_by seeking.cert.cond calling.given visit in
    ap (λ (r : Result Called Refusal). then_do r (λ c. visits_by (visits_from n seeking name place lasting) visit (left_by seeking.cert.cond c.given visit) c)) walked
    ∙ ap (λ (b : Bool). let one : Result Visits Refusal = Ok (record { visit = visit; calling = calling }) in cond b one (visits_from n seeking name place lasting next)) test

-- it is the command's
pub visit_settles : (seeking : Seeking) (name : NameId) (place : Place) (lasting : Lasting) (done : ℕ) (visit : Piece) (whole : Result Visits Refusal) (calling : Called)
    (rows : List Row) → done < 65 → VisitsTo seeking name place lasting done visit whole → visit_of seeking name place lasting visit ≡ Ok calling
    → rows ≡ (left_by seeking.cert.cond calling.given visit).rows → length rows ≡ length visit.rows → whole ≡ Ok (record { visit = visit; calling = calling })
visit_settles seeking name place lasting done visit whole calling rows more comes walked are same =
    let n : ℕ = 65 - suc done in
    let many : length (left_by seeking.cert.cond calling.given visit).rows ≡ length visit.rows = ap (λ (l : List Row). length l) (sym are) ∙ same in
    let test : nat_eq (length (left_by seeking.cert.cond calling.given visit).rows) (length visit.rows) ≡ true = grind (arith, nat_tests) in
    sym (comes (suc n) (omega (arith, more))) ∙ visit_comes n seeking name place lasting visit calling true walked test

-- or the next one is walked
pub visit_goes_on : (seeking : Seeking) (name : NameId) (place : Place) (lasting : Lasting) (done : ℕ) (visit next : Piece) (whole : Result Visits Refusal)
    (calling : Called) (rows : List Row) → VisitsTo seeking name place lasting done visit whole → visit_of seeking name place lasting visit ≡ Ok calling
    → rows ≡ (left_by seeking.cert.cond calling.given visit).rows → length rows ≢ length visit.rows → next ≡ left_by seeking.cert.cond calling.given visit
    → VisitsTo seeking name place lasting (done + 1) next whole
visit_goes_on seeking name place lasting done visit next whole calling rows comes walked are other is n count =
    let differ : length (left_by seeking.cert.cond calling.given visit).rows ≢ length visit.rows =
    (λ same. other (ap (λ (l : List Row). length l) are ∙ same)) in
    let test : nat_eq (length (left_by seeking.cert.cond calling.given visit).rows) (length visit.rows) ≡ false = grind (arith, nat_tests) in
    ap (λ (v : Piece). visits_from n seeking name place lasting v) is
    ∙ sym (visit_comes n seeking name place lasting visit calling false walked test)
    ∙ comes (suc n) (omega (arith, count))

-- its rows, by the states and the condition in hand
pub rows_are : (seeking : Seeking) (admits : Cond) (states given : List State) (visit : Piece) (rows : List Row) → admits ≡ seeking.cert.cond → states ≡ given
    → rows ≡ (left_by admits states visit).rows → rows ≡ (left_by seeking.cert.cond given visit).rows
rows_are seeking admits states given visit rows one two are =
    are
    ∙ ap (λ (l : List State). (left_by admits l visit).rows) two
    ∙ ap (λ (a : Cond). (left_by a given visit).rows) one

-- with them it is that visit
pub next_is : (seeking : Seeking) (given : List State) (visit : Piece) (rows put : List Row) → put ≡ rows → rows ≡ (left_by seeking.cert.cond given visit).rows
    → record visit { rows = put } ≡ left_by seeking.cert.cond given visit
next_is seeking given visit rows put one two = ap (λ (l : List Row). let next : Piece = record visit { rows = l } in next) (one ∙ two)

-- or there is none left
pub no_visit_left : (seeking : Seeking) (name : NameId) (place : Place) (lasting : Lasting) (done : ℕ) (visit : Piece) (whole : Result Visits Refusal) → done ≡ 65
    → VisitsTo seeking name place lasting done visit whole → refuses place NoInvariant ≡ whole
unfolding visits_from
no_visit_left seeking name place lasting done visit whole is comes = comes 0 (omega (arith, is))

-- a visit by a style and a condition that are the same
pub as_visit : (seeking : Seeking) (style : Style) (admits : Cond) (name : NameId) (place : Place) (lasting : Lasting) (visit : Piece) → style ≡ seeking.style
    → admits ≡ seeking.cert.cond → visit_of seeking name place lasting visit
    ≡ called_in seeking (length lasting.loops) name place (started_visit style admits visit lasting.between.entry)
as_visit seeking style admits name place lasting visit one two =
    let entry = lasting.between.entry in
    ap (λ (s : Style). called_in seeking (length lasting.loops) name place (started_visit s seeking.cert.cond visit entry)) (sym one)
    ∙ ap (λ (a : Cond). called_in seeking (length lasting.loops) name place (started_visit style a visit entry)) (sym two)
