-- What is made for a command, by what its calls come to.
use Rattle.std.proofs.Common.{◌≡◌, ℕ, true, false, List, [], ◌∷◌, length, Result, Ok, Err, IfOk, ap, refl, subst, sym, ◌∙◌}
use Rattle.std.specs.Result.{MatchResult}
use Rattle.bv_base.specs.Answers.{then_do}
use Rattle.bv_base.specs.declared.place.Place.{Place}
use Rattle.name_table.specs.declared.names.NameId.{NameId}
use Rattle.name_table.specs.declared.style.Style.{Style}
use Rattle.bst_meaning.specs.declared.condition.Cond.{Cond}
use Rattle.sym_state.specs.Starting.{started}
use Rattle.sym_state.specs.State.{State}
use Rattle.sym_state.specs.declared.piece.Piece.{Piece}
use Rattle.cert_check.specs.Given.{Refused}
use Rattle.cert_check.specs.declared.checker.Called.{Called}
use Rattle.cert_check.specs.declared.refusal.Reason.TheVariants.{NoMemory}
use Rattle.cert_check.specs.declared.refusal.Refusal.{Refusal}
use Rattle.command_flow.specs.Commands.{started_between, started_visit}
use Rattle.command_flow.specs.Ready.{Decides}
use Rattle.command_flow.specs.Templates.{Seeking, called_in, executed_by, executed_in, first_visit, visited_by, visited_in, visits_from}
use Rattle.command_flow.specs.declared.between.Between.{Between}
use Rattle.command_flow.specs.declared.templates.Lasting.{Lasting}
use Rattle.command_flow.specs.declared.templates.Made.{Made}
use Rattle.command_flow.specs.declared.templates.Visits.{Visits}
use Rattle.command_flow.proofs.Deciding.{then_fails}
use Rattle.command_flow.proofs.Flowing.{ok_has}

-- what is given where memory allows is what is wanted
held_decides : {A E : Type 0} (wanted : Result A Refusal) (value : A) (answer : Result A E) (result : Result A Refusal)
    → MatchResult result (λ x. answer ≡ Ok x) (λ refusal. refusal.reason ≡ NoMemory) → IfOk answer (λ x. x ≡ value) → wanted ≡ Ok value → Decides wanted result
held_decides {A} wanted value answer (Ok x) held is e =
    e ∙ ap (λ (y : A). let given : Result A Refusal = Ok y in given) (sym (ok_has (λ (y : A). y ≡ value) answer x held is))
held_decides wanted value answer (Err refusal) held is e = λ other. absurd (other held)

pub held_has : {A E : Type 0} (P : A → Type 0) (value : A) (answer : Result A E) (result : Result A Refusal)
    → MatchResult result (λ x. answer ≡ Ok x) (λ refusal. refusal.reason ≡ NoMemory) → IfOk answer (λ x. x ≡ value) → P value → IfOk result P
held_has {A} P value answer (Ok x) held is has = subst P (sym (ok_has (λ (y : A). y ≡ value) answer x held is)) has
held_has P value answer (Err refusal) held is has = tt

-- the state before a command, and before a visit
pub between_is : {E : Type 0} (seeking : Seeking) (style : Style) (admits : Cond) (between : Between) (starts : List Piece) (given : Result State E) (start : State)
    → style ≡ seeking.style → admits ≡ seeking.cert.cond → starts ≡ between.globals ∷ [] → given ≡ Ok start
    → IfOk given (λ s. s ≡ started style admits starts true false) → start ≡ started_between seeking.style seeking.cert.cond between
between_is {E} seeking style admits between starts given start one two three e is =
    ok_has (λ (s : State). s ≡ started style admits starts true false) given start e is
    ∙ ap (λ (s : Style). started s admits starts true false) one
    ∙ ap (λ (a : Cond). started seeking.style a starts true false) two
    ∙ ap (λ (l : List Piece). started seeking.style seeking.cert.cond l true false) three

pub visit_is : (seeking : Seeking) (style : Style) (admits : Cond) (visit entry : Piece) (start : State) → style ≡ seeking.style → admits ≡ seeking.cert.cond
    → start ≡ started_visit style admits visit entry → start ≡ started_visit seeking.style seeking.cert.cond visit entry
visit_is seeking style admits visit entry start one two is =
    is
    ∙ ap (λ (s : Style). started_visit s admits visit entry) one
    ∙ ap (λ (a : Cond). started_visit seeking.style a visit entry) two

-- a call from another state that is the same
same_call : (seeking : Seeking) (stay loops : ℕ) (name : NameId) (place : Place) (start from : State) → stay ≡ loops → start ≡ from
    → called_in seeking loops name place from ≡ called_in seeking stay name place start
same_call seeking stay loops name place start from one two =
    ap (λ (n : ℕ). called_in seeking n name place from) (sym one) ∙ ap (λ (s : State). called_in seeking stay name place s) (sym two)

-- what EXECUTE comes to
pub execute_refused : (seeking : Seeking) (index : ℕ) (name : NameId) (place : Place) (lasting : Lasting) (stay : ℕ) (start : State) (refusal : Refusal)
    → stay ≡ length lasting.loops → start ≡ started_between seeking.style seeking.cert.cond lasting.between → Refused (called_in seeking stay name place start) refusal
    → Refused (executed_in seeking index name place lasting) refusal
execute_refused seeking index name place lasting stay start refusal one two refused =
    let from = started_between seeking.style seeking.cert.cond lasting.between in
    then_fails (called_in seeking (length lasting.loops) name place from)
    (λ calling. let next : Result Made Refusal = Ok (executed_by seeking.style seeking.cert.cond index name lasting calling) in next)
    (executed_in seeking index name place lasting) refusal refl
    (λ memory. same_call seeking stay (length lasting.loops) name place start from one two ∙ refused memory)

pub execute_makes : {E : Type 0} (seeking : Seeking) (style : Style) (admits : Cond) (index : ℕ) (name : NameId) (place : Place) (lasting : Lasting) (stay : ℕ)
    (start : State) (calling : Called) (answer : Result Made E) (result : Result Made Refusal) → style ≡ seeking.style → admits ≡ seeking.cert.cond
    → stay ≡ length lasting.loops → start ≡ started_between seeking.style seeking.cert.cond lasting.between → called_in seeking stay name place start ≡ Ok calling
    → MatchResult result (λ x. answer ≡ Ok x) (λ refusal. refusal.reason ≡ NoMemory)
    → IfOk answer (λ x. x ≡ executed_by style admits index name lasting calling) → Decides (executed_in seeking index name place lasting) result
execute_makes {E} seeking style admits index name place lasting stay start calling answer result same_style same_cond one two is held given =
    let from = started_between seeking.style seeking.cert.cond lasting.between in
    let next = λ (s : Style) (a : Cond) (c : Called). let made : Result Made Refusal = Ok (executed_by s a index name lasting c) in made in
    held_decides (executed_in seeking index name place lasting) (executed_by style admits index name lasting calling) answer result held given
    (ap (λ (r : Result Called Refusal). then_do r (next seeking.style seeking.cert.cond))
    (same_call seeking stay (length lasting.loops) name place start from one two ∙ is)
    ∙ ap (λ (s : Style). next s seeking.cert.cond calling) (sym same_style)
    ∙ ap (λ (a : Cond). next style a calling) (sym same_cond))

-- ITERATE and REVERSE, by what was found of their visits
pub visited_refused : (seeking : Seeking) (index : ℕ) (name : NameId) (place : Place) (lasting : Lasting) (first : Piece) (n : ℕ) (refusal : Refusal)
    → n ≡ 65 → first ≡ first_visit seeking.style seeking.cert.cond name lasting.between → Refused (visits_from n seeking name place lasting first) refusal
    → Refused (visited_in seeking index name place lasting) refusal
visited_refused seeking index name place lasting first n refusal count is refused =
    then_fails (visits_from 65 seeking name place lasting (first_visit seeking.style seeking.cert.cond name lasting.between))
    (λ found. let next : Result Made Refusal = Ok (visited_by seeking.style seeking.cert.cond index name lasting found) in next)
    (visited_in seeking index name place lasting) refusal refl
    (λ memory. ap (λ (v : Piece). visits_from 65 seeking name place lasting v) (sym is)
    ∙ ap (λ (k : ℕ). visits_from k seeking name place lasting first) (sym count) ∙ refused memory)

pub visited_makes : {E : Type 0} (seeking : Seeking) (style : Style) (admits : Cond) (index : ℕ) (name : NameId) (place : Place) (lasting : Lasting) (first : Piece)
    (found : Visits) (answer : Result Made E) (result : Result Made Refusal) → style ≡ seeking.style → admits ≡ seeking.cert.cond
    → first ≡ first_visit seeking.style seeking.cert.cond name lasting.between → visits_from 65 seeking name place lasting first ≡ Ok found
    → MatchResult result (λ x. answer ≡ Ok x) (λ refusal. refusal.reason ≡ NoMemory)
    → IfOk answer (λ x. x ≡ visited_by style admits index name lasting found) → Decides (visited_in seeking index name place lasting) result
visited_makes {E} seeking style admits index name place lasting first found answer result same_style same_cond is_first is held given =
    let next = λ (s : Style) (a : Cond) (f : Visits). let made : Result Made Refusal = Ok (visited_by s a index name lasting f) in made in
    held_decides (visited_in seeking index name place lasting) (visited_by style admits index name lasting found) answer result held given
    (ap (λ (r : Result Visits Refusal). then_do r (next seeking.style seeking.cert.cond))
    (ap (λ (v : Piece). visits_from 65 seeking name place lasting v) (sym is_first) ∙ is)
    ∙ ap (λ (s : Style). next s seeking.cert.cond found) (sym same_style)
    ∙ ap (λ (a : Cond). next style a found) (sym same_cond))

-- the first visit by a style and a condition that are the same
pub first_is : {E : Type 0} (seeking : Seeking) (style : Style) (admits : Cond) (name : NameId) (between : Between) (given : Result Piece E) (first : Piece)
    → style ≡ seeking.style → admits ≡ seeking.cert.cond → given ≡ Ok first → IfOk given (λ v. v ≡ first_visit style admits name between)
    → first ≡ first_visit seeking.style seeking.cert.cond name between
first_is {E} seeking style admits name between given first one two e is =
    ok_has (λ (v : Piece). v ≡ first_visit style admits name between) given first e is
    ∙ ap (λ (s : Style). first_visit s admits name between) one
    ∙ ap (λ (a : Cond). first_visit seeking.style a name between) two
