-- What the calls of a command's rule come to.
use Rattle.std.proofs.Common.{◌≡◌, true, false, List, [], ◌∷◌, Result, Ok, Err, IfOk, refl, sym, ap, subst, ◌∙◌}
use Rattle.std.specs.Result.{MatchResult}
use Rattle.sym_state.specs.Positions.{AtStart, AtNext, AtEnd}
use Rattle.bv_base.specs.Answers.{then_do}
use Rattle.bv_base.specs.declared.place.Place.{Place}
use Rattle.name_table.specs.declared.names.NameId.{NameId}
use Rattle.name_table.specs.declared.style.Command.{Command}
use Rattle.name_table.specs.declared.style.Command.TheVariants.{Execute, Iterate, Reverse}
use Rattle.name_table.specs.declared.style.Style.{Style}
use Rattle.bst_meaning.specs.declared.condition.Cond.{Cond}
use Rattle.cert_format.specs.declared.cert.Cert.{Cert}
use Rattle.sym_state.specs.State.{State}
use Rattle.sym_state.specs.Starting.{started}
use Rattle.sym_state.specs.declared.hint.Hint.{Hint}
use Rattle.sym_state.specs.declared.piece.Piece.{Piece}
use Rattle.cert_check.specs.Given.{Refused}
use Rattle.cert_check.specs.declared.refusal.Refusal.{Refusal}
use Rattle.command_flow.specs.Commands.{Left, Onward, called, command_checked, executed, piece_shown, visit_begins, visited}
use Rattle.command_flow.specs.Between.{piece_moved}
use Rattle.command_flow.specs.declared.between.Between.{Between}
use Rattle.command_flow.specs.declared.between.Parts.{Parts}

pub then_refused : {A B : Type 0} (first : Result A Refusal) (next : A → Result B Refusal) (refusal : Refusal) → Refused first refusal
    → Refused (then_do first next) refusal
then_refused {A} {B} first next refusal refused = λ memory. ap (λ (r : Result A Refusal). then_do r next) (refused memory)

pub ok_has : {A E : Type 0} (P : A → Type 0) (r : Result A E) (x : A) → r ≡ Ok x → IfOk r P → P x
ok_has P (Ok y) x e has = let same : y ≡ x = cc in subst P same has
ok_has P (Err y) x e has = absurd (cc)

-- what EXECUTE calls
pub execute_calls : (style other : Style) (cert : Cert) (admits : Cond) (name : NameId) (place : Place) (parts : Parts) (between : Between) (state : State)
    (globals pieces : List Piece) → other ≡ style → admits ≡ cert.cond → globals ≡ between.globals ∷ [] → pieces ≡ parts.after ∷ []
    → state ≡ started other admits globals true false
    → called style cert name place (started style cert.cond (between.globals ∷ []) true false) (parts.after ∷ []) parts.hints
    ≡ called style cert name place state pieces parts.hints
execute_calls style other cert admits name place parts between state globals pieces one two three four five =
    sym (ap (λ (s : State). called style cert name place s pieces parts.hints)
    (five ∙ ap (λ (x : Style). started x admits globals true false) one ∙ ap (λ (x : Cond). started style x globals true false) two
    ∙ ap (λ (l : List Piece). started style cert.cond l true false) three)
    ∙ ap (λ (l : List Piece). called style cert name place (started style cert.cond (between.globals ∷ []) true false) l parts.hints) four)

pub executed_refused : (style : Style) (cert : Cert) (name : NameId) (place : Place) (parts : Parts) (between : Between) (wanted : Left) (refusal : Refusal)
    → called style cert name place (started style cert.cond (between.globals ∷ []) true false) (parts.after ∷ []) parts.hints ≡ wanted
    → Refused wanted refusal → Refused (executed style cert name place parts between) refusal
executed_refused style cert name place parts between wanted refusal same refused =
    then_refused (called style cert name place (started style cert.cond (between.globals ∷ []) true false) (parts.after ∷ []) parts.hints)
    (λ hints. Ok (record { globals = parts.after; entry = between.entry })) refusal (λ memory. same ∙ refused memory)

pub executed_ok : (style : Style) (cert : Cert) (name : NameId) (place : Place) (parts : Parts) (between : Between) (wanted : Left) (left : List Hint)
    → called style cert name place (started style cert.cond (between.globals ∷ []) true false) (parts.after ∷ []) parts.hints ≡ wanted
    → wanted ≡ Ok left → executed style cert name place parts between ≡ Ok (record { globals = parts.after; entry = between.entry })
executed_ok style cert name place parts between wanted left same is =
    ap (λ (r : Left). then_do r (λ hints. let next : Onward = Ok (record { globals = parts.after; entry = between.entry }) in next)) (same ∙ is)

-- what a piece that is shown comes to
pub begins_by : {T : Type 0} (style : Style) (admits : Cond) (place : Place) (visit globals first : Piece) (state : State) (hints left : List Hint) (result : Result T Refusal)
    → first ≡ piece_moved AtStart visit → state ≡ started style admits (globals ∷ []) true false
    → MatchResult result (λ x. piece_shown admits place state first hints ≡ Ok left) (Refused (piece_shown admits place state first hints))
    → MatchResult result (λ x. visit_begins style admits place visit globals hints ≡ Ok left) (Refused (visit_begins style admits place visit globals hints))
begins_by style admits place visit globals first state hints left result one two shown =
    let same : visit_begins style admits place visit globals hints ≡ piece_shown admits place state first hints =
    sym (ap (λ (s : State). piece_shown admits place s first hints) two
    ∙ ap (λ (p : Piece). piece_shown admits place (started style admits (globals ∷ []) true false) p hints) one) in
    subst (λ (r : Left). MatchResult result (λ x. r ≡ Ok left) (Refused r)) (sym same) shown

-- what a visit calls
abbrev visits : Style → Cert → NameId → Place → Parts → Between → List Hint → Left
visits style cert name place parts between hints =
    called style cert name place (started style cert.cond (parts.visit ∷ (between.entry ∷ [])) true true)
    (piece_moved AtNext parts.visit ∷ (parts.keeps ∷ [])) hints

abbrev begins : Style → Cert → Place → Parts → Between → Left
begins style cert place parts between = visit_begins style cert.cond place parts.visit between.globals parts.hints

after_visits : Parts → Left → Onward
after_visits parts r = then_do r (λ left. Ok (record { globals = piece_moved AtEnd parts.visit; entry = parts.keeps }))

visited_is : (style : Style) (cert : Cert) (name : NameId) (place : Place) (parts : Parts) (between : Between) (mid : List Hint)
    → begins style cert place parts between ≡ Ok mid → visited style cert name place parts between ≡ after_visits parts (visits style cert name place parts between mid)
unfolding after_visits
visited_is style cert name place parts between mid e =
    ap (λ (r : Left). then_do r (λ hints. then_do (visits style cert name place parts between hints)
    (λ left. let next : Onward = Ok (record { globals = piece_moved AtEnd parts.visit; entry = parts.keeps }) in next))) e

begins_same : (style other : Style) (cert : Cert) (admits : Cond) (place : Place) (parts : Parts) (between : Between) → other ≡ style → admits ≡ cert.cond
    → begins style cert place parts between ≡ visit_begins other admits place parts.visit between.globals parts.hints
begins_same style other cert admits place parts between one two =
    sym (ap (λ (s : Style). visit_begins s admits place parts.visit between.globals parts.hints) one
    ∙ ap (λ (a : Cond). visit_begins style a place parts.visit between.globals parts.hints) two)

visits_same : (style other : Style) (cert : Cert) (admits : Cond) (name : NameId) (place : Place) (parts : Parts) (between : Between) (next : Piece) (mid : List Hint)
    → other ≡ style → admits ≡ cert.cond → next ≡ piece_moved AtNext parts.visit
    → visits style cert name place parts between mid
    ≡ called style cert name place (started other admits (parts.visit ∷ (between.entry ∷ [])) true true) (next ∷ (parts.keeps ∷ [])) mid
visits_same style other cert admits name place parts between next mid one two three =
    let pieces : List Piece = parts.visit ∷ (between.entry ∷ []) in
    sym (ap (λ (s : Style). called style cert name place (started s admits pieces true true) (next ∷ (parts.keeps ∷ [])) mid) one
    ∙ ap (λ (a : Cond). called style cert name place (started style a pieces true true) (next ∷ (parts.keeps ∷ [])) mid) two
    ∙ ap (λ (p : Piece). called style cert name place (started style cert.cond pieces true true) (p ∷ (parts.keeps ∷ [])) mid) three)

pub begins_refused : (style other : Style) (cert : Cert) (admits : Cond) (name : NameId) (place : Place) (parts : Parts) (between : Between) (refusal : Refusal)
    → other ≡ style → admits ≡ cert.cond → Refused (visit_begins other admits place parts.visit between.globals parts.hints) refusal
    → Refused (visited style cert name place parts between) refusal
begins_refused style other cert admits name place parts between refusal one two refused =
    then_refused (begins style cert place parts between) (λ hints. then_do (visits style cert name place parts between hints)
    (λ left. let next : Onward = Ok (record { globals = piece_moved AtEnd parts.visit; entry = parts.keeps }) in next)) refusal
    (λ memory. begins_same style other cert admits place parts between one two ∙ refused memory)

pub visits_refused : (style other : Style) (cert : Cert) (admits : Cond) (name : NameId) (place : Place) (parts : Parts) (between : Between) (next : Piece)
    (mid : List Hint) (refusal : Refusal) → other ≡ style → admits ≡ cert.cond → next ≡ piece_moved AtNext parts.visit
    → visit_begins other admits place parts.visit between.globals parts.hints ≡ Ok mid
    → Refused (called style cert name place (started other admits (parts.visit ∷ (between.entry ∷ [])) true true) (next ∷ (parts.keeps ∷ [])) mid) refusal
    → Refused (visited style cert name place parts between) refusal
unfolding after_visits
visits_refused style other cert admits name place parts between next mid refusal one two three began refused = λ memory.
    visited_is style cert name place parts between mid (begins_same style other cert admits place parts between one two ∙ began)
    ∙ ap (after_visits parts) (visits_same style other cert admits name place parts between next mid one two three ∙ refused memory)

pub visits_ok : (style other : Style) (cert : Cert) (admits : Cond) (name : NameId) (place : Place) (parts : Parts) (between : Between) (next after kept : Piece)
    (mid left : List Hint) → other ≡ style → admits ≡ cert.cond → next ≡ piece_moved AtNext parts.visit
    → visit_begins other admits place parts.visit between.globals parts.hints ≡ Ok mid
    → called style cert name place (started other admits (parts.visit ∷ (between.entry ∷ [])) true true) (next ∷ (parts.keeps ∷ [])) mid ≡ Ok left
    → after ≡ piece_moved AtEnd parts.visit → kept ≡ parts.keeps
    → visited style cert name place parts between ≡ Ok (record { globals = after; entry = kept })
unfolding after_visits
visits_ok style other cert admits name place parts between next after kept mid left one two three began walked four five =
    visited_is style cert name place parts between mid (begins_same style other cert admits place parts between one two ∙ began)
    ∙ ap (after_visits parts) (visits_same style other cert admits name place parts between next mid one two three ∙ walked)
    ∙ ap (λ (p : Piece). let o : Onward = Ok (record { globals = p; entry = parts.keeps }) in o) (sym four)
    ∙ ap (λ (p : Piece). let o : Onward = Ok (record { globals = after; entry = p }) in o) (sym five)

-- another command changes nothing that is known
pub unchanged : (style : Style) (cert : Cert) (k : Command) (place : Place) (parts : Parts) (between : Between) → ((name : NameId) → k ≡ Execute name → ⊥)
    → ((name : NameId) → k ≡ Iterate name → ⊥) → ((name : NameId) → k ≡ Reverse name → ⊥) → command_checked style cert k place parts between ≡ Ok between
unchanged style cert (Execute name) place parts between execute iterate reverse = absurd (execute name refl)
unchanged style cert (Iterate name) place parts between execute iterate reverse = absurd (iterate name refl)
unchanged style cert (Reverse name) place parts between execute iterate reverse = absurd (reverse name refl)
unchanged style cert _ place parts between execute iterate reverse = refl
