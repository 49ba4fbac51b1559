-- The commands of which hints are found, in order, and their records.
use Rattle.std.proofs.Common.{◌≡◌, ℕ, zero, suc, ◌+◌, ◌<◌, Bool, true, false, List, [], ◌∷◌, ◌++◌, drop, length, None, Some, Result, Ok, Err, OnOk, slice_get, get_or, refl, sym, ap, subst, ◌∙◌, add-one, arith}
use Rattle.std.specs.Prelude.{nat_lt}
use Rattle.std.specs.Result.{MatchResult}
use Rattle.std.proofs.lemmas.Bool.{and_from, and_parts}
use Rattle.std.proofs.lemmas.Bool.Decides.{nat_tests}
use Rattle.std.proofs.lemmas.List.{append-nil}
use Rattle.std.proofs.lemmas.Option.{slice_get-get_or}
use Rattle.bv_base.specs.Answers.{then_do}
use Rattle.bv_base.specs.declared.place.Place.{Place}
use Rattle.name_table.specs.Sound.{Each}
use Rattle.name_table.specs.declared.names.NameId.{NameId}
use Rattle.name_table.specs.declared.style.CommandAt.{CommandAt}
use Rattle.name_table.specs.declared.style.Style.{Style}
use Rattle.bst_meaning.specs.declared.condition.Cond.{Cond}
use Rattle.cert_format.specs.CertText.{IsHint}
use Rattle.cert_format.specs.CondText.{is_chain}
use Rattle.cert_format.specs.declared.cert.Cert.{Cert}
use Rattle.cert_format.specs.declared.cert.CommandPart.{CommandPart}
use Rattle.cert_format.proofs.CondKept.{each_snoc}
use Rattle.sym_state.specs.Starting.{started}
use Rattle.sym_state.specs.State.{State}
use Rattle.sym_state.specs.declared.hint.Hint.{Hint}
use Rattle.sym_state.specs.declared.piece.Piece.{Piece}
use Rattle.straight_hints.specs.declared.finding.Finding.{Finding}
use Rattle.cert_check.specs.Given.{Refused}
use Rattle.cert_check.specs.declared.refusal.Refusal.{Refusal}
use Rattle.command_flow.specs.Between.{nothing}
use Rattle.command_flow.specs.Commands.{Left, call_ends, started_between, started_visit}
use Rattle.command_flow.specs.Finding.{AreRecords, IsRecord, Onward, called_finding, command_found, commands_found, executed_finding, record_of, visited_finding}
use Rattle.command_flow.specs.declared.between.Between.{Between}
use Rattle.command_flow.specs.declared.finding.Found.{Found}
use Rattle.command_flow.proofs.Deciding.{then_fails}
use Rattle.command_flow.proofs.Flowing.{then_refused}
use Rattle.command_flow.proofs.FoundRecords.{ends_free}

-- a call at whose end no piece is to be shown leaves the hints that it was handed
pub ends_same : {T : Type 0} (admits : Cond) (place : Place) (states : List State) (hints begun left : List Hint) (result : Result T Refusal) → begun ≡ hints
    → MatchResult result (λ x. call_ends admits place [] states begun ≡ Ok left) (Refused (call_ends admits place [] states begun))
    → MatchResult result (λ x. call_ends admits place [] states hints ≡ Ok hints) (Refused (call_ends admits place [] states hints))
ends_same admits place states hints begun left (Ok x) same is =
    let ends : call_ends admits place [] states hints ≡ Ok left = ap (λ (l : List Hint). call_ends admits place [] states l) (sym same) ∙ is in
    ends ∙ ap (λ (l : List Hint). let r : Left = Ok l in r) (ends_free admits place [] states hints left (λ state. refl) ends).0
ends_same admits place states hints begun left (Err refusal) same refused =
    λ memory. ap (λ (l : List Hint). call_ends admits place [] states l) (sym same) ∙ refused memory

-- a call from pieces
from_same : (finding : Finding) (style other : Style) (cert : Cert) (admits : Cond) (name : NameId) (place : Place) (starts pieces : List Piece) (at_entry : Bool)
    → other ≡ style → admits ≡ cert.cond → starts ≡ pieces → called_finding finding style cert name place (started style cert.cond pieces true at_entry)
    ≡ called_finding finding style cert name place (started other admits starts true at_entry)
from_same finding style other cert admits name place starts pieces at_entry one two three =
    sym (ap (λ (s : State). called_finding finding style cert name place s)
    (ap (λ (x : Style). started x admits starts true at_entry) one ∙ ap (λ (x : Cond). started style x starts true at_entry) two
    ∙ ap (λ (l : List Piece). started style cert.cond l true at_entry) three))

-- what EXECUTE comes to
pub execute_refused : (finding : Finding) (style other : Style) (cert : Cert) (admits : Cond) (name : NameId) (place : Place) (between : Between) (starts : List Piece)
    (refusal : Refusal) → other ≡ style → admits ≡ cert.cond → starts ≡ between.globals ∷ []
    → Refused (called_finding finding style cert name place (started other admits starts true false)) refusal
    → Refused (executed_finding finding style cert name place between) refusal
execute_refused finding style other cert admits name place between starts refusal one two three refused =
    then_refused (called_finding finding style cert name place (started_between style cert.cond between))
    (λ hints. let next : Onward = Ok (record { between = record { globals = nothing; entry = between.entry }; hints = hints }) in next) refusal
    (λ memory. from_same finding style other cert admits name place starts (between.globals ∷ []) false one two three ∙ refused memory)

pub execute_ok : (finding : Finding) (style other : Style) (cert : Cert) (admits : Cond) (name : NameId) (place : Place) (between : Between) (starts : List Piece)
    (hints : List Hint) (after : Piece) → other ≡ style → admits ≡ cert.cond → starts ≡ between.globals ∷ [] → after ≡ nothing
    → called_finding finding style cert name place (started other admits starts true false) ≡ Ok hints
    → executed_finding finding style cert name place between ≡ Ok (record { between = record { globals = after; entry = between.entry }; hints = hints })
execute_ok finding style other cert admits name place between starts hints after one two three four is =
    ap (λ (r : Left). then_do r (λ found. let next : Onward = Ok (record { between = record { globals = nothing; entry = between.entry }; hints = found }) in next))
    (from_same finding style other cert admits name place starts (between.globals ∷ []) false one two three ∙ is)
    ∙ ap (λ (p : Piece). let next : Onward = Ok (record { between = record { globals = p; entry = between.entry }; hints = hints }) in next) (sym four)

-- what ITERATE and REVERSE come to
pub visit_refused : (finding : Finding) (style other : Style) (cert : Cert) (admits : Cond) (name : NameId) (place : Place) (between : Between) (first : Piece)
    (refusal : Refusal) → other ≡ style → admits ≡ cert.cond → first ≡ nothing
    → Refused (called_finding finding style cert name place (started other admits (first ∷ (between.entry ∷ [])) true true)) refusal
    → Refused (visited_finding finding style cert name place between) refusal
visit_refused finding style other cert admits name place between first refusal one two three refused =
    then_refused (called_finding finding style cert name place (started_visit style cert.cond nothing between.entry))
    (λ hints. let next : Onward = Ok (record { between = record { globals = nothing; entry = nothing }; hints = hints }) in next) refusal
    (λ memory. from_same finding style other cert admits name place (first ∷ (between.entry ∷ [])) (nothing ∷ (between.entry ∷ [])) true one two
    (ap (λ (p : Piece). p ∷ (between.entry ∷ [])) three) ∙ refused memory)

pub visit_ok : (finding : Finding) (style other : Style) (cert : Cert) (admits : Cond) (name : NameId) (place : Place) (between : Between) (first : Piece)
    (hints : List Hint) (globals entry : Piece) → other ≡ style → admits ≡ cert.cond → first ≡ nothing → globals ≡ nothing → entry ≡ nothing
    → called_finding finding style cert name place (started other admits (first ∷ (between.entry ∷ [])) true true) ≡ Ok hints
    → visited_finding finding style cert name place between ≡ Ok (record { between = record { globals = globals; entry = entry }; hints = hints })
visit_ok finding style other cert admits name place between first hints globals entry one two three four five is =
    ap (λ (r : Left). then_do r (λ found. let next : Onward = Ok (record { between = record { globals = nothing; entry = nothing }; hints = found }) in next))
    (from_same finding style other cert admits name place (first ∷ (between.entry ∷ [])) (nothing ∷ (between.entry ∷ [])) true one two
    (ap (λ (p : Piece). p ∷ (between.entry ∷ [])) three) ∙ is)
    ∙ ap (λ (p : Piece). let next : Onward = Ok (record { between = record { globals = p; entry = nothing }; hints = hints }) in next) (sym four)
    ∙ ap (λ (p : Piece). let next : Onward = Ok (record { between = record { globals = globals; entry = p }; hints = hints }) in next) (sym five)

-- the commands from one number on
found_from : (finding : Finding) (style : Style) (cert : Cert) (index i : ℕ) (between : Between) (parts : List CommandPart) (commands : List CommandAt)
    (at : CommandAt) → slice_get commands i ≡ Some at → commands_found finding style cert index between parts (drop i commands)
    ≡ then_do (command_found finding style cert at.command at.place between) (λ found.
    commands_found finding style cert (suc index) found.between (parts ++ record_of index found.hints) (drop (suc i) commands))
found_from finding style cert index i between parts [] at is = absurd (cc)
found_from finding style cert index zero between parts (first ∷ commands) at is =
    let same : first ≡ at = cc in
    ap (λ (c : CommandAt). then_do (command_found finding style cert c.command c.place between) (λ found.
    commands_found finding style cert (suc index) found.between (parts ++ record_of index found.hints) commands)) same
found_from finding style cert index (suc i) between parts (first ∷ commands) at is = found_from finding style cert index i between parts commands at is

-- a command is walked from those that are left
pub one_found : (finding : Finding) (style other : Style) (cert : Cert) (index : ℕ) (between : Between) (parts : List CommandPart) (items : List CommandAt) (d : CommandAt)
    → other ≡ style → items ≡ other.commands → index < length items → commands_found finding style cert index between parts (drop index style.commands)
    ≡ then_do (command_found finding style cert (get_or items index d).command (get_or items index d).place between) (λ found.
    commands_found finding style cert (suc index) found.between (parts ++ record_of index found.hints) (drop (suc index) style.commands))
one_found finding style other cert index between parts items d same lists within =
    found_from finding style cert index index between parts style.commands (get_or items index d)
    (ap (λ (s : Style). slice_get s.commands index) (sym same) ∙ ap (λ (l : List CommandAt). slice_get l index) (sym lists) ∙ slice_get-get_or items index d within)

-- its rule fails
pub found_refused : (finding : Finding) (style : Style) (cert : Cert) (index : ℕ) (between : Between) (parts : List CommandPart) (taken : Onward)
    (all : Result (List CommandPart) Refusal) (refusal : Refusal) → commands_found finding style cert index between parts (drop index style.commands)
    ≡ then_do taken (λ found. commands_found finding style cert (suc index) found.between (parts ++ record_of index found.hints) (drop (suc index) style.commands))
    → commands_found finding style cert index between parts (drop index style.commands) ≡ all → Refused taken refusal → Refused all refusal
found_refused finding style cert index between parts taken all refusal turn so_far =
    then_fails taken (λ found. commands_found finding style cert (suc index) found.between (parts ++ record_of index found.hints) (drop (suc index) style.commands))
    all refusal (sym so_far ∙ turn)

-- it gives what stands behind it, and its record
pub found_next : (finding : Finding) (style : Style) (cert : Cert) (index : ℕ) (between : Between) (parts more : List CommandPart) (found : Found) (taken : Onward)
    (all : Result (List CommandPart) Refusal) → commands_found finding style cert index between parts (drop index style.commands)
    ≡ then_do taken (λ f. commands_found finding style cert (suc index) f.between (parts ++ record_of index f.hints) (drop (suc index) style.commands))
    → commands_found finding style cert index between parts (drop index style.commands) ≡ all → taken ≡ Ok found → more ≡ parts ++ record_of index found.hints
    → commands_found finding style cert (index + 1) found.between more (drop (index + 1) style.commands) ≡ all
found_next finding style cert index between parts more found taken all turn so_far is put =
    ap (λ (n : ℕ). commands_found finding style cert n found.between more (drop n style.commands)) (add-one index)
    ∙ ap (λ (l : List CommandPart). commands_found finding style cert (suc index) found.between l (drop (suc index) style.commands)) put
    ∙ sym (turn ∙ ap (λ (r : Onward). then_do r (λ f. commands_found finding style cert (suc index) f.between (parts ++ record_of index f.hints)
    (drop (suc index) style.commands))) is) ∙ so_far

-- records of commands of which none has this number or a higher one
pub record AreBefore (style : Style) (index : ℕ) (parts : List CommandPart) : Type 0 where
  pub records : AreRecords style parts
  pub before : Each (λ part. part.index < index) parts

pub no_records : (style : Style) (index : ℕ) → AreBefore style index []
no_records style index = record { records = record { each = tt; rise = refl }; before = tt }

is_lower : (a b : ℕ) → a < b → nat_lt a b ≡ true
is_lower a b less = grind (arith, nat_tests)

-- one more behind them keeps them rising
pub rise_on : (index : ℕ) (parts : List CommandPart) (part : CommandPart) → Each (λ p. p.index < index) parts → part.index ≡ index
    → is_chain (λ a b. nat_lt a.index b.index) parts ≡ true → is_chain (λ a b. nat_lt a.index b.index) (parts ++ part ∷ []) ≡ true
rise_on index [] part before is rise = refl
rise_on index (a ∷ []) part before is rise =
    and_from (nat_lt a.index part.index) true (is_lower a.index part.index (subst (λ (n : ℕ). a.index < n) (sym is) before.0)) refl
rise_on index (a ∷ (b ∷ parts)) part before is rise =
    let both = and_parts (nat_lt a.index b.index) (is_chain (λ x y. nat_lt x.index y.index) (b ∷ parts)) rise in
    and_from (nat_lt a.index b.index) (is_chain (λ x y. nat_lt x.index y.index) ((b ∷ parts) ++ part ∷ [])) both.0
    (rise_on index (b ∷ parts) part before.1 is both.1)

-- none of them has the next number
pub all_below : (index : ℕ) (parts : List CommandPart) → Each (λ part. part.index < index) parts → Each (λ part. part.index < suc index) parts
all_below index [] before = tt
all_below index (part ∷ parts) before = let here = before.0 in (omega (arith, here), all_below index parts before.1)

more_before : (style : Style) (index : ℕ) (parts : List CommandPart) (hints : List Hint) → index < length style.commands → AreBefore style index parts
    → Each IsHint hints → AreBefore style (suc index) (parts ++ record_of index hints)
more_before style index parts [] there are written =
    subst (AreBefore style (suc index)) (sym (append-nil parts)) (record { records = are.records; before = all_below index parts are.before })
more_before style index parts (hint ∷ hints) there are written =
    let part : CommandPart = record { index = index; after = None; visit = None; keeps = None; hints = hint ∷ hints } in
    record {
      records = record {
        each = each_snoc (IsRecord style) parts part are.records.each (record { there = there; after = refl; visit = refl; keeps = refl; hints = written });
        rise = rise_on index parts part are.before refl are.records.rise;
      };
      before = each_snoc (λ p. p.index < suc index) parts part (all_below index parts are.before) (omega arith);
    }

-- with the record of the command of this number they are those before the next one
pub before_next : (style : Style) (index : ℕ) (parts more : List CommandPart) (hints : List Hint) → index < length style.commands → AreBefore style index parts
    → Each IsHint hints → more ≡ parts ++ record_of index hints → AreBefore style (index + 1) more
before_next style index parts more hints there are written put =
    subst (λ (n : ℕ). AreBefore style n more) (sym (add-one index))
    (subst (AreBefore style (suc index)) (sym put) (more_before style index parts hints there are written))

-- what a call says where it succeeds
pub put_on : {A E : Type 0} (P : Type 0) (r : Result A E) (x : A) → r ≡ Ok x → OnOk r P → P
put_on P (Ok y) x e put = put
put_on P (Err fault) x e put = absurd (cc)
