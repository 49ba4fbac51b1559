-- The use of a loop whose own check is Ok is safe: each turn starts where a case holds, and ends where a case or an exit does.
use Rattle.std.proofs.Common.{◌≡◌, ℕ, zero, suc, ◌<◌, Bool, true, false, cond, List, [], ◌∷◌, ◌++◌, length, reverse, map, slice_get, Some, Ok, refl, sym, ap, subst, ◌∙◌, arith, inl, inr}
use Rattle.std.specs.List.{AllByRecursion, list_all}
use Rattle.std.proofs.lemmas.List.{reverse-reverse}
use Rattle.std.proofs.lemmas.List.Elements.{All-head, All-tail}
use Rattle.bv_base.specs.Answers.{then_do}
use Rattle.bv_base.specs.declared.place.Place.{Place}
use Rattle.bv_base.proofs.ThenLemmas.{ok_is, then_ok, where_ok}
use Rattle.name_table.specs.declared.names.NameId.{NameId}
use Rattle.name_table.specs.declared.style.BodyId.{BodyId}
use Rattle.name_table.specs.declared.style.Style.{Style}
use Rattle.bst_meaning.specs.StyleParts.{entered_tokens}
use Rattle.bst_meaning.specs.EntryLists.{EntryList}
use Rattle.bst_meaning.specs.declared.value.Target.TheVariants.{Block}
use Rattle.bst_meaning.specs.declared.value.Value.{Value}
use Rattle.bst_meaning.specs.declared.value.Value.TheVariants as value
use Rattle.bst_meaning.specs.Config.{Config, Frame, Part, Testing, Turning}
use Rattle.bst_meaning.specs.Entries.{Fits}
use Rattle.bst_meaning.specs.Invariant.{IsFrameSound, IsWellFormed}
use Rattle.bst_meaning.specs.Machine.{test_ended, with_frame}
use Rattle.bst_meaning.specs.Operands.{is_positive}
use Rattle.bst_meaning.specs.Values.{IsValueOf}
use Rattle.cert_format.specs.declared.cert.Cert.{Cert}
use Rattle.cert_format.specs.declared.cert.Loop.{Loop}
use Rattle.sym_state.specs.State.{State}
use Rattle.sym_state.specs.Cases.{above_of}
use Rattle.sym_state.specs.Demands.{One, is_of_kind, one_by, one_of}
use Rattle.sym_state.specs.Entailing.{match_of}
use Rattle.sym_state.specs.Renaming.{through}
use Rattle.sym_state.specs.Symbols.{Valuation}
use Rattle.sym_state.specs.WellMade.{HasSmallFields}
use Rattle.sym_state.specs.declared.hint.Hint.{Hint}
use Rattle.sym_state.specs.declared.piece.Piece.{Piece}
use Rattle.sym_state.specs.declared.symbol.Kinds.TheVariants.{Int}
use Rattle.sym_state.specs.declared.symbol.Sym.{Sym}
use Rattle.sym_state.proofs.Frames.{value_list}
use Rattle.sym_state.proofs.KnownKinds.{integer_is}
use Rattle.sym_state.proofs.Pushing.{moved, stands_framed, tops_below}
use Rattle.sym_state.proofs.Resulting.{rest_made}
use Rattle.builtin_effects.proofs.Covering.{kind_met}
use Rattle.refinements.specs.Covered.{IsAmong, above_case}
use Rattle.refinements.proofs.Framing.{above_left}
use Rattle.refinements.proofs.Kept.{above_made}
use Rattle.refinements.proofs.Signs.{labelled_sign_found}
use Rattle.cert_check.specs.Certified.{IsLoopOf, IsPieceOf, IsPostOf}
use Rattle.cert_check.specs.Courses.{Course, counts, gives_all, placed}
use Rattle.cert_check.specs.Units.{all_end, all_entail, all_tested, all_turned, beginning, body_of, loop_checked, none_left, place_of, target_entered, tested, turn, turn_state, turned, turned_from}
use Rattle.cert_check.specs.Uses.{around, comes_by, left_state}
use Rattle.cert_check.specs.Safely.{loop_step}
use Rattle.cert_check.specs.Walks.{Scope, comes_to, leaves, may_write}
use Rattle.cert_check.proofs.Bodies.{framed_reached, unframed}
use Rattle.cert_check.proofs.Ending.{each_ends, left_safe}
use Rattle.cert_check.proofs.Entering.{UseSafe}
use Rattle.cert_check.proofs.Followed.{among_all, follows_twice}
use Rattle.cert_check.proofs.Inverted.{placed_ok}
use Rattle.cert_check.proofs.Keeping.{Told, comes_to_ok, element}
use Rattle.cert_check.proofs.Levels.{LoopSafe, UnitsSafe}
use Rattle.cert_check.proofs.OwnEnd.{EndOf, EndsIn, ended_inside}
use Rattle.cert_check.proofs.OwnStart.{Begun, Inside, Used, below_used, first_inside, own_scope, own_start}
use Rattle.cert_check.proofs.Passing.{loop_passed}
use Rattle.cert_check.proofs.Safety.{Framed, Reaches, SafeFor, Start, emptied, formed_step, framed_fine, less, one_before, onward, reaches_on, remains_framed, remains_twice, spot_at}
use Rattle.cert_check.proofs.Walked.{CaseFollows, cases_follow}
use Rattle.cert_check.proofs.Walking.{target_framed}

-- a turn that is taken from a case: the test is walked
record TurnTaken (scope : Scope) (place : Place) (one : Loop) (case : Piece) : Type 0 where
  pub before : Course
  pub middle : Course
  pub after : Course
  pub entered : target_entered scope place one.test (turn_state scope one case) before ≡ Ok middle
  pub tested : all_tested scope place one middle.given (record middle { given = [] }) ≡ Ok after

turn_taken : (scope : Scope) (place : Place) (one : Loop) (cases : List Piece) (k : ℕ) (case : Piece) (course after : Course) → slice_get cases k ≡ Some case
    → turned_from scope place one cases course ≡ Ok after → TurnTaken scope place one case
turn_taken scope place one [] k case course after there e = absurd (cc)
turn_taken scope place one (first ∷ cases) zero case course after there e =
    let here = then_ok (turn scope place one (turn_state scope one first) course) (turned_from scope place one cases) after e in
    let walk = then_ok (target_entered scope place one.test (turn_state scope one first) course) (λ middle.
    all_tested scope place one middle.given (record middle { given = [] })) here.0 here.1 in
    let same : first ≡ case = cc in
    subst (TurnTaken scope place one) same (record { before = course; middle = walk.0; after = here.0; entered = walk.1; tested = walk.2 })
turn_taken scope place one (first ∷ cases) (suc k) case course after there e =
    let here = then_ok (turn scope place one (turn_state scope one first) course) (turned_from scope place one cases) after e in
    turn_taken scope place one cases k case here.0 after there here.2

-- a state at the test's end gives up its integer
record TestTaken (scope : Scope) (place : Place) (one : Loop) (state : State) : Type 0 where
  pub before : Course
  pub after : Course
  pub tested : tested scope place one state before ≡ Ok after

test_taken : (scope : Scope) (place : Place) (one : Loop) (states : List State) (state : State) (course after : Course) → IsAmong state states
    → all_tested scope place one states course ≡ Ok after → TestTaken scope place one state
test_taken scope place one [] state course after among e = absurd among
test_taken scope place one (first ∷ states) state course after (inl is) e =
    let here = then_ok (tested scope place one first course) (all_tested scope place one states) after e in
    record { before = course; after = here.0; tested = subst (λ (x : State). tested scope place one x course ≡ Ok here.0) (sym is) here.1 }
test_taken scope place one (first ∷ states) state course after (inr later) e =
    let here = then_ok (tested scope place one first course) (all_tested scope place one states) after e in
    test_taken scope place one states state here.0 after later here.2

-- a case of its sign goes on
record CaseTaken (scope : Scope) (place : Place) (one : Loop) (case : Bool × State) : Type 0 where
  pub before : Course
  pub after : Course
  pub turned : turned scope place one case.0 case.1 before ≡ Ok after

case_taken : (scope : Scope) (place : Place) (one : Loop) (cases : List (Bool × State)) (case : Bool × State) (course after : Course) → IsAmong case cases
    → all_turned scope place one cases course ≡ Ok after → CaseTaken scope place one case
case_taken scope place one [] case course after among e = absurd among
case_taken scope place one (first ∷ cases) case course after (inl is) e =
    let here = then_ok (turned scope place one first.0 first.1 course) (all_turned scope place one cases) after e in
    record { before = course; after = here.0; turned = subst (λ (x : Bool × State). turned scope place one x.0 x.1 course ≡ Ok here.0) (sym is) here.1 }
case_taken scope place one (first ∷ cases) case course after (inr later) e =
    let here = then_ok (turned scope place one first.0 first.1 course) (all_turned scope place one cases) after e in
    case_taken scope place one cases case here.0 after later here.2

-- the integer on top of a state
pub record OneMet (state : State) (stack : List Sym) : Type 0 where
  pub operand : Sym
  pub rest : List Sym
  pub on_top : stack ≡ operand ∷ rest
  pub kind : is_of_kind state Int operand ≡ true

pub one_ok : (state : State) (stack : List Sym) (one : One) → one_by Int stack state ≡ Ok one
    → (met : OneMet state stack) × (one ≡ record { operand = met.operand; rest = record state { stack = reverse met.rest } })
one_ok state [] one e = absurd (cc)
one_ok state (a ∷ rest) one e =
    let is = where_ok (is_of_kind state Int a) _ _ one e in
    (record { operand = a; rest = rest; on_top = refl; kind = is.0 }, ok_is _ one is.1)

-- all of these states entail one of the pieces
entailed : (scope : Scope) (place : Place) (pieces : List Piece) (states : List State) (state : State) (course after : Course)
    → all_entail place scope.cert.cond pieces states course ≡ Ok after → IsAmong state states → EndsIn scope.cert.cond 0 pieces state
entailed scope place pieces states state course after e among =
    let shown = all_end scope.cert.cond 0 pieces states course.hints in
    let found = then_ok (placed place shown) (λ hints. Ok (record course { hints = hints })) after e in
    each_ends scope.cert.cond 0 pieces states state course.hints found.0 (placed_ok place shown found.0 found.1) among

-- a loop is used at a start, which came to it by a case
pub record LoopUse (scope : Scope) (list : EntryList) : Type 0 where
  pub one : Loop
  pub is : IsLoopOf scope.style one
  pub case : Piece
  pub of_case : IsPieceOf scope.style one.entry case
  pub small : HasSmallFields scope.cert.cond
  pub s : Start scope list
  pub hints : List Hint
  pub left : List Hint
  pub came : comes_by (around one) scope.cert.cond case s.state hints ≡ Ok left

abbrev use_of_loop : (scope : Scope) (list : EntryList) → LoopUse scope list → Used scope list
use_of_loop scope list a = record {
  unit = around a.one;
  pre = a.case;
  posts = a.one.exits;
  kept = 0;
  is = loop_passed scope.style a.one a.case a.is a.of_case;
  small = a.small;
  s = a.s;
  hints = a.hints;
  left = a.left;
  came = a.came;
}

-- a turn starts where a case holds
record TurnAt (scope : Scope) (list : EntryList) (a : LoopUse scope list) : Type 0 where
  pub k : ℕ
  pub case : Piece
  pub there : slice_get a.one.cases k ≡ Some case
  pub v : Valuation
  pub d : Config
  pub inside : Inside scope list (use_of_loop scope list a) case v d
  pub waiting : d.frames ≡ a.s.c.frames

-- what comes after the loop is safe where an exit holds
abbrev ExitsSafe : (scope : Scope) (list : EntryList) → ℕ → LoopUse scope list → Type 0
ExitsSafe scope list n a =
    (k : ℕ) (e : EndOf scope list (use_of_loop scope list a)) → slice_get a.one.exits k ≡ Some e.post → e.d.frames ≡ a.s.c.frames → SafeFor scope.style n e.d

-- a turn is safe for so many steps
abbrev TurnSafe : (scope : Scope) (list : EntryList) → LoopUse scope list → ℕ → Type 0
TurnSafe scope list a n = (at : Place) (t : TurnAt scope list a) → IsWellFormed scope.style list (loop_step scope.style a.one at t.d) → ExitsSafe scope list n a
    → SafeFor scope.style n (loop_step scope.style a.one at t.d)

-- the own check of a loop
pub record IsLoopChecked (style : Style) (cert : Cert) (one : Loop) : Type 0 where
  pub left : List Hint
  pub checked : loop_checked style cert one ≡ Ok left

module _ (scope : Scope) (list : EntryList) (a : LoopUse scope list) (told : Told (own_scope scope a.one.writes)) (fits : Fits scope.style list) where
  abbrev own : Scope
  own = own_scope scope a.one.writes

  abbrev part_tested : Part
  part_tested = Testing a.one.test a.one.body

  abbrev part_turned : Part
  part_turned = Turning a.one.test a.one.body

  -- a turn's own check starts from its case
  abbrev turn_begun : TurnAt scope list a → Begun scope list (use_of_loop scope list a)
  turn_begun t =
      let is = element (IsPieceOf scope.style a.one.entry) a.one.cases t.k t.case a.is.cases t.there in
      record { piece = t.case; v = t.v; d = t.d; inside = t.inside; numbered = is.numbered; fit = is.fit; shares = omega arith }

  abbrev turn_start : TurnAt scope list a → Start own list
  turn_start t = own_start scope list (use_of_loop scope list a) (turn_begun t)

  -- at the end of a turn the test is entered again
  turn_end : (m n : ℕ) → m < n → ((k : ℕ) → k < n → TurnSafe scope list a k) → ExitsSafe scope list m a → (at : Place) (t : TurnAt scope list a)
      (end : State) (w : Valuation) (y : Config) → Reaches own list (emptied at part_turned t.d.frames) (turn_start t) end w y
      → EndsIn scope.cert.cond 0 a.one.cases end → SafeFor scope.style m y
  turn_end zero n few lower exits at t end w y reached found =
      framed_fine scope.style (record { tokens = []; place = at; part = part_turned }) t.d.frames y
      (record { goes = reached.remains.goes; framed = reached.remains.waiting })
  turn_end (suc k) n few lower exits at t end w y reached found =
      let frame : Frame = record { tokens = []; place = at; part = part_turned } in
      let here : Framed frame t.d.frames y = record { goes = reached.remains.goes; framed = reached.remains.waiting } in
      let left : Config = record y { frames = t.d.frames } in
      let formed : IsWellFormed scope.style list (loop_step scope.style a.one at left) = formed_step a.s.laws own list frame t.d.frames y told.sound fits here reached.formed in
      let last = onward own list (emptied at part_turned t.d.frames) (turn_start t) end w y reached in
      let on = reaches_on own list (emptied at part_turned t.d.frames) t.d.frames (turn_start t) end w y reached end w left
      (framed_reached own list last t.d.frames (unframed scope.style list (entered_tokens scope.style a.one.test at) at part_tested left formed)) in
      let next : TurnAt scope list a = record {
        k = found.k;
        case = found.post;
        there = found.there;
        v = through (match_of end found.post 0) w;
        d = left;
        inside = ended_inside scope list (use_of_loop scope list a) (turn_begun t) t.d.frames a.one.cases end w left on found;
        waiting = t.waiting;
      } in
      one_before scope.style frame t.d.frames k y here
      (lower k (omega (arith, few)) at next formed (λ i e there waits. less scope.style k e.d (exits i e there waits)))

  -- what the integer says
  module _ (n : ℕ) (units : (m : ℕ) → m < n → UnitsSafe own list m) (lower : (k : ℕ) → k < n → TurnSafe scope list a k) (at : Place) (place : Place)
      (t : TurnAt scope list a) where
    -- the body is entered, or the loop ends
    by_sign : (m : ℕ) → m < n → ExitsSafe scope list m a → (positive : Bool) (state : State) (w : Valuation) (bare : Config) (before after : Course)
        → Reaches own list t.d.frames (turn_start t) state w bare → bare.frames ≡ t.d.frames → turned own place a.one positive state before ≡ Ok after
        → IsWellFormed scope.style list (cond positive (with_frame (entered_tokens scope.style a.one.body at) at part_turned bare) bare)
        → SafeFor scope.style m (cond positive (with_frame (entered_tokens scope.style a.one.body at) at part_turned bare) bare)
    by_sign m few exits true state w bare before after reached waits e formed =
        let walk = then_ok (target_entered own place a.one.body state before)
        (λ middle. all_entail place scope.cert.cond a.one.cases middle.given (record middle { given = [] })) after e in
        let start : Start own list = onward own list t.d.frames (turn_start t) state w bare reached in
        target_framed own list m a.one.body place at part_turned start told fits (λ k less. units k (omega (arith, few, less))) (λ body. (units m few).uses (Block body))
        formed before walk.0 walk.1 (λ end x y among later.
        turn_end m n few lower exits at t end x y
        (reaches_on own list t.d.frames (emptied at part_turned t.d.frames) (turn_start t) state w bare reached end x y
        (subst (λ (fs : List Frame). Reaches own list (emptied at part_turned fs) start end x y) waits later))
        (entailed scope place a.one.cases walk.0.given end (record walk.0 { given = [] }) after walk.2 among))
    by_sign m few exits false state w bare before after reached waits e formed =
        let found = entailed scope place a.one.exits (state ∷ []) state before after e (inl refl) in
        let last : EndOf scope list (use_of_loop scope list a) = record {
          post = found.post;
          v = through (match_of state found.post 0) w;
          d = bare;
          inside = ended_inside scope list (use_of_loop scope list a) (turn_begun t) t.d.frames a.one.exits state w bare reached found;
          is = element (IsPostOf scope.style (around a.one) 0) a.one.exits found.k found.post (use_of_loop scope list a).is.each found.there;
        } in
        exits found.k last found.there (waits ∙ t.waiting)

    -- the test has ended
    test_end : (m : ℕ) → m < suc n → ExitsSafe scope list m a → (end : State) (w : Valuation) (x : Config)
        → Reaches own list (emptied at part_tested t.d.frames) (turn_start t) end w x → TestTaken own place a.one end → SafeFor scope.style m x
    test_end zero few exits end w x reached taken =
        framed_fine scope.style (record { tokens = []; place = at; part = part_tested }) t.d.frames x
        (record { goes = reached.remains.goes; framed = reached.remains.waiting })
    test_end (suc m) few exits end w x reached taken =
        let frame : Frame = record { tokens = []; place = at; part = part_tested } in
        let here : Framed frame t.d.frames x = record { goes = reached.remains.goes; framed = reached.remains.waiting } in
        let below = below_used scope list (use_of_loop scope list a) in
        let last = onward own list (emptied at part_tested t.d.frames) (turn_start t) end w x reached in
        let popped_one = then_ok (placed place (one_of Int end)) (λ found.
        then_do (placed place (above_of scope.cert.cond found.rest found.operand taken.before.hints)) (λ labelled.
        all_turned own place a.one labelled.cases (record taken.before { hints = labelled.hints }))) taken.after taken.tested in
        let both = one_ok end (reverse end.stack) popped_one.0 (placed_ok place (one_of Int end) popped_one.0 popped_one.1) in
        let met = both.0 in
        let popped : State = record end { stack = reverse met.rest } in
        let weighed = above_of scope.cert.cond popped met.operand taken.before.hints in
        let split = then_ok (placed place weighed) (λ labelled. all_turned own place a.one labelled.cases (record taken.before { hints = labelled.hints })) taken.after
        (subst (λ (o : One). then_do (placed place (above_of scope.cert.cond o.rest o.operand taken.before.hints)) (λ labelled.
        all_turned own place a.one labelled.cases (record taken.before { hints = labelled.hints })) ≡ Ok taken.after) both.1 popped_one.2) in
        let cases = placed_ok place weighed split.0 split.1 in
        let tops = tops_below scope.style end (met.operand ∷ met.rest) reached.follows.made met.on_top in
        let under = All-tail (λ (s : Sym). s.0 < end.next) met.operand met.rest tops in
        let old = All-head (λ (s : Sym). s.0 < end.next) met.operand met.rest tops in
        let follow = cases_follow own end met.rest split.0.cases under
        (above_made scope.style scope.cert.cond popped met.operand taken.before.hints split.0 (rest_made scope.style end met.rest reached.follows.made under) old cases)
        (above_left scope.cert.cond popped met.operand taken.before.hints split.0 cases) in
        let integer = integer_is (w.value met.operand.0) (kind_met (spot_at own list last at) Int met.operand met.kind) in
        let values : List Value = value_list w met.rest ++ below in
        let bare : Config = record x { frames = t.d.frames; stack = values } in
        let stack_is : x.stack ≡ value.Int integer.0 ∷ values =
        reached.stands.stack ∙ ap (λ (l : List Sym). value_list w l ++ below) met.on_top ∙ ap (λ (v : Value). v ∷ values) integer.1 in
        let positive : Bool = is_positive integer.0 in
        let there : test_ended scope.style a.one.test a.one.body at x.stack (record x { frames = t.d.frames })
        ≡ cond positive (with_frame (entered_tokens scope.style a.one.body at) at part_turned bare) bare =
        ap (λ (l : List Value). test_ended scope.style a.one.test a.one.body at l (record x { frames = t.d.frames })) stack_is in
        let fine : IsWellFormed scope.style list bare = record {
          preamble = reached.formed.preamble;
          commands = reached.formed.commands;
          frames = (subst (AllByRecursion (IsFrameSound scope.style)) reached.remains.waiting reached.formed.frames).1;
          stack = (subst (AllByRecursion (IsValueOf scope.style)) stack_is reached.formed.stack).1;
          globals = reached.formed.globals;
          entries = reached.formed.entries;
          order = reached.formed.order;
        } in
        let one = labelled_sign_found scope.style scope.cert.cond list w popped bare below met.operand integer.0 taken.before.hints split.0
        (moved scope.style scope.cert.cond list w end (record x { frames = t.d.frames }) below met.rest (reverse met.rest) x.events x.log
        (stands_framed scope.style scope.cert.cond list w end x below t.d.frames reached.stands) (reverse-reverse met.rest)) integer.1 cases in
        let state : State = above_case popped met.operand positive in
        let follows = among_all (CaseFollows own end met.rest) (positive, state) split.0.cases one.among follow in
        let on : Reaches own list t.d.frames (turn_start t) state w bare = record {
          follows = follows_twice own (turn_start t).state end state reached.follows follows.follows;
          agrees = reached.agrees;
          remains = remains_twice (turn_start t).state.at_entry (emptied at part_tested t.d.frames) t.d.frames t.d x bare reached.remains
              (remains_framed (turn_start t).state.at_entry t.d.frames x bare reached.remains.goes refl refl refl refl refl);
          formed = fine;
          stands = one.stands;
        } in
        let case = case_taken own place a.one split.0.cases (positive, state) (record taken.before { hints = split.0.hints }) taken.after one.among split.2 in
        one_before scope.style frame t.d.frames m x here (subst (SafeFor scope.style m) (sym there)
        (by_sign m (omega (arith, few)) (λ i e is waits. less scope.style m e.d (exits i e is waits)) positive state w bare case.before case.after on refl case.turned
        (subst (IsWellFormed scope.style list) there (formed_step a.s.laws own list frame t.d.frames x told.sound fits here reached.formed))))

  -- a turn is safe where turns are for fewer steps
  turn_next : IsLoopChecked scope.style scope.cert a.one → (n : ℕ) → ((m : ℕ) → m < n → UnitsSafe own list m) → ((body : BodyId) → UseSafe own list n (Block body))
      → ((k : ℕ) → k < n → TurnSafe scope list a k) → TurnSafe scope list a n
  turn_next checked n units blocks lower at t formed exits =
      let place = place_of scope.style (body_of scope.style a.one.body) in
      let begun = then_ok (turned_from own place a.one a.one.cases (beginning a.one.hints)) (λ course. none_left place course.hints) checked.left checked.checked in
      let turn = turn_taken own place a.one a.one.cases t.k t.case (beginning a.one.hints) begun.0 t.there begun.1 in
      target_framed own list n a.one.test place at part_tested (turn_start t) told fits units blocks formed turn.before turn.middle turn.entered
      (λ end w x among reached. test_end n units lower at place t n (omega arith) exits end w x reached
      (test_taken own place a.one turn.middle.given end (record turn.middle { given = [] }) turn.after among turn.tested))

  turns_below : IsLoopChecked scope.style scope.cert a.one → (n : ℕ) → ((m : ℕ) → m < n → UnitsSafe own list m) → (k : ℕ) → k < n → TurnSafe scope list a k
  turns_below checked zero units k few = absurd (omega (arith, few))
  turns_below checked (suc n) units k few =
      turn_next checked k (λ m less. units m (omega (arith, less, few))) (λ body. (units k few).uses (Block body))
      (λ j less. turns_below checked n (λ m low. units m (omega (arith, low))) j (omega (arith, less, few)))

-- a loop that is checked is used
pub loop_safe : (scope : Scope) (list : EntryList) (n : ℕ) → Told scope → ((writes : List NameId) → Told (own_scope scope writes)) → Fits scope.style list
    → ((k : ℕ) (one : Loop) → slice_get scope.cert.loops k ≡ Some one → IsLoopChecked scope.style scope.cert one)
    → ((writes : List NameId) (m : ℕ) → m < n → UnitsSafe (own_scope scope writes) list m)
    → ((writes : List NameId) (body : BodyId) → UseSafe (own_scope scope writes) list n (Block body)) → LoopSafe scope list n
loop_safe scope list n told own_told fits checked units blocks k one place at s there formed course after e safe =
    let is = element (IsLoopOf scope.style) scope.cert.loops k one told.loops there in
    let shown = comes_to (around one) scope.cert.cond one.cases s.state course.hints in
    let mid = then_ok (placed place shown) (λ come. leaves scope place (around one) come.case one.exits 0 s.state (record course { hints = come.hints })) after e in
    let by = comes_to_ok scope one s.state course.hints mid.0 (placed_ok place shown mid.0 mid.1) in
    let case = mid.0.case in
    let left : Course = record course { hints = mid.0.hints } in
    let may = where_ok (list_all (may_write scope.writes) one.writes) _ _ after mid.2 in
    let counted = then_ok (counts (length one.writes) place left) (gives_all place (map (left_state scope.style scope.cert.cond (around one) case 0 s.state) one.exits))
    after may.1 in
    let a : LoopUse scope list = record {
      one = one;
      is = is;
      case = case;
      of_case = element (IsPieceOf scope.style one.entry) one.cases by.k case is.cases by.there;
      small = told.fields;
      s = s;
      hints = by.hints;
      left = mid.0.hints;
      came = by.came;
    } in
    let first : TurnAt scope list a = record {
      k = by.k;
      case = case;
      there = by.there;
      v = through (match_of s.state case 0) s.v;
      d = s.c;
      inside = first_inside scope list (use_of_loop scope list a);
      waiting = refl;
    } in
    turn_next scope list a (own_told one.writes) fits (checked k one there) n (units one.writes) (blocks one.writes)
    (turns_below scope list a (own_told one.writes) fits (checked k one there) n (units one.writes)) at first formed
    (λ i e there waits. left_safe scope list n place s.c.frames (use_of_loop scope list a) counted.0 after may.0 counted.2 safe i e there waits)
