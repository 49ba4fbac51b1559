-- A walk that finds its hints beside one that reads them: what rules owe that take none, and those that take what is found for them.
use Rattle.std.proofs.Common.{◌≡◌, ℕ, ◌+◌, Bool, true, false, cond, List, [], ◌∷◌, ◌++◌, None, Some, Result, Ok, Err, refl, sym, ap, ◌∙◌, append_assoc}
use Rattle.std.proofs.lemmas.List.{append-nil}
use Rattle.bv_base.specs.Answers.{then_do}
use Rattle.bv_base.specs.declared.place.Place.{Place}
use Rattle.bv_base.proofs.ThenLemmas.{ok_is, then_ok}
use Rattle.sym_state.specs.State.{State}
use Rattle.sym_state.specs.declared.demand.EffectFault.{EffectFault}
use Rattle.sym_state.specs.declared.hint.Hint.{Hint}
use Rattle.straight_hints.specs.declared.finding.Finding.{Finding}
use Rattle.straight_hints.proofs.RulesTaken.{Leaving, Takes}
use Rattle.cert_check.specs.declared.refusal.Refusal.{Refusal}
use Rattle.cert_check.specs.Courses.{Course, Walk, counts, gives, gives_all, placed}
use Rattle.cert_check.proofs.Inverted.{placed_ok}

-- how far a walk has come, whether it finds its hints or reads them
pub record Way : Type 0 where
  pub given : List State
  pub count : ℕ

-- the course there of a walk that found these hints
abbrev pub seeking : Finding → Way → List Hint → Course
seeking finding way found = record { given = way.given; hints = []; count = way.count; finding = Some finding; found = found; stay = 0; loops = [] }

-- the course there of one that has these hints left
abbrev pub reading : Way → List Hint → Course
reading way hints = record { given = way.given; hints = hints; count = way.count; finding = None; found = []; stay = 0; loops = [] }

-- a rule that finds its hints came to a course: it found some, and with these before others the rule that reads comes as far, and
-- leaves the others
pub record Reads (finding : Finding) (read : Course → Walk) (way : Way) (found : List Hint) (after : Course) : Type 0 where
  pub come : Way
  pub taken : List Hint
  pub ends : after ≡ seeking finding come (found ++ taken)
  pub reads : (rest : List Hint) → read (reading way (taken ++ rest)) ≡ Ok (reading come rest)

module _ (finding : Finding) where
  -- what a rule finds another one reads, wherever they are taken
  abbrev pub IsRead : (Course → Walk) → (Course → Walk) → Type 0
  IsRead search read = (way : Way) (found : List Hint) (after : Course) → search (seeking finding way found) ≡ Ok after → Reads finding read way found after

  -- the same rule, taken elsewhere
  pub reads_as : (read other : Course → Walk) (way start : Way) (found : List Hint) (after : Course)
      → ((rest : List Hint) → other (reading start rest) ≡ read (reading way rest)) → Reads finding read way found after
      → Reads finding other start found after
  reads_as read other way start found after same one =
      record { come = one.come; taken = one.taken; ends = one.ends; reads = λ rest. same (one.taken ++ rest) ∙ one.reads rest }

  pub self_read : IsRead (λ course. Ok course) (λ course. Ok course)
  self_read way found after e = record {
    come = way;
    taken = [];
    ends = ok_is (seeking finding way found) after e ∙ ap (seeking finding way) (sym (append-nil found));
    reads = λ rest. refl;
  }

  -- a rule that takes no hint, where it is met
  met_read : (t : Bool) (read : Course → Walk) (refusal : Refusal) (way come : Way) (found : List Hint) (after : Course)
      → ((rest : List Hint) → read (reading way rest) ≡ cond t (Ok (reading come rest)) (Err refusal))
      → cond t (Ok (seeking finding come found)) (Err refusal) ≡ Ok after → Reads finding read way found after
  met_read true read refusal way come found after same e = record {
    come = come;
    taken = [];
    ends = ok_is (seeking finding come found) after e ∙ ap (seeking finding come) (sym (append-nil found));
    reads = same;
  }
  met_read false read refusal way come found after same e = absurd (cc)

  pub counts_read : (n : ℕ) (place : Place) → IsRead (counts n place) (counts n place)
  counts_read n place way found after e =
      met_read _ (counts n place) _ way (record { given = way.given; count = way.count + n }) found after (λ rest. refl) e

  pub gives_read : (place : Place) (state : State) → IsRead (gives place state) (gives place state)
  gives_read place state way found after e =
      met_read _ (gives place state) _ way (record { given = way.given ++ state ∷ []; count = way.count }) found after (λ rest. refl) e

  -- one rule behind another
  joined : (next read next_read : Course → Walk) (way : Way) (found : List Hint) (middle after : Course) → Reads finding read way found middle
      → IsRead next next_read → next middle ≡ Ok after → Reads finding (λ course. then_do (read course) next_read) way found after
  joined next read next_read way found middle after one nexts e =
      both one (nexts one.come (found ++ one.taken) after (sym (ap next one.ends) ∙ e))
    where
      both : (one : Reads finding read way found middle) → Reads finding next_read one.come (found ++ one.taken) after
          → Reads finding (λ course. then_do (read course) next_read) way found after
      both one other = record {
        come = other.come;
        taken = one.taken ++ other.taken;
        ends = other.ends ∙ ap (seeking finding other.come) (append_assoc found one.taken other.taken);
        reads = λ rest. ap (λ (hints : List Hint). then_do (read (reading way hints)) next_read) (append_assoc one.taken other.taken rest)
            ∙ ap (λ (r : Walk). then_do r next_read) (one.reads (other.taken ++ rest)) ∙ other.reads rest;
      }

  pub then_read : (search next read next_read : Course → Walk) → IsRead search read → IsRead next next_read
      → IsRead (λ course. then_do (search course) next) (λ course. then_do (read course) next_read)
  then_read search next read next_read searches nexts way found after e =
      let first = then_ok (search (seeking finding way found)) next after e in
      joined next read next_read way found first.0 after (searches way found first.0 first.1) nexts first.2

  pub gives_all_read : (place : Place) (states : List State) → IsRead (gives_all place states) (gives_all place states)
  gives_all_read place [] = self_read
  gives_all_read place (state ∷ states) =
      then_read (gives place state) (gives_all place states) (gives place state) (gives_all place states) (gives_read place state) (gives_all_read place states)

  -- behind what is demanded of a state
  pub placed_read : {X : Type 0} (place : Place) (r : Result X EffectFault) (search read : X → Course → Walk)
      → ((x : X) → IsRead (search x) (read x))
      → IsRead (λ course. then_do (placed place r) (λ x. search x course)) (λ course. then_do (placed place r) (λ x. read x course))
  placed_read place (Ok x) search read searches = searches x
  placed_read place (Err fault) search read searches = λ way found after e. absurd (cc)

  pub where_read : (t : Bool) (refusal : Refusal) (search read : Course → Walk) → IsRead search read
      → IsRead (λ course. cond t (search course) (Err refusal)) (λ course. cond t (read course) (Err refusal))
  where_read true refusal search read searches = searches
  where_read false refusal search read searches = λ way found after e. absurd (cc)

  -- a rule that takes what is found for it, and one behind it
  handed_read : (read next_read : Course → Walk) (way : Way) (found hints : List Hint) (after : Course)
      → ((rest : List Hint) → read (reading way (hints ++ rest)) ≡ next_read (reading way rest))
      → Reads finding next_read way (found ++ hints) after → Reads finding read way found after
  handed_read read next_read way found hints after step other = record {
    come = other.come;
    taken = hints ++ other.taken;
    ends = other.ends ∙ ap (seeking finding other.come) (append_assoc found hints other.taken);
    reads = λ rest. ap (λ (all : List Hint). read (reading way all)) (append_assoc hints other.taken rest) ∙ step (other.taken ++ rest) ∙ other.reads rest;
  }

  pub takes_read : {X : Type 0} (leaving : Leaving X) (place : Place) (rule : List Hint → Result X EffectFault) (hints : List Hint)
      (next next_read : X → Course → Walk) (read : Course → Walk) (left : X → List Hint) (way : Way) (found : List Hint) (after : Course)
      → Takes leaving rule hints → ((x : X) → IsRead (next x) (next_read x))
      → ((rest : List Hint) → read (reading way (hints ++ rest)) ≡ then_do (placed place (rule (hints ++ rest))) (λ x. next_read x (reading way (left x))))
      → ((x : X) (rest : List Hint) → next_read (leaving x rest) (reading way (left (leaving x rest))) ≡ next_read x (reading way rest))
      → then_do (placed place (rule hints)) (λ x. next x (seeking finding way (found ++ hints))) ≡ Ok after → Reads finding read way found after
  takes_read {X} leaving place rule hints next next_read read left way found after takes nexts reads same e =
      let first = then_ok (placed place (rule hints)) (λ x. next x (seeking finding way (found ++ hints))) after e in
      let x = first.0 in
      let given = placed_ok place (rule hints) x first.1 in
      handed_read read (next_read x) way found hints after
      (λ rest. reads rest
      ∙ ap (λ (r : Result X EffectFault). then_do (placed place r) (λ y. next_read y (reading way (left y)))) (takes x given rest)
      ∙ same x rest)
      (nexts x way (found ++ hints) after first.2)
