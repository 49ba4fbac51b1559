-- What is put of a run part by part is a front of its lines.
use Rattle.std.proofs.Common.{◌≡◌, ◌≤◌, ◌+◌, ◌-◌, ℕ, suc, List, [], ◌∷◌, ◌++◌, length, take, Option, None, Some, Err, refl, sym, ◌∙◌, ap, subst, arith}
use Rattle.std.specs.Prelude.{IsErrOf}
use Rattle.std.proofs.lemmas.List.{append-nil, append_assoc, length-append, take_all, take-append-le}
use Rattle.bv_base.specs.Outside.{Rose, appended}
use Rattle.name_table.specs.declared.style.Style.{Style}
use Rattle.bst_meaning.specs.Config.{Config, Event}
use Rattle.bst_meaning.specs.Lines.{lines_of}
use Rattle.bst_meaning.specs.Machine.{steps}
use Rattle.bst_step.specs.Lines.{Spelt, added, first}
use Rattle.bst_step.specs.Machine.{behind}
use Rattle.bst_step.proofs.AddedPages.{in_front, front_stays, parts_added, whole_page}
use Rattle.bst_step.proofs.WrittenSteps.{steps_add, steps_leave}
use Rattle.bst_run.specs.Delivery.{Sunk, IsPut, IsFront, IsCut, IsHeld}
use Rattle.bst_run.specs.Putting.{AreSoFar, unwritten}

-- an error is the same behind another type of answers
pub refused_as : {T U E : Type 0} (x e : E) → IsErrOf {T = T} {E = E} (Err x) e → IsErrOf {T = U} {E = E} (Err x) e
refused_as x e is = let same : x ≡ e = cc in ap Err same

-- what was written and counted before and after
abbrev pub between : Option (List ℕ) → Option (List ℕ) → ℕ → ℕ → Sunk
between before after faults faults' = record { before = before; after = after; faults = faults; faults' = faults' }

-- later steps write behind what was written
later : (style : Style) (k n : ℕ) (c now : Config) → now ≡ unwritten (steps style k c)
    → steps style (k + n) c ≡ behind (steps style k c).events (steps style n now)
later style k n c now stands =
    steps_add style k n c ∙ steps_leave style n (steps style k c) ∙ ap (λ (x : Config). behind (steps style k c).events (steps style n x)) (sym stands)

-- and so their lines stand behind what was finished before
spelled_later : (style : Style) (k n : ℕ) (c now : Config) (front : List ℕ) (page : Spelt) → now ≡ unwritten (steps style k c)
    → added first (steps style k c).events ≡ in_front front page
    → added first (steps style (k + n) c).events ≡ in_front front (added page (steps style n now).events)
spelled_later style k n c now front page stands spelled =
    ap (λ (x : Config). added first x.events) (later style k n c now stands)
    ∙ parts_added first (steps style k c).events (steps style n now).events
    ∙ ap (λ (p : Spelt). added p (steps style n now).events) spelled
    ∙ front_stays front page (steps style n now).events

-- a text is put behind another
appended_twice : (before : Option (List ℕ)) (front text : List ℕ) → appended (appended before front) text ≡ appended before (front ++ text)
appended_twice None front text = refl
appended_twice (Some bytes) front text = ap Some (append_assoc bytes front text)

-- a part was put, and its text is let go
pub further : (style : Style) (k n : ℕ) (c old now : Config) (page more left : Spelt) (text : List ℕ) (w0 w1 w2 : Option (List ℕ)) (f0 f1 f2 : ℕ)
    → AreSoFar style k c old page (between w0 w1 f0 f1) → now ≡ unwritten (steps style n old) → more ≡ added page (steps style n old).events
    → more ≡ in_front text left → IsPut text (between w1 w2 f1 f2) → AreSoFar style (k + n) c now left (between w0 w2 f0 f2)
further style k n c old now page more left text w0 w1 w2 f0 f1 f2 so_far moved is cut put = record {
  stands = moved ∙ ap unwritten (sym (later style k n c old so_far.stands));
  front = so_far.front ++ text;
  spelled =
      spelled_later style k n c old so_far.front page so_far.stands so_far.spelled
      ∙ ap (in_front so_far.front) (sym is ∙ cut)
      ∙ ap (λ (t : List ℕ). record { text = t; buffer = left.buffer }) (sym (append_assoc so_far.front text left.text));
  taken = put.taken ∙ ap (λ (w : Option (List ℕ)). appended w text) so_far.taken ∙ appended_twice w0 so_far.front text;
  steady = put.steady ∙ so_far.steady;
}

-- a page's text is the front of what it has after more events
text_begins : (page : Spelt) (events : List Event) → (rest : List ℕ) × ((added page events).text ≡ page.text ++ rest)
text_begins page events =
    let bare : Spelt = record { text = []; buffer = page.buffer } in (
      (added bare events).text,
      ap (λ (t : List ℕ). (added (record { text = t; buffer = page.buffer }) events).text) (sym (append-nil page.text))
          ∙ ap (λ (p : Spelt). p.text) (front_stays page.text bare events),
    )

-- the lines after more steps begin with what was put, and then with what is finished on the page
lines_begin : (style : Style) (k more : ℕ) (c : Config) (front : List ℕ) (page : Spelt) → added first (steps style k c).events ≡ in_front front page
    → (rest : List ℕ) × (lines_of (steps style (k + more) c) ≡ front ++ (page.text ++ rest))
lines_begin style k more c front page spelled =
    let now : Config = unwritten (steps style k c) in
    let begins = text_begins page (steps style more now).events in (
      begins.0,
      sym (whole_page (steps style (k + more) c).events)
          ∙ ap (λ (p : Spelt). p.text) (spelled_later style k more c now front page refl spelled)
          ∙ ap (λ (t : List ℕ). front ++ t) begins.1,
    )

-- a front, and so many bytes of what is behind it
take_behind : (front rest : List ℕ) (n : ℕ) → take (length front + n) (front ++ rest) ≡ front ++ take n rest
take_behind [] rest n = let none : 0 + n ≡ n = omega arith in ap (λ (m : ℕ). take m rest) none
take_behind (b ∷ front) rest n =
    let one : length (b ∷ front) + n ≡ suc (length front + n) = omega arith in
    ap (λ (m : ℕ). take m (b ∷ front ++ rest)) one ∙ ap (λ (xs : List ℕ). b ∷ xs) (take_behind front rest n)

-- a front of a text that stands behind what was put
front_behind : (w0 w1 w2 : Option (List ℕ)) (f0 f1 f2 : ℕ) (front text rest whole : List ℕ) → whole ≡ front ++ (text ++ rest) → w1 ≡ appended w0 front
    → IsFront text (between w1 w2 f1 f2) → IsFront whole (between w0 w2 f0 f2)
front_behind w0 w1 w2 f0 f1 f2 front text rest whole is taken begun =
    let inner = length-append text rest in
    let outer = length-append front (text ++ rest) in (
      length front + begun.0,
      omega (arith, begun.1, inner, outer, ap length is),
      begun.2 ∙ ap (λ (w : Option (List ℕ)). appended w (take begun.0 text)) taken ∙ appended_twice w0 front (take begun.0 text)
          ∙ ap (λ (t : List ℕ). appended w0 (front ++ t)) (sym (take-append-le begun.0 text rest begun.1))
          ∙ ap (appended w0) (sym (take_behind front (text ++ rest) begun.0))
          ∙ ap (λ (t : List ℕ). appended w0 (take (length front + begun.0) t)) (sym is),
    )

-- what is finished on a page that has more of a run
abbrev HasPart : Style → ℕ → ℕ → Config → List ℕ → List ℕ → Type 0
HasPart style k more c front text = (rest : List ℕ) × (lines_of (steps style (k + more) c) ≡ front ++ (text ++ rest))

part_begins : (style : Style) (k n more : ℕ) (c old : Config) (page next : Spelt) (front text rest : List ℕ) → old ≡ unwritten (steps style k c)
    → added first (steps style k c).events ≡ in_front front page → next ≡ added page (steps style n old).events → next.text ≡ text ++ rest
    → HasPart style (k + n) more c front text
part_begins style k n more c old page next front text rest stands spelled is begins =
    let lines = lines_begin style (k + n) more c front next (spelled_later style k n c old front page stands spelled ∙ ap (in_front front) (sym is)) in (
      rest ++ lines.0,
      lines.1 ∙ ap (λ (t : List ℕ). front ++ (t ++ lines.0)) begins ∙ ap (λ (t : List ℕ). front ++ t) (append_assoc text rest lines.0),
    )

-- the sink failed in a part
pub cut_behind : (style : Style) (k n more : ℕ) (c old : Config) (page next : Spelt) (text rest : List ℕ) (w0 w1 w2 : Option (List ℕ)) (f0 f1 f2 : ℕ)
    → AreSoFar style k c old page (between w0 w1 f0 f1) → next ≡ added page (steps style n old).events → next.text ≡ text ++ rest
    → IsCut text (between w1 w2 f1 f2) → IsCut (lines_of (steps style (k + n + more) c)) (between w0 w2 f0 f2)
cut_behind style k n more c old page next text rest w0 w1 w2 f0 f1 f2 so_far is begins cut =
    let part = part_begins style k n more c old page next so_far.front text rest so_far.stands so_far.spelled is begins in
    let inner = length-append text part.0 in
    let outer = length-append so_far.front (text ++ part.0) in
    record {
      some = omega (arith, cut.some, inner, outer, ap length part.1);
      failed = subst (λ (f : ℕ). Rose f f2) so_far.steady cut.failed;
      front = front_behind w0 w1 w2 f0 f1 f2 so_far.front text part.0 _ part.1 so_far.taken cut.front;
    }

-- memory was wanting for a part that was to be put
pub held_behind : (style : Style) (k n more : ℕ) (c old : Config) (page next : Spelt) (text rest : List ℕ) (w0 w1 w2 : Option (List ℕ)) (f0 f1 f2 : ℕ)
    → AreSoFar style k c old page (between w0 w1 f0 f1) → next ≡ added page (steps style n old).events → next.text ≡ text ++ rest
    → IsHeld text (between w1 w2 f1 f2) → IsHeld (lines_of (steps style (k + n + more) c)) (between w0 w2 f0 f2)
held_behind style k n more c old page next text rest w0 w1 w2 f0 f1 f2 so_far is begins held =
    let part = part_begins style k n more c old page next so_far.front text rest so_far.stands so_far.spelled is begins in
    record {
      front = front_behind w0 w1 w2 f0 f1 f2 so_far.front text part.0 _ part.1 so_far.taken held.front;
      steady = held.steady ∙ so_far.steady;
    }

-- memory was wanting before a part was to be put
pub held_there : (style : Style) (k n more : ℕ) (c old : Config) (page : Spelt) (w0 w1 : Option (List ℕ)) (f0 f1 : ℕ)
    → AreSoFar style k c old page (between w0 w1 f0 f1) → IsHeld (lines_of (steps style (k + n + more) c)) (between w0 w1 f0 f1)
held_there style k n more c old page w0 w1 f0 f1 so_far =
    let part = part_begins style k n more c old page (added page (steps style n old).events) so_far.front [] _ so_far.stands so_far.spelled refl refl in
    let outer = length-append so_far.front part.0 in
    record {
      front = (
        length so_far.front,
        omega (arith, outer, ap length part.1),
        so_far.taken ∙ ap (appended w0) (sym (take_all (length so_far.front) so_far.front (omega arith))
            ∙ sym (take-append-le (length so_far.front) so_far.front part.0 (omega arith)) ∙ ap (take (length so_far.front)) (sym part.1)),
      );
      steady = so_far.steady;
    }

-- nothing was put before the first part
pub at_first : (style : Style) (c : Config) (w : Option (List ℕ)) (f : ℕ) (page : Spelt) → c.events ≡ [] → page ≡ first
    → AreSoFar style 0 c c page (between w w f f)
at_first style c w f page none is = record {
  stands = unwritten_already c none;
  front = [];
  spelled = ap (added first) none ∙ sym is;
  taken = nothing_more w;
  steady = refl;
}
  where
    unwritten_already : (c : Config) → c.events ≡ [] → c ≡ unwritten c
    unwritten_already c none = ap (λ (events : List Event). record c { events = events }) none

    nothing_more : (written : Option (List ℕ)) → written ≡ appended written []
    nothing_more None = refl
    nothing_more (Some bytes) = ap Some (sym (append-nil bytes))

-- the lines of a run whose parts are put
lines_are : (style : Style) (count : ℕ) (c : Config) (front : List ℕ) (page : Spelt) → added first (steps style count c).events ≡ in_front front page
    → lines_of (steps style count c) ≡ front ++ page.text
lines_are style count c front page spelled =
    sym (whole_page (steps style count c).events) ∙ ap (λ (p : Spelt). p.text) spelled

-- the lines that are left on the page were put, or they weren't
pub put_whole : (style : Style) (count : ℕ) (c now : Config) (page : Spelt) (w0 w1 w2 : Option (List ℕ)) (f0 f1 f2 : ℕ)
    → AreSoFar style count c now page (between w0 w1 f0 f1) → IsPut page.text (between w1 w2 f1 f2)
    → IsPut (lines_of (steps style count c)) (between w0 w2 f0 f2)
put_whole style count c now page w0 w1 w2 f0 f1 f2 so_far put = record {
  taken =
      put.taken ∙ ap (λ (w : Option (List ℕ)). appended w page.text) so_far.taken ∙ appended_twice w0 so_far.front page.text
      ∙ ap (appended w0) (sym (lines_are style count c so_far.front page so_far.spelled));
  steady = put.steady ∙ so_far.steady;
}

whole_is : (style : Style) (count : ℕ) (c : Config) (front : List ℕ) (page : Spelt) → added first (steps style count c).events ≡ in_front front page
    → lines_of (steps style count c) ≡ front ++ (page.text ++ [])
whole_is style count c front page spelled =
    lines_are style count c front page spelled ∙ ap (λ (t : List ℕ). front ++ t) (sym (append-nil page.text))

pub cut_whole : (style : Style) (count : ℕ) (c now : Config) (page : Spelt) (w0 w1 w2 : Option (List ℕ)) (f0 f1 f2 : ℕ)
    → AreSoFar style count c now page (between w0 w1 f0 f1) → IsCut page.text (between w1 w2 f1 f2)
    → IsCut (lines_of (steps style count c)) (between w0 w2 f0 f2)
cut_whole style count c now page w0 w1 w2 f0 f1 f2 so_far cut =
    let outer = length-append so_far.front page.text in
    record {
      some = omega (arith, cut.some, outer, ap length (lines_are style count c so_far.front page so_far.spelled));
      failed = subst (λ (f : ℕ). Rose f f2) so_far.steady cut.failed;
      front = front_behind w0 w1 w2 f0 f1 f2 so_far.front page.text [] _ (whole_is style count c so_far.front page so_far.spelled) so_far.taken cut.front;
    }

pub held_whole : (style : Style) (count : ℕ) (c now : Config) (page : Spelt) (w0 w1 w2 : Option (List ℕ)) (f0 f1 f2 : ℕ)
    → AreSoFar style count c now page (between w0 w1 f0 f1) → IsHeld page.text (between w1 w2 f1 f2)
    → IsHeld (lines_of (steps style count c)) (between w0 w2 f0 f2)
held_whole style count c now page w0 w1 w2 f0 f1 f2 so_far held = record {
  front = front_behind w0 w1 w2 f0 f1 f2 so_far.front page.text [] _ (whole_is style count c so_far.front page so_far.spelled) so_far.taken held.front;
  steady = held.steady ∙ so_far.steady;
}

-- a style and a number of steps by another name
pub so_far_as : (style style' : Style) (k k' : ℕ) (c now : Config) (page : Spelt) (out : Sunk) → style ≡ style' → k ≡ k'
    → AreSoFar style k c now page out → AreSoFar style' k' c now page out
so_far_as style style' k k' c now page out own is so_far =
    subst (λ (s : Style). AreSoFar s k' c now page out) own (subst (λ (m : ℕ). AreSoFar style m c now page out) is so_far)

pub comes_as : (Comes : List ℕ → Sunk → Type 0) (style style' : Style) (k k' : ℕ) (c : Config) (out : Sunk) → style ≡ style' → k ≡ k'
    → Comes (lines_of (steps style k c)) out → Comes (lines_of (steps style' k' c)) out
comes_as Comes style style' k k' c out own is comes =
    subst (λ (s : Style). Comes (lines_of (steps s k' c)) out) own (subst (λ (m : ℕ). Comes (lines_of (steps style m c)) out) is comes)

-- after the last part all steps are taken
pub last_part : (style style' : Style) (count left : ℕ) (c old now : Config) (page next : Spelt) (out out' : Sunk)
    → (left ≤ count) × (style ≡ style') × AreSoFar style' (count - left) c old page out
    → (AreSoFar style (count - left) c old page out → AreSoFar style (count - left + left) c now next out') → AreSoFar style' count c now next out'
last_part style style' count left c old now page next out out' so_far more =
    let all : count - left + left ≡ count = omega (arith, so_far.0) in
    so_far_as style style' (count - left + left) count c now next out' so_far.1 all
    (more (so_far_as style' style (count - left) (count - left) c old page out (sym so_far.1) refl so_far.2))
