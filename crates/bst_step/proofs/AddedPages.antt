-- What becomes of a page as events are added to it.
use Rattle.std.proofs.Common.{◌≡◌, ℕ, ◌+◌, ◌<◌, Bool, true, false, if◌then◌else◌, List, [], ◌∷◌, ◌++◌, Option, None, length, drop, get_or, map, ◌∙◌, refl, sym, ap, append-nil}
use Rattle.std.specs.List.{flat_map}
use Rattle.std.proofs.lemmas.List.{append_assoc, at_drop_more}
use Rattle.bst_meaning.specs.Config.{Event, Wrote, EndedLine}
use Rattle.bst_meaning.specs.Lines.{Page, after_event, after_events, broken, is_only_white, lines_after, trimmed_end}
use Rattle.bst_step.specs.State.{event_of}
use Rattle.bst_step.specs.Lines.{Spelt, added, first, spelt}
use Rattle.bst_step.proofs.LateBreaks.{late_written}
use Rattle.bst_step.proofs.SpeltLines.{event_spelt}

-- events that are added part by part
pub parts_added : (page : Spelt) (before after : List Event) → added page (before ++ after) ≡ added (added page before) after
parts_added page [] after = refl
parts_added page (event ∷ before) after = parts_added (added page (event ∷ [])) before after

-- a text in front of what a page has
abbrev pub in_front : List ℕ → Spelt → Spelt
in_front text page = record { text = text ++ page.text; buffer = page.buffer }

-- it stays in front
pub front_stays : (text : List ℕ) (page : Spelt) (events : List Event) → added (in_front text page) events ≡ in_front text (added page events)
front_stays text page [] = refl
front_stays text page (event ∷ events) =
    let next : Page = after_event (record { lines = []; buffer = page.buffer }) event in
    ap (λ (t : List ℕ). added (record { text = t; buffer = next.buffer }) events)
    (append_assoc text page.text (flat_map (λ line. line ++ 10 ∷ []) next.lines))
    ∙ front_stays text (added page (event ∷ [])) events

-- the page of the definition is that to which the events were added
events_spelt : (text : List ℕ) (events : List Event) (page : Page) → spelt text (after_events page events) ≡ added (spelt text page) events
events_spelt text [] page = refl
events_spelt text (event ∷ events) page =
    events_spelt text events (after_event page event) ∙ ap (λ (s : Spelt). added s events) (event_spelt text page event)

-- all events come to the lines that they finish
pub whole_page : (events : List Event) → (added first events).text ≡ lines_after events
whole_page events = ap (λ (s : Spelt). s.text) (sym (events_spelt [] events (record { lines = []; buffer = [] })))

-- the page goes on with the events that are left
pub goes_on : (at : ℕ) (events : List (Option (List ℕ))) (found : Option (List ℕ)) (page next whole : Spelt)
    → found ≡ get_or events at None → at < length events → next ≡ added page (event_of found ∷ [])
    → added page (map event_of (drop at events)) ≡ whole → added next (map event_of (drop (at + 1) events)) ≡ whole
goes_on at events found page next whole found_is within is all =
    let left : List Event = map event_of (drop (at + 1) events) in
    ap (λ (s : Spelt). added s left) is
    ∙ ap (λ (event : Option (List ℕ)). added page (event_of event ∷ left)) found_is
    ∙ sym (at_drop_more (λ (es : List (Option (List ℕ))). added page (map event_of es)) events at None within)
    ∙ all

-- a text that is written behind a buffer, which is still to be broken, is added to its page
pub written_behind : (text buffer more : List ℕ)
    → spelt text (broken (length (buffer ++ more)) [] (buffer ++ more)) ≡ added (spelt text (broken (length buffer) [] buffer)) (Wrote more ∷ [])
written_behind text buffer more =
    ap (spelt text) (late_written buffer more) ∙ event_spelt text (broken (length buffer) [] buffer) (Wrote more)

-- the last line of a buffer is spelt behind the text
pub last_behind : (text new left : List ℕ) (page : Spelt) → record { text = text; buffer = left } ≡ page
    → new ≡ (if is_only_white left then text else text ++ (trimmed_end left ++ 10 ∷ []))
    → spelt new (record { lines = []; buffer = [] }) ≡ added page (EndedLine ∷ [])
last_behind text new left page is last =
    ap (λ (t : List ℕ). record { text = t; buffer = [] }) (append-nil new ∙ last ∙ by (is_only_white left))
    ∙ ap (λ (s : Spelt). added s (EndedLine ∷ [])) is
  where
    by : (t : Bool) → (if t then text else text ++ (trimmed_end left ++ 10 ∷ []))
        ≡ text ++ flat_map (λ line. line ++ 10 ∷ []) (if t then [] else trimmed_end left ∷ [])
    by true = sym (append-nil text)
    by false = ap (λ (line : List ℕ). text ++ line) (sym (append-nil (trimmed_end left ++ 10 ∷ [])))
