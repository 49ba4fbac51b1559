-- Texts in one piece of memory.
use Rattle.std.proofs.Common.{◌≡◌, ℕ, zero, suc, ◌+◌, ◌-◌, ◌<◌, ◌≤◌, le_refl, le_trans, refl, sym, ap, subst, ◌∙◌, Bool, true, false, List, [], ◌∷◌, ◌++◌, Option, None, Some, drop, get_or, length, take, arith}
use Rattle.std.proofs.Math.Seq.{drop-append_seam}
use Rattle.std.proofs.lemmas.List.{drop-append-le, length-append, length-drop, take-append-le, take_all}
use Rattle.bv_base.specs.PackedTexts.{StandWithin, begin_of, end_of, if_there, is_there, text_at, texts_in}

-- texts that stand in order end behind where they begin
pub in_order : (from to : ℕ) (marks : List ℕ) → StandWithin from to marks → from ≤ to
in_order from to [] stand = subst (λ (n : ℕ). from ≤ n) stand (le_refl from)
in_order from to (mark ∷ marks) stand = le_trans stand.0 (in_order (end_of mark) to marks stand.1)

-- what is written behind a text leaves it
text_stays : (bytes more : List ℕ) (from mark : ℕ) → from ≤ end_of mark → end_of mark ≤ length bytes
    → text_at (bytes ++ more) from mark ≡ text_at bytes from mark
text_stays bytes more from mark ordered within =
    ap (λ (l : List ℕ). if_there (is_there mark) (take (end_of mark - from) l)) (drop-append-le from bytes more (le_trans ordered within))
    ∙ ap (λ (l : List ℕ). if_there (is_there mark) l)
    (take-append-le (end_of mark - from) (drop from bytes) more (omega (arith, ordered, within, length-drop from bytes)))

-- a text that is written behind all others
last_text : (bytes more : List ℕ) (from mark : ℕ) → from ≡ length bytes → end_of mark ≡ length bytes + length more
    → text_at (bytes ++ more) from mark ≡ if_there (is_there mark) more
last_text bytes more from mark here end =
    let count : end_of mark - from ≡ length more = omega (arith, here, end) in
    ap (λ (n : ℕ). if_there (is_there mark) (take n (drop from (bytes ++ more)))) count
    ∙ ap (λ (n : ℕ). if_there (is_there mark) (take (length more) (drop n (bytes ++ more)))) here
    ∙ ap (λ (l : List ℕ). if_there (is_there mark) (take (length more) l)) (drop-append_seam bytes more)
    ∙ ap (λ (l : List ℕ). if_there (is_there mark) l) (take_all (length more) more (le_refl (length more)))

-- all texts, with one that is written behind them
pub texts_pushed : (bytes more : List ℕ) (from mark : ℕ) (marks : List ℕ) → StandWithin from (length bytes) marks
    → end_of mark ≡ length bytes + length more
    → texts_in (bytes ++ more) from (marks ++ mark ∷ []) ≡ texts_in bytes from marks ++ if_there (is_there mark) more ∷ []
texts_pushed bytes more from mark [] stand end =
    ap (λ (t : Option (List ℕ)). t ∷ []) (last_text bytes more from mark stand end)
texts_pushed bytes more from mark (first ∷ marks) stand end =
    ap (λ (t : Option (List ℕ)). t ∷ texts_in (bytes ++ more) (end_of first) (marks ++ mark ∷ []))
    (text_stays bytes more from first stand.0 (in_order (end_of first) (length bytes) marks stand.1))
    ∙ ap (λ (l : List (Option (List ℕ))). text_at bytes from first ∷ l) (texts_pushed bytes more (end_of first) mark marks stand.1 end)

pub stand_pushed : (from to more mark : ℕ) (marks : List ℕ) → StandWithin from to marks → end_of mark ≡ to + more
    → StandWithin from (to + more) (marks ++ mark ∷ [])
stand_pushed from to more mark [] stand end = (omega (arith, stand, end), end)
stand_pushed from to more mark (first ∷ marks) stand end = (stand.0, stand_pushed (end_of first) to more mark marks stand.1 end)

-- how many there are
pub texts_length : (bytes : List ℕ) (from : ℕ) (marks : List ℕ) → length (texts_in bytes from marks) ≡ length marks
texts_length bytes from [] = refl
texts_length bytes from (mark ∷ marks) = ap suc (texts_length bytes (end_of mark) marks)

-- the text at a place
pub text_found : (bytes : List ℕ) (from : ℕ) (marks : List ℕ) (at d : ℕ) → at < length marks
    → get_or (texts_in bytes from marks) at None ≡ text_at bytes (begin_of from at marks) (get_or marks at d)
text_found bytes from [] at d within = absurd (omega (arith, within))
text_found bytes from (mark ∷ marks) zero d within = refl
text_found bytes from (mark ∷ marks) (suc at) d within = text_found bytes (end_of mark) marks at d (omega (arith, within))

-- no text stands behind the last
pub no_text : (bytes : List ℕ) (from : ℕ) (marks : List ℕ) (at : ℕ) → length marks ≤ at → get_or (texts_in bytes from marks) at None ≡ None
no_text bytes from [] at past = refl
no_text bytes from (mark ∷ marks) zero past = absurd (omega (arith, past))
no_text bytes from (mark ∷ marks) (suc at) past = no_text bytes (end_of mark) marks at (omega (arith, past))

-- a text begins where the one before it ends
pub begins_behind : (from at d : ℕ) (marks : List ℕ) → at < length marks → begin_of from (suc at) marks ≡ end_of (get_or marks at d)
begins_behind from at d [] within = absurd (omega (arith, within))
begins_behind from zero d (mark ∷ marks) within = refl
begins_behind from (suc at) d (mark ∷ marks) within = begins_behind (end_of mark) at d marks (omega (arith, within))

-- a text that is read, where the bytes and marks that are read are those that stand there
pub text_read : (bytes marks read_bytes read_marks : List ℕ) (from at d : ℕ) (text : Option (List ℕ)) (seen : List (Option (List ℕ)))
    → read_bytes ≡ bytes → read_marks ≡ marks → at < length read_marks → from ≡ begin_of 0 at read_marks
    → text ≡ text_at read_bytes from (get_or read_marks at d) → texts_in bytes 0 marks ≡ seen → text ≡ get_or seen at None
text_read bytes marks read_bytes read_marks from at d text seen same_bytes same_marks within begins is view =
    is
    ∙ ap (λ (n : ℕ). text_at read_bytes n (get_or read_marks at d)) begins
    ∙ sym (text_found read_bytes 0 read_marks at d within)
    ∙ ap (λ (l : List ℕ). get_or (texts_in l 0 read_marks) at None) same_bytes
    ∙ ap (λ (l : List ℕ). get_or (texts_in bytes 0 l) at None) same_marks
    ∙ ap (λ (l : List (Option (List ℕ))). get_or l at None) view

pub none_read : (bytes marks read_marks : List ℕ) (at : ℕ) (seen : List (Option (List ℕ))) → read_marks ≡ marks → length read_marks ≤ at
    → texts_in bytes 0 marks ≡ seen → None ≡ get_or seen at None
none_read bytes marks read_marks at seen same past view =
    sym (no_text bytes 0 read_marks at past)
    ∙ ap (λ (l : List ℕ). get_or (texts_in bytes 0 l) at None) same
    ∙ ap (λ (l : List (Option (List ℕ))). get_or l at None) view

-- where a text that isn't the first begins
pub begins_here : (at before d : ℕ) (marks : List ℕ) (end : ℕ) → at ≡ suc before → at < length marks → end ≡ end_of (get_or marks before d)
    → end ≡ begin_of 0 at marks
begins_here at before d marks end is within ends =
    ends
    ∙ sym (begins_behind 0 before d marks (omega (arith, is, within)))
    ∙ ap (λ (n : ℕ). begin_of 0 n marks) (sym is)

-- a text and its mark that are appended
pub appended_stand : (bytes later more marks laters : List ℕ) (mark : ℕ) → StandWithin 0 (length bytes) marks
    → end_of mark ≡ length bytes + length more → later ≡ bytes ++ more → laters ≡ marks ++ mark ∷ [] → StandWithin 0 (length later) laters
appended_stand bytes later more marks laters mark stand end is marked =
    subst (λ (l : List ℕ). StandWithin 0 (length later) l) (sym marked)
    (subst (λ (n : ℕ). StandWithin 0 n (marks ++ mark ∷ [])) (sym (ap (λ (l : List ℕ). length l) is ∙ length-append bytes more))
    (stand_pushed 0 (length bytes) (length more) mark marks stand end))

pub appended_texts : (bytes later more marks laters : List ℕ) (mark : ℕ) (there : Bool) → StandWithin 0 (length bytes) marks
    → end_of mark ≡ length bytes + length more → is_there mark ≡ there → later ≡ bytes ++ more → laters ≡ marks ++ mark ∷ []
    → texts_in later 0 laters ≡ texts_in bytes 0 marks ++ if_there there more ∷ []
appended_texts bytes later more marks laters mark there stand end is_so is marked =
    ap (λ (l : List ℕ). texts_in later 0 l) marked
    ∙ ap (λ (l : List ℕ). texts_in l 0 (marks ++ mark ∷ [])) is
    ∙ texts_pushed bytes more 0 mark marks stand end
    ∙ ap (λ (t : Bool). texts_in bytes 0 marks ++ if_there t more ∷ []) is_so
