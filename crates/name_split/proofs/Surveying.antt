-- What a walk over the tokens from the left finds is what the lists say.
use Rattle.std.proofs.Common.{◌≡◌, ℕ, zero, suc, ◌≤◌, Bool, true, false, not, cond, nat_eq, List, [], ◌∷◌, length, take, drop, Option, Some, None, refl, sym, ap, ◌∙◌, arith}
use Rattle.std.proofs.Math.Dec.{eqb-suc-zero}
use Rattle.name_split.specs.declared.spans.Span.{Span}
use Rattle.name_split.specs.declared.survey.Cut.{Cut}
use Rattle.name_split.specs.declared.survey.Split.{Split}
use Rattle.name_split.specs.declared.tokens.Token.{Token}
use Rattle.name_split.specs.Parts.{but_last, empty, is_high, is_tied, last_end, von_end, von_start, whole}
use Rattle.name_split.specs.Spans.{front, kept}
use Rattle.name_split.specs.Survey.{finished, low_step, split_at, survey_of, unless_zero}
use Rattle.name_split.proofs.Cutting.{front_within, kept_within}

-- the last cut after a token that fails a test and isn't the last
abbrev pub cut_fold : (Token → Bool) → ℕ → Option Cut → Token → List Token → Option Cut
cut_fold test start cut token [] = cut
cut_fold test start cut token (next ∷ tokens) =
    cut_fold test start
    (cond (test token) cut (Some (record { front = record { start = start; end = token.end }; start = next.start })))
    next tokens

-- the cut before the first low token that isn't the last
abbrev pub low_fold : ℕ → Span → Option Cut → Token → List Token → Option Cut
low_fold start before cut token [] = cut
low_fold start before cut token (next ∷ tokens) =
    low_fold start (record { start = start; end = token.end }) (low_step cut before token) next tokens

-- the end of the token of this number, counted from 1, and the start of the one of this number, counted from 0
abbrev end_of : ℕ → Token → List Token → ℕ
end_of zero token tokens = 0
end_of (suc zero) token tokens = token.end
end_of (suc (suc n)) token [] = 0
end_of (suc (suc n)) token (next ∷ tokens) = end_of (suc n) next tokens

abbrev start_of : ℕ → Token → List Token → ℕ
start_of zero token tokens = token.start
start_of (suc n) token [] = 0
start_of (suc n) token (next ∷ tokens) = start_of n next tokens

when_some : {X : Type 0} (n : ℕ) (a b : X) → cond (nat_eq (suc n) 0) a b ≡ b
when_some n a b = ap (λ v. cond v a b) (eqb-suc-zero n)

-- the cut after so many tokens
abbrev cut_of : ℕ → ℕ → Token → List Token → Cut
cut_of start count token tokens =
    record { front = record { start = start; end = end_of count token tokens }; start = start_of count token tokens }

abbrev CutForm : Option Cut → Option Cut → ℕ → ℕ → Token → List Token → Type 0
CutForm found cut start count token tokens =
    found ≡ cond (nat_eq count 0) cut (Some (cut_of start count token tokens))

cut_case : (keeps : Bool) (found cut : Option Cut) (start count : ℕ) (token next : Token) (tokens : List Token)
    → CutForm found (cond keeps cut (Some (record { front = record { start = start; end = token.end }; start = next.start })))
    start count next tokens
    → CutForm found cut start (cond (nat_eq count 0) (cond keeps 0 1) (suc count)) token (next ∷ tokens)
cut_case true found cut start zero token next tokens h = h
cut_case false found cut start zero token next tokens h = h
cut_case keeps found cut start (suc n) token next tokens h =
    h ∙ when_some n _ _
    ∙ sym (when_some (suc n) cut (Some (cut_of start (suc (suc n)) token (next ∷ tokens))))
    ∙ ap (λ k. cond (nat_eq k 0) cut (Some (cut_of start k token (next ∷ tokens)))) (sym (when_some n (cond keeps 0 1) (suc (suc n))))

cut_found : (test : Token → Bool) (start : ℕ) (cut : Option Cut) (token : Token) (tokens : List Token)
    → CutForm (cut_fold test start cut token tokens) cut start (kept test (but_last (token ∷ tokens))) token tokens
cut_found test start cut token [] = refl
cut_found test start cut token (next ∷ tokens) =
    cut_case (test token) _ cut start (kept test (but_last (next ∷ tokens))) token next tokens
    (cut_found test start _ next tokens)

-- a cut that is found stays
low_kept : (start : ℕ) (before : Span) (cut : Cut) (token : Token) (tokens : List Token)
    → low_fold start before (Some cut) token tokens ≡ Some cut
low_kept start before cut token [] = refl
low_kept start before cut token (next ∷ tokens) = low_kept start (record { start = start; end = token.end }) cut next tokens

-- what stands before the token of this number
abbrev front_of : ℕ → Span → ℕ → Token → List Token → Span
front_of zero before start token tokens = before
front_of (suc n) before start token tokens = record { start = start; end = end_of (suc n) token tokens }

abbrev low_of : ℕ → Span → ℕ → Token → List Token → Cut
low_of count before start token tokens =
    record { front = front_of count before start token tokens; start = start_of count token tokens }

abbrev LowForm : Option Cut → Span → ℕ → ℕ → ℕ → Token → List Token → Type 0
LowForm found before start first last token tokens =
    found ≡ cond (nat_eq last 0) None (Some (low_of first before start token tokens))

front_more : (first : ℕ) (before : Span) (start : ℕ) (token next : Token) (tokens : List Token)
    → front_of first (record { start = start; end = token.end }) start next tokens
    ≡ front_of (suc first) before start token (next ∷ tokens)
front_more zero before start token next tokens = refl
front_more (suc first) before start token next tokens = refl

-- the token is low
low_here : (last : ℕ) (cut : Cut) → Some cut ≡ cond (nat_eq (cond (nat_eq last 0) 1 (suc last)) 0) None (Some cut)
low_here zero cut = refl
low_here (suc n) cut =
    sym (when_some (suc n) None (Some cut))
    ∙ ap (λ k. cond (nat_eq k 0) None (Some cut)) (sym (when_some n 1 (suc (suc n))))

-- the token isn't low
high_here : (last first : ℕ) (found : Option Cut) (before : Span) (start : ℕ) (token next : Token) (tokens : List Token)
    → LowForm found (record { start = start; end = token.end }) start first last next tokens
    → LowForm found before start (suc first) (cond (nat_eq last 0) 0 (suc last)) token (next ∷ tokens)
high_here zero first found before start token next tokens h = h
high_here (suc n) first found before start token next tokens h =
    h ∙ when_some n None _
    ∙ ap (λ f. Some (record { front = f; start = start_of first next tokens })) (front_more first before start token next tokens)
    ∙ sym (when_some (suc n) None (Some (low_of (suc first) before start token (next ∷ tokens))))
    ∙ ap (λ k. cond (nat_eq k 0) None (Some (low_of (suc first) before start token (next ∷ tokens)))) (sym (when_some n 0 (suc (suc n))))

abbrev LowCase : Bool → ℕ → Span → Token → Token → List Token → Type 0
LowCase low start before token next tokens =
    LowForm
    (low_fold start (record { start = start; end = token.end })
    (cond low (Some (record { front = before; start = token.start })) None) next tokens)
    before start
    (cond (not low) (suc (front is_high (but_last (next ∷ tokens)))) 0)
    (cond (nat_eq (kept is_high (but_last (next ∷ tokens))) 0) (cond (not low) 0 1) (suc (kept is_high (but_last (next ∷ tokens)))))
    token (next ∷ tokens)

low_case : (low : Bool) (start : ℕ) (before : Span) (token next : Token) (tokens : List Token)
    → LowForm (low_fold start (record { start = start; end = token.end }) None next tokens)
    (record { start = start; end = token.end }) start
    (front is_high (but_last (next ∷ tokens))) (kept is_high (but_last (next ∷ tokens))) next tokens
    → LowCase low start before token next tokens
low_case true start before token next tokens h =
    low_kept start (record { start = start; end = token.end }) (record { front = before; start = token.start }) next tokens
    ∙ low_here (kept is_high (but_last (next ∷ tokens))) (record { front = before; start = token.start })
low_case false start before token next tokens h =
    high_here (kept is_high (but_last (next ∷ tokens))) (front is_high (but_last (next ∷ tokens))) _ before start token next tokens h

low_found : (start : ℕ) (before : Span) (token : Token) (tokens : List Token)
    → LowForm (low_fold start before None token tokens) before start (von_start (token ∷ tokens)) (von_end (token ∷ tokens))
    token tokens
low_found start before token [] = refl
low_found start before token (next ∷ tokens) =
    low_case token.low start before token next tokens
    (low_found start (record { start = start; end = token.end }) next tokens)

-- the stretch of some of the tokens
last_taken : (count : ℕ) (token : Token) (tokens : List Token) → count ≤ length tokens
    → last_end token (take count tokens) ≡ end_of (suc count) token tokens
last_taken zero token tokens h = refl
last_taken (suc count) token [] h = absurd (omega arith)
last_taken (suc count) token (next ∷ tokens) h = last_taken count next tokens (omega arith)

pub whole_drop : (count : ℕ) (token : Token) (tokens : List Token) → count ≤ length tokens
    → whole (drop count (token ∷ tokens)) ≡ record { start = start_of count token tokens; end = last_end token tokens }
whole_drop zero token tokens h = refl
whole_drop (suc count) token [] h = absurd (omega arith)
whole_drop (suc count) token (next ∷ tokens) h = whole_drop count next tokens (omega arith)

pub but_last_length : (token : Token) (tokens : List Token) → length (but_last (token ∷ tokens)) ≡ length tokens
but_last_length token [] = refl
but_last_length token (next ∷ tokens) = ap suc (but_last_length next tokens)

front_is : (count : ℕ) (token : Token) (tokens : List Token) → count ≤ length tokens
    → front_of count empty token.start token tokens ≡ whole (take count (token ∷ tokens))
front_is zero token tokens h = refl
front_is (suc count) token tokens h =
    ap (λ n. record { start = token.start; end = n }) (sym (last_taken count token tokens (omega arith)))

-- a cut and the end of the last token are a split
split_is : (count : ℕ) (token : Token) (tokens : List Token) → count ≤ length tokens
    → finished (last_end token tokens) (Some (low_of count empty token.start token tokens))
    ≡ Some (split_at count (token ∷ tokens))
split_is count token tokens h =
    ap (λ f. Some (record { front = f; back = record { start = start_of count token tokens; end = last_end token tokens } }))
    (front_is count token tokens h)
    ∙ ap (λ b. Some (record { front = whole (take count (token ∷ tokens)); back = b })) (sym (whole_drop count token tokens h))

finished_cond : (end : ℕ) (test : Bool) (cut : Cut) → finished end (cond test None (Some cut)) ≡ cond test None (finished end (Some cut))
finished_cond end true cut = refl
finished_cond end false cut = refl

pub low_split : (token : Token) (tokens : List Token)
    → finished (last_end token tokens) (low_fold token.start empty None token tokens)
    ≡ unless_zero (von_end (token ∷ tokens)) (split_at (von_start (token ∷ tokens)) (token ∷ tokens))
low_split token tokens =
    let within : von_start (token ∷ tokens) ≤ length (but_last (token ∷ tokens)) = front_within is_high (but_last (token ∷ tokens)) in
    let same : length (but_last (token ∷ tokens)) ≡ length tokens = but_last_length token tokens in
    ap (finished (last_end token tokens)) (low_found token.start empty token tokens)
    ∙ finished_cond (last_end token tokens) (nat_eq (von_end (token ∷ tokens)) 0) _
    ∙ ap (λ s. cond (nat_eq (von_end (token ∷ tokens)) 0) None s) (split_is (von_start (token ∷ tokens)) token tokens (omega arith))

-- a cut after some tokens is one before a token of a number above 0
cut_is_low : (count : ℕ) (token : Token) (tokens : List Token)
    → cond (nat_eq count 0) None (Some (cut_of token.start count token tokens))
    ≡ cond (nat_eq count 0) None (Some (low_of count empty token.start token tokens))
cut_is_low zero token tokens = refl
cut_is_low (suc n) token tokens = refl

pub cut_split : (test : Token → Bool) (token : Token) (tokens : List Token)
    → finished (last_end token tokens) (cut_fold test token.start None token tokens)
    ≡ unless_zero (kept test (but_last (token ∷ tokens))) (split_at (kept test (but_last (token ∷ tokens))) (token ∷ tokens))
cut_split test token tokens =
    let count : ℕ = kept test (but_last (token ∷ tokens)) in
    let within : count ≤ length (but_last (token ∷ tokens)) = kept_within test (but_last (token ∷ tokens)) in
    let same : length (but_last (token ∷ tokens)) ≡ length tokens = but_last_length token tokens in
    ap (finished (last_end token tokens)) (cut_found test token.start None token tokens ∙ cut_is_low count token tokens)
    ∙ finished_cond (last_end token tokens) (nat_eq count 0) _
    ∙ ap (λ s. cond (nat_eq count 0) None s) (split_is count token tokens (omega arith))

-- at the end of the walk
pub walked : (tokens : List Token) (token : Token) (rest : List Token) (end : ℕ) (low von chain : Option Cut)
    (all : Span) (x y z : Option Split)
    → all ≡ record { start = token.start; end = end } → x ≡ finished end low → y ≡ finished end von → z ≡ finished end chain
    → tokens ≡ token ∷ rest → end ≡ last_end token rest
    → low ≡ low_fold token.start empty None token rest
    → von ≡ cut_fold is_high token.start None token rest
    → chain ≡ cut_fold is_tied token.start None token rest
    → record { all = all; low = x; von = y; chain = z } ≡ survey_of tokens
walked tokens token rest end low von chain all x y z a f g h is e l v c =
    let whole_list : List Token = token ∷ rest in
    let stop : ℕ = last_end token rest in
    let all_is : all ≡ whole whole_list = a ∙ ap (λ n. record { start = token.start; end = n }) e in
    let low_is : x ≡ (survey_of whole_list).low =
    f ∙ ap (λ n. finished n low) e ∙ ap (finished stop) l ∙ low_split token rest in
    let von_is : y ≡ (survey_of whole_list).von =
    g ∙ ap (λ n. finished n von) e ∙ ap (finished stop) v ∙ cut_split is_high token rest in
    let chain_is : z ≡ (survey_of whole_list).chain =
    h ∙ ap (λ n. finished n chain) e ∙ ap (finished stop) c ∙ cut_split is_tied token rest in
    ap (λ s. record { all = s; low = x; von = y; chain = z }) all_is
    ∙ ap (λ s. record { all = whole whole_list; low = s; von = y; chain = z }) low_is
    ∙ ap (λ s. record { all = whole whole_list; low = (survey_of whole_list).low; von = s; chain = z }) von_is
    ∙ ap (λ s. record { all = whole whole_list; low = (survey_of whole_list).low; von = (survey_of whole_list).von; chain = s }) chain_is
    ∙ ap survey_of (sym is)
