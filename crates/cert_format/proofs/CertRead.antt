-- A certificate that is read spells the text, and keeps the limits.
use Rattle.std.proofs.Common.{◌≡◌, ℕ, ◌+◌, ◌<◌, ◌≤◌, Bool, true, false, ◌&&◌, cond, nat_eq, nat_lt, nat_le, List, [], ◌∷◌, ◌++◌, length, length-append, map, Option, Some, None, IfSome, Ok, codes, lit≤, refl, sym, ap, subst, ◌∙◌, append_assoc, arith}
use Rattle.std.specs.Fmt.{decimal}
use Rattle.std.specs.Option.{option_map}
use Rattle.std.proofs.lemmas.Bool.{and_parts}
use Rattle.std.proofs.lemmas.Bool.Decides.{nat_tests}
use Rattle.std.proofs.lemmas.List.{append-nil}
use Rattle.bst_meaning.specs.declared.condition.Cond.{Cond}
use Rattle.bst_meaning.specs.declared.value.Target.{Target}
use Rattle.bv_base.proofs.ThenLemmas.{ok_is, then_ok, unless_ok}
use Rattle.name_table.specs.Sound.{Each}
use Rattle.name_table.specs.declared.style.Style.{Style}
use Rattle.sym_state.specs.declared.piece.Piece.{Piece}
use Rattle.sym_state.proofs.Consequences.{same_bytes}
use Rattle.cert_format.specs.declared.limits.TheConstants.{MOST_LIST}
use Rattle.cert_format.specs.CertText.{IsCert, IsCommandPart, IsLoop, IsNameable, IsPiece, IsSummary}
use Rattle.cert_format.specs.Certs as certs
use Rattle.cert_format.specs.CondText.{IsCond, is_chain}
use Rattle.cert_format.specs.Conditions as conditions
use Rattle.cert_format.specs.HintSpelling.{hints_lines}
use Rattle.cert_format.specs.Items.{expected, is_word, positive}
use Rattle.cert_format.specs.Lines.{Item, Line, lines_of, next_item, with_item}
use Rattle.cert_format.specs.Spelling.{cond_items, text_of}
use Rattle.cert_format.specs.Texts.{cert_of}
use Rattle.cert_format.specs.UnitSpelling.{all_marked, body_text, cert_lines, command_lines, each_lines, head_lines, loop_lines, marked_lines, maybe_marked, summary_lines}
use Rattle.cert_format.specs.Units as units
use Rattle.cert_format.specs.declared.cert.Cert.{Cert}
use Rattle.cert_format.specs.declared.cert.CommandPart.{CommandPart}
use Rattle.cert_format.specs.declared.cert_lines.CertSoFar.{CertSoFar}
use Rattle.cert_format.specs.declared.cond_lines.CondSoFar.{CondSoFar}
use Rattle.cert_format.specs.declared.stages.CertStage.{CertStage}
use Rattle.cert_format.specs.declared.stages.CertStage.TheVariants as stage
use Rattle.cert_format.specs.declared.stages.CondStage.{CondStage}
use Rattle.cert_format.specs.declared.stages.CondStage.TheVariants as part
use Rattle.cert_format.specs.declared.stages.UnitKind.{UnitKind}
use Rattle.cert_format.specs.declared.stages.UnitKind.TheVariants as unit
use Rattle.cert_format.specs.declared.stages.UnitStage.{UnitStage}
use Rattle.cert_format.specs.declared.stages.UnitStage.TheVariants as ustage
use Rattle.cert_format.specs.declared.unit_lines.UnitSoFar.{UnitSoFar}
use Rattle.cert_format.proofs.CertItems.{positive_read}
use Rattle.cert_format.proofs.CertBodies.{each_more}
use Rattle.cert_format.proofs.CertKept.{ended_read, last_read}
use Rattle.cert_format.proofs.CertSteps.{in_back}
use Rattle.cert_format.proofs.CertTargets.{command_read, target_read}
use Rattle.cert_format.proofs.CertUnitRead.{unit_read}
use Rattle.cert_format.proofs.CertUnits.{CountAt, Full, Good, Headless, Lines, Shape, UnitKept, body_of, closed, closed_of, first_items, first_post, hints_at, kept_of, one_if, unit_spelled}
use Rattle.cert_format.proofs.CondKept.{chain_snoc, each_snoc, kept_at, none_kept}
use Rattle.cert_format.proofs.CondRead.{Has, item_before, next_is, word_is}
use Rattle.cert_format.proofs.CondSteps.{Fits, spelled, step_at, told_ok}
use Rattle.cert_format.proofs.Split.{AllEnded, Ended, split_text, texts}

-- the first line
abbrev pub header : ℕ → List (List ℕ)
header list = codes "bstcert" ∷ (decimal list ∷ [])

-- the units that have been read
abbrev pub units_lines : Style → Cert → Lines
units_lines style c =
    each_lines (summary_lines style) c.summaries ++ (each_lines (loop_lines style) c.loops ++ each_lines (command_lines style) c.commands)

-- what has been read where no unit is open
abbrev pub before : Style → Cert → Lines
before style c = header c.list ∷ (cond_items style.names c.cond ++ units_lines style c)

-- the lines that have been read at each stage
abbrev pub spelled_at : Style → CertStage → CertSoFar → Lines
spelled_at style stage.Header p = []
spelled_at style stage.Cond p = header p.list ∷ spelled style.names p.cond.stage p.cond.cond
spelled_at style stage.Units p = before style (certs.cert_so_far p)
spelled_at style stage.InUnit p = before style (certs.cert_so_far p) ++ unit_spelled style p.unit
spelled_at style stage.Done p = before style (certs.cert_so_far p) ++ (codes "done" ∷ []) ∷ []

-- no unit has come
abbrev NoUnits : CertSoFar → Type 0
NoUnits p = (p.summaries ≡ []) × (p.loops ≡ []) × (p.commands ≡ [])

-- the condition so far keeps its limits
record CondPart (style : Style) (list : ℕ) (cond : CondSoFar) : Type 0 where
  pub list_some : 1 ≤ list
  pub list_small : list ≤ 1
  pub fits : Fits cond.stage cond.cond
  pub is : IsCond style.names cond.cond

-- a unit of this kind may be open
abbrev KindKept : Style → UnitKind → Cert → Type 0
KindKept style (unit.Summary entered) c = IsNameable style entered × (c.loops ≡ []) × (c.commands ≡ []) × (length c.summaries < 65536)
KindKept style (unit.Loop test repeated) c = IsNameable style test × IsNameable style repeated × (c.commands ≡ []) × (length c.loops < 65536)
KindKept style (unit.Command index) c =
    (index < length style.commands) × (index ≤ 1073741824) × (certs.comes_after (certs.last_command c.commands) index ≡ true)

-- what has been read keeps the limits
abbrev KeptAt : Style → CertStage → CertSoFar → Type 0
KeptAt style stage.Header p = (p.cond ≡ conditions.no_lines) × NoUnits p
KeptAt style stage.Cond p = CondPart style p.list p.cond × NoUnits p
KeptAt style stage.Units p = IsCert style (certs.cert_so_far p)
KeptAt style stage.InUnit p = IsCert style (certs.cert_so_far p) × UnitKept style p.unit × KindKept style p.unit.kind (certs.cert_so_far p)
KeptAt style stage.Done p = IsCert style (certs.cert_so_far p)

-- a line that is read is spelled behind those before it
record CertStep (style : Style) (s : CertStage) (p : CertSoFar) (line : Line) (q : CertSoFar) : Type 0 where
  pub goes : spelled_at style q.stage q ≡ spelled_at style s p ++ texts line ∷ []
  pub ends : Ended line
  pub kept : KeptAt style q.stage q

cert_step : (style : Style) (s : CertStage) (p : CertSoFar) (line : Line) (q next : CertSoFar) (here : List (List ℕ)) → q ≡ next
    → spelled_at style next.stage next ≡ spelled_at style s p ++ here ∷ [] → Has line here → KeptAt style next.stage next → CertStep style s p line q
cert_step style s p line q next here is goes has kept =
    let step : CertStep style s p line next =
    record {
      goes = goes ∙ ap (λ (i : List (List ℕ)). spelled_at style s p ++ i ∷ []) (sym has.items);
      ends = has.ends;
      kept = kept;
    } in
    subst (λ (r : CertSoFar). CertStep style s p line r) (sym is) step

-- `bstcert` and the number of a list
header_step : (style : Style) (p : CertSoFar) (word : Item) (rest line : Line) (q : CertSoFar) → line ≡ with_item word rest
    → KeptAt style stage.Header p → certs.header_line word rest p ≡ Ok q → CertStep style stage.Header p line q
header_step style p word rest line q is kept e =
    let names = style.names in
    let w = then_ok (expected (codes "bstcert") word) _ _ e in
    let make : ℕ → CertSoFar = λ n. record p { stage = stage.Cond; list = n } in
    let l = last_read (positive MOST_LIST) make rest q w.2 in
    let r = positive_read MOST_LIST l.item l.value (omega arith) l.got in
    let fits : Fits part.Entries conditions.no_lines.cond = record { names = λ f. refl; nonblank = λ f. refl; types = λ f. refl } in
    let start : CondPart style l.value conditions.no_lines =
    record { list_some = r.1; list_small = r.2; fits = fits; is = none_kept names } in
    cert_step style stage.Header p line q (make l.value) (header l.value) l.is
    (ap (λ (c : CondSoFar). header l.value ∷ spelled names c.stage c.cond) kept.0)
    (item_before line word rest (codes "bstcert") (decimal l.value ∷ []) is (word_is (codes "bstcert") word w.0 w.1) (l.has (decimal l.value) r.0))
    (subst (λ (c : CondSoFar). CondPart style l.value c) (sym kept.0) start, kept.1)

-- what has been read with a condition at a stage
abbrev with_cond : CondStage → Cond → CertSoFar → CertSoFar
with_cond s c p = record p { stage = certs.after_cond s; cond = record { stage = s; cond = c } }

units_none : (style : Style) (p : CertSoFar) → NoUnits p → units_lines style (certs.cert_so_far p) ≡ []
units_none style p none =
    ap (λ l. each_lines (summary_lines style) l ++ (each_lines (loop_lines style) p.loops ++ each_lines (command_lines style) p.commands)) none.0
    ∙ ap (λ l. each_lines (loop_lines style) l ++ each_lines (command_lines style) p.commands) none.1
    ∙ ap (each_lines (command_lines style)) none.2

cond_spelled_at : (style : Style) (s : CondStage) (c : Cond) (p : CertSoFar) → NoUnits p
    → spelled_at style (certs.after_cond s) (with_cond s c p) ≡ header p.list ∷ spelled style.names s c
cond_spelled_at style part.Done c p none =
    ap (λ (l : Lines). header p.list ∷ (cond_items style.names c ++ l)) (units_none style p none)
    ∙ ap (λ (l : Lines). header p.list ∷ l) (append-nil (cond_items style.names c))
cond_spelled_at style part.Entries c p none = refl
cond_spelled_at style part.Key c p none = refl
cond_spelled_at style part.Preamble c p none = refl
cond_spelled_at style part.Length c p none = refl
cond_spelled_at style part.Names c p none = refl
cond_spelled_at style part.Nonblank c p none = refl
cond_spelled_at style part.Types c p none = refl
cond_spelled_at style part.End c p none = refl

each_empty : {A : Type 0} (P : A → Type 0) (xs : List A) → xs ≡ [] → Each P xs
each_empty P xs none = subst (λ l. Each P l) (sym none) tt

few_none : {A : Type 0} (xs : List A) → xs ≡ [] → length xs ≤ 65536
few_none xs none = subst (λ l. length l ≤ 65536) (sym none) (lit≤ tt)

before_units : (style : Style) (c : Cond) (p : CertSoFar) → NoUnits p → 1 ≤ p.list → p.list ≤ 1 → IsCond style.names c
    → IsCert style (certs.cert_so_far (with_cond part.Done c p))
before_units style c p none some small is =
    record {
      list = (some, small);
      cond = is;
      summaries = each_empty (IsSummary style) p.summaries none.0;
      few_summaries = few_none p.summaries none.0;
      loops = each_empty (IsLoop style) p.loops none.1;
      few_loops = few_none p.loops none.1;
      commands = each_empty (IsCommandPart style) p.commands none.2;
      rise = ap (λ (l : List CommandPart). is_chain (λ a b. nat_lt a.index b.index) l) none.2;
    }

cond_kept_at : (style : Style) (s : CondStage) (c : Cond) (p : CertSoFar) → NoUnits p → CondPart style p.list (record { stage = s; cond = c })
    → KeptAt style (certs.after_cond s) (with_cond s c p)
cond_kept_at style part.Done c p none is = before_units style c p none is.list_some is.list_small is.is
cond_kept_at style part.Entries c p none is = (is, none)
cond_kept_at style part.Key c p none is = (is, none)
cond_kept_at style part.Preamble c p none is = (is, none)
cond_kept_at style part.Length c p none is = (is, none)
cond_kept_at style part.Names c p none is = (is, none)
cond_kept_at style part.Nonblank c p none is = (is, none)
cond_kept_at style part.Types c p none is = (is, none)
cond_kept_at style part.End c p none is = (is, none)

-- a line of the condition
cond_step : (style : Style) (p : CertSoFar) (word : Item) (rest line : Line) (q : CertSoFar) → line ≡ with_item word rest
    → KeptAt style stage.Cond p → certs.in_cond style word rest p ≡ Ok q → CertStep style stage.Cond p line q
cond_step style p word rest line q is kept e =
    let names = style.names in
    let a = then_ok (conditions.worded_line names p.cond.stage word rest p.cond) _ _ e in
    let s = step_at names p.cond.stage p.cond.cond word rest line a.0 is kept.0.fits a.1 in
    let k = kept_at names p.cond.stage p.cond.cond word rest a.0 kept.0.is a.1 in
    let next : CertSoFar = with_cond a.0.stage a.0.cond p in
    let now : CondPart style p.list a.0 = record { list_some = kept.0.list_some; list_small = kept.0.list_small; fits = s.fits; is = k } in
    cert_step style stage.Cond p line q next (texts line) (ok_is next q a.2)
    (cond_spelled_at style a.0.stage a.0.cond p kept.1 ∙ ap (λ (l : Lines). header p.list ∷ l) s.goes)
    (record { items = refl; ends = s.ends }) (cond_kept_at style a.0.stage a.0.cond p kept.1 now)

-- a unit of which the first line has been read
opened : (style : Style) (kind : UnitKind) → Shape (units.first_stage kind) None kind (units.no_unit kind) → Good style kind false (units.no_unit kind)
    → CountAt None kind 0 (units.no_unit kind) → Headless kind (units.first_stage kind) false false [] → UnitKept style (units.no_unit kind)
opened style kind shape good count headless =
    kept_of style (units.no_unit kind) (λ h. refl) (λ h. refl) (λ h. refl) (λ h. refl) (λ h. refl) (tt, refl) shape good tt count (lit≤ tt) tt headless

under : (most n : ℕ) → nat_le most n ≡ false → n < most
under most n e = grind (arith, nat_tests)

none_of : {A : Type 0} (xs : List A) → certs.has_none xs ≡ true → xs ≡ []
none_of [] e = refl
none_of (x ∷ xs) e = absurd (omega (arith, zero_is (length (x ∷ xs)) e))
  where
    zero_is : (n : ℕ) → nat_eq n 0 ≡ true → n ≡ 0
    zero_is n e = grind (arith, nat_tests)

-- `summary` BODY
summary_step : (style : Style) (p : CertSoFar) (word : Item) (rest line : Line) (q : CertSoFar) → line ≡ with_item word rest
    → KeptAt style stage.Units p → word.text ≡ codes "summary" → certs.is_before_loops p ≡ true → certs.summary_line style word rest p ≡ Ok q
    → CertStep style stage.Units p line q
summary_step style p word rest line q is kept said early e =
    let few = unless_ok (nat_le 65536 (length p.summaries)) _ _ _ e in
    let make : Target → CertSoFar = λ t. certs.begun_unit (unit.Summary t) p in
    let l = last_read (certs.body style) make rest q few.1 in
    let r = target_read style l.item l.value l.got in
    let both = and_parts (certs.has_none p.loops) (certs.has_none p.commands) early in
    cert_step style stage.Units p line q (make l.value) (first_items style (unit.Summary l.value)) l.is refl
    (item_before line word rest (codes "summary") (body_text style l.value ∷ []) is said (l.has (body_text style l.value) r.0))
    (kept, opened style (unit.Summary l.value) (refl, refl, refl) (tt, tt, refl) refl tt, (r.1, none_of p.loops both.0, none_of p.commands both.1, under 65536 (length p.summaries) few.0))

-- `loop` BODY BODY
loop_step : (style : Style) (p : CertSoFar) (word : Item) (rest line : Line) (q : CertSoFar) → line ≡ with_item word rest
    → KeptAt style stage.Units p → word.text ≡ codes "loop" → certs.has_none p.commands ≡ true → certs.loop_line style word rest p ≡ Ok q
    → CertStep style stage.Units p line q
loop_step style p word rest line q is kept said early e =
    let few = unless_ok (nat_le 65536 (length p.loops)) _ _ _ e in
    let a = then_ok (next_item rest) _ _ few.1 in
    let b = then_ok (certs.body style a.0.0) _ _ a.2 in
    let t = target_read style a.0.0 b.0 b.1 in
    let make : Target → CertSoFar = λ x. certs.begun_unit (unit.Loop b.0 x) p in
    let l = last_read (certs.body style) make a.0.1 q b.2 in
    let r = target_read style l.item l.value l.got in
    let inner = item_before rest a.0.0 a.0.1 (body_text style b.0) (body_text style l.value ∷ []) (next_is rest a.0.0 a.0.1 a.1) t.0 (l.has (body_text style l.value) r.0) in
    cert_step style stage.Units p line q (make l.value) (first_items style (unit.Loop b.0 l.value)) l.is refl
    (item_before line word rest (codes "loop") _ is said inner)
    (kept, opened style (unit.Loop b.0 l.value) (refl, refl) (tt, tt) refl tt, (t.1, r.1, none_of p.commands early, under 65536 (length p.loops) few.0))

-- `command` N
command_step : (style : Style) (p : CertSoFar) (word : Item) (rest line : Line) (q : CertSoFar) → line ≡ with_item word rest
    → KeptAt style stage.Units p → word.text ≡ codes "command" → certs.command_line style rest p ≡ Ok q → CertStep style stage.Units p line q
command_step style p word rest line q is kept said e =
    let make : ℕ → CertSoFar = λ n. certs.begun_unit (unit.Command n) p in
    let l = last_read (certs.command_number (length style.commands) (certs.last_command p.commands)) make rest q e in
    let r = command_read (length style.commands) (certs.last_command p.commands) l.item l.value l.got in
    cert_step style stage.Units p line q (make l.value) (first_items style (unit.Command l.value)) l.is refl
    (item_before line word rest (codes "command") (decimal l.value ∷ []) is said (l.has (decimal l.value) r.said))
    (kept, opened style (unit.Command l.value) (refl, refl, refl) (tt, tt, tt) tt (lit≤ tt, refl, refl, refl), (r.there, r.small, r.behind))

-- `done`
done_step : (style : Style) (p : CertSoFar) (word : Item) (rest line : Line) (q : CertSoFar) → line ≡ with_item word rest
    → KeptAt style stage.Units p → certs.done_line word rest p ≡ Ok q → CertStep style stage.Units p line q
done_step style p word rest line q is kept e =
    let w = then_ok (expected (codes "done") word) _ _ e in
    let next : CertSoFar = record p { stage = stage.Done } in
    let r = ended_read rest next q w.2 in
    cert_step style stage.Units p line q next (codes "done" ∷ []) r.0 refl
    (item_before line word rest (codes "done") [] is (word_is (codes "done") word w.0 w.1) r.1) kept

-- the first line of a unit, or `done`
units_step : (style : Style) (p : CertSoFar) (word : Item) (rest line : Line) (q : CertSoFar) (a b c : Bool) → line ≡ with_item word rest
    → KeptAt style stage.Units p → is_word (codes "summary") word && certs.is_before_loops p ≡ a
    → is_word (codes "loop") word && certs.has_none p.commands ≡ b → is_word (codes "command") word ≡ c
    → cond a (certs.summary_line style word rest p)
    (cond b (certs.loop_line style word rest p) (cond c (certs.command_line style rest p) (certs.done_line word rest p))) ≡ Ok q
    → CertStep style stage.Units p line q
units_step style p word rest line q true b c is kept first second third e =
    let both = and_parts (is_word (codes "summary") word) (certs.is_before_loops p) first in
    summary_step style p word rest line q is kept (same_bytes word.text (codes "summary") both.0) both.1 e
units_step style p word rest line q false true c is kept first second third e =
    let both = and_parts (is_word (codes "loop") word) (certs.has_none p.commands) second in
    loop_step style p word rest line q is kept (same_bytes word.text (codes "loop") both.0) both.1 e
units_step style p word rest line q false false true is kept first second third e =
    command_step style p word rest line q is kept (same_bytes word.text (codes "command") third) e
units_step style p word rest line q false false false is kept first second third e = done_step style p word rest line q is kept e

-- a unit that has all its lines
record Whole (style : Style) (kind : UnitKind) (u : UnitSoFar) : Type 0 where
  pub spelled : unit_spelled style u ≡ first_items style kind ∷ (head_lines style.names u.entry u.whole u.writes ++ (body_of style.names kind (closed_of u) ++ hints_lines u.hints))
  pub full : Full kind u
  pub good : Good style kind u.entry u
  pub count : CountAt None kind u.count u
  pub headless : Headless kind u.stage u.entry u.whole u.writes

done_is : (s : UnitStage) → units.is_done s ≡ true → s ≡ ustage.Done
done_is ustage.Done e = refl
done_is _ e = absurd (cc)

whole : (style : Style) (kind : UnitKind) (u : UnitSoFar) → u.kind ≡ kind → units.is_done u.stage ≡ true → UnitKept style u → Whole style kind u
whole style kind u is done kept =
    let names = style.names in
    let at = done_is u.stage done in
    let shape : Full u.kind u × (u.last ≡ None) = subst (λ (t : UnitStage). Shape t u.last u.kind u) at kept.shape in
    let head = head_lines names u.entry u.whole u.writes in
    record {
      spelled = ap (λ (k : UnitKind). first_items style k ∷ (head ++ (body_of names k (closed_of (closed u)) ++ hints_at u.stage u.hints))) is
          ∙ ap (λ l. first_items style kind ∷ (head ++ (body_of names kind (closed_of (units.placed_as l u.piece u)) ++ hints_at u.stage u.hints))) shape.1
          ∙ ap (λ (t : UnitStage). first_items style kind ∷ (head ++ (body_of names kind (closed_of u) ++ hints_at t u.hints))) at;
      full = subst (λ (k : UnitKind). Full k u) is shape.0;
      good = subst (λ (k : UnitKind). Good style k u.entry u) is kept.good;
      count = subst (λ (k : UnitKind). CountAt None k u.count u) is (subst (λ l. CountAt l u.kind u.count u) shape.1 kept.count);
      headless = subst (λ (k : UnitKind). Headless k u.stage u.entry u.whole u.writes) is kept.headless;
    }

-- a unit as a summary
summary_spelled : (style : Style) (entered : Target) (u : UnitSoFar) → Whole style (unit.Summary entered) u
    → unit_spelled style u ≡ summary_lines style (certs.summary_of entered u)
summary_spelled style entered u w =
    let names = style.names in
    let posts = all_marked (codes "post") names u.later in
    let front : Lines → Lines = λ l. first_items style (unit.Summary entered) ∷ (head_lines names u.entry u.whole u.writes ++ l) in
    w.spelled
    ∙ ap front (append_assoc (maybe_marked (codes "pre") names u.pre) posts (hints_lines u.hints)
    ∙ ap (λ (l : Lines). l ++ (posts ++ hints_lines u.hints))
    (ap (maybe_marked (codes "pre") names) w.full.1 ∙ ap (λ o. marked_lines (codes "pre") names (certs.or_nothing o)) (sym w.full.1)))

if_some : (o : Option Piece) (piece : Piece) (P : Piece → Type 0) → o ≡ Some piece → IfSome o P → P (certs.or_nothing o)
if_some o piece P is h = subst (λ x. P (certs.or_nothing x)) (sym is) (subst (λ x. IfSome x P) is h)

summary_is : (style : Style) (entered : Target) (u : UnitSoFar) → IsNameable style entered → Whole style (unit.Summary entered) u → UnitKept style u
    → IsSummary style (certs.summary_of entered u)
summary_is style entered u nameable w kept =
    let post : first_post u.pre ≡ first_post (Some (certs.or_nothing u.pre)) =
    ap first_post w.full.1 ∙ ap (λ o. first_post (Some (certs.or_nothing o))) (sym w.full.1) in
    let one : one_if u.pre ≡ 1 = ap one_if w.full.1 in
    record {
      body = nameable;
      writes = kept.writes;
      pre = if_some u.pre w.full.0 (IsPiece style u.entry u.entry 0) w.full.1 w.good.0;
      posts = subst (λ (n : ℕ). Each (IsPiece style u.entry u.entry n) u.later) post w.good.1;
      few = omega (arith, kept.few, w.count, one);
      hints = kept.hints;
    }

-- a unit as a loop
loop_spelled : (style : Style) (test repeated : Target) (u : UnitSoFar) → Whole style (unit.Loop test repeated) u
    → unit_spelled style u ≡ loop_lines style (certs.loop_of test repeated u)
loop_spelled style test repeated u w =
    let names = style.names in
    let front : Lines → Lines = λ l. first_items style (unit.Loop test repeated) ∷ (head_lines names u.entry u.whole u.writes ++ l) in
    w.spelled ∙ ap front (append_assoc (all_marked (codes "case") names u.cases) (all_marked (codes "exit") names u.later) (hints_lines u.hints))

loop_is : (style : Style) (test repeated : Target) (u : UnitSoFar) → IsNameable style test → IsNameable style repeated
    → Whole style (unit.Loop test repeated) u → UnitKept style u → IsLoop style (certs.loop_of test repeated u)
loop_is style test repeated u first second w kept =
    record {
      test = first;
      body = second;
      writes = kept.writes;
      cases = w.good.0;
      exits = w.good.1;
      some = w.full;
      few = omega (arith, kept.few, w.count);
      hints = kept.hints;
    }

-- a unit as what belongs to a command
command_spelled : (style : Style) (index : ℕ) (u : UnitSoFar) → Whole style (unit.Command index) u
    → unit_spelled style u ≡ command_lines style (certs.command_of index u)
command_spelled style index u w =
    let names = style.names in
    let after = maybe_marked (codes "after") names u.after in
    let visit = maybe_marked (codes "visit") names u.visit in
    let keeps = maybe_marked (codes "keeps") names u.keeps in
    let hints = hints_lines u.hints in
    let first = first_items style (unit.Command index) in
    w.spelled
    ∙ ap (λ (b : Bool). first ∷ (head_lines names b u.whole u.writes ++ ((after ++ (visit ++ keeps)) ++ hints))) w.headless.1
    ∙ ap (λ (b : Bool). first ∷ (head_lines names false b u.writes ++ ((after ++ (visit ++ keeps)) ++ hints))) w.headless.2
    ∙ ap (λ l. first ∷ (head_lines names false false l ++ ((after ++ (visit ++ keeps)) ++ hints))) w.headless.3
    ∙ ap (λ (l : Lines). first ∷ l) (append_assoc after (visit ++ keeps) hints ∙ ap (λ (l : Lines). after ++ l) (append_assoc visit keeps hints))

command_is : (style : Style) (index : ℕ) (u : UnitSoFar) → index < length style.commands → index ≤ 1073741824 → Whole style (unit.Command index) u
    → UnitKept style u → IsCommandPart style (certs.command_of index u)
command_is style index u there small w kept =
    record { there = there; small = small; after = w.good.0; visit = w.good.1; keeps = w.good.2; hints = kept.hints }

-- a unit that is finished stands behind those before it
record Finished (style : Style) (p : CertSoFar) (u : UnitSoFar) (q : CertSoFar) : Type 0 where
  pub at : q.stage ≡ stage.Units
  pub goes : before style (certs.cert_so_far q) ≡ before style (certs.cert_so_far p) ++ unit_spelled style u
  pub kept : IsCert style (certs.cert_so_far q)

few_more : {A : Type 0} (xs : List A) (x : A) → length xs < 65536 → length (xs ++ x ∷ []) ≤ 65536
few_more xs x few =
    let long : length (xs ++ x ∷ []) ≡ length xs + length (x ∷ []) = length-append xs (x ∷ []) in omega (arith, long, few)

behind_all : (front a b x : Lines) (m : Lines) → b ≡ a ++ x → m ≡ [] → front ++ (b ++ m) ≡ (front ++ (a ++ m)) ++ x
behind_all front a b x m e none =
    ap (λ (l : Lines). front ++ (b ++ l)) none
    ∙ ap (λ (l : Lines). front ++ l) (append-nil b ∙ e)
    ∙ sym (append_assoc front a x)
    ∙ ap (λ (l : Lines). (front ++ l) ++ x) (sym (append-nil a))
    ∙ ap (λ (l : Lines). (front ++ (a ++ l)) ++ x) (sym none)

-- commands go upwards
abbrev pub fits_command : Option CommandPart → CommandPart → Bool
fits_command last command = certs.comes_after (option_map (λ c. c.index) last) command.index

finish : (style : Style) (kind : UnitKind) (p : CertSoFar) (u : UnitSoFar) → Whole style kind u → UnitKept style u
    → KindKept style kind (certs.cert_so_far p) → IsCert style (certs.cert_so_far p)
    → Finished style p u (certs.with_unit kind u (record p { stage = stage.Units; unit = units.no_unit (unit.Command 0) }))
finish style (unit.Summary entered) p u w kept kind is =
    let x = certs.summary_of entered u in
    let conds = cond_items style.names p.cond.cond in
    let f = summary_lines style in
    let s = each_lines f p.summaries in
    let rest = each_lines (loop_lines style) p.loops ++ each_lines (command_lines style) p.commands in
    let none : rest ≡ [] =
    ap (λ l. each_lines (loop_lines style) l ++ each_lines (command_lines style) p.commands) kind.1 ∙ ap (each_lines (command_lines style)) kind.2 in
    record {
      at = refl;
      goes = ap (λ (l : Lines). header p.list ∷ l) (behind_all conds s (each_lines f (p.summaries ++ x ∷ [])) (f x) rest (each_more f p.summaries x) none)
          ∙ ap (λ (l : Lines). (header p.list ∷ (conds ++ (s ++ rest))) ++ l) (sym (summary_spelled style entered u w));
      kept = record {
        list = is.list;
        cond = is.cond;
        summaries = each_snoc (IsSummary style) p.summaries x is.summaries (summary_is style entered u kind.0 w kept);
        few_summaries = few_more p.summaries x kind.3;
        loops = is.loops;
        few_loops = is.few_loops;
        commands = is.commands;
        rise = is.rise;
      };
    }
finish style (unit.Loop test repeated) p u w kept kind is =
    let x = certs.loop_of test repeated u in
    let conds = cond_items style.names p.cond.cond in
    let f = loop_lines style in
    let s = each_lines (summary_lines style) p.summaries in
    let l = each_lines f p.loops in
    let rest = each_lines (command_lines style) p.commands in
    let none : rest ≡ [] = ap (each_lines (command_lines style)) kind.2 in
    record {
      at = refl;
      goes = ap (λ (k : Lines). header p.list ∷ (conds ++ k)) (behind_all s l (each_lines f (p.loops ++ x ∷ [])) (f x) rest (each_more f p.loops x) none)
          ∙ ap (λ (k : Lines). header p.list ∷ k) (sym (append_assoc conds (s ++ (l ++ rest)) (f x)))
          ∙ ap (λ (k : Lines). (header p.list ∷ (conds ++ (s ++ (l ++ rest)))) ++ k) (sym (loop_spelled style test repeated u w));
      kept = record {
        list = is.list;
        cond = is.cond;
        summaries = is.summaries;
        few_summaries = is.few_summaries;
        loops = each_snoc (IsLoop style) p.loops x is.loops (loop_is style test repeated u kind.0 kind.1 w kept);
        few_loops = few_more p.loops x kind.3;
        commands = is.commands;
        rise = is.rise;
      };
    }
finish style (unit.Command index) p u w kept kind is =
    let x = certs.command_of index u in
    let conds = cond_items style.names p.cond.cond in
    let f = command_lines style in
    let s = each_lines (summary_lines style) p.summaries in
    let l = each_lines (loop_lines style) p.loops in
    let c = each_lines f p.commands in
    record {
      at = refl;
      goes = ap (λ (k : Lines). header p.list ∷ (conds ++ (s ++ (l ++ k)))) (each_more f p.commands x)
          ∙ ap (λ (k : Lines). header p.list ∷ (conds ++ (s ++ k))) (sym (append_assoc l c (f x)))
          ∙ ap (λ (k : Lines). header p.list ∷ (conds ++ k)) (sym (append_assoc s (l ++ c) (f x)))
          ∙ ap (λ (k : Lines). header p.list ∷ k) (sym (append_assoc conds (s ++ (l ++ c)) (f x)))
          ∙ ap (λ (k : Lines). (header p.list ∷ (conds ++ (s ++ (l ++ c)))) ++ k) (sym (command_spelled style index u w));
      kept = record {
        list = is.list;
        cond = is.cond;
        summaries = is.summaries;
        few_summaries = is.few_summaries;
        loops = is.loops;
        few_loops = is.few_loops;
        commands = each_snoc (IsCommandPart style) p.commands x is.commands (command_is style index u kind.0 kind.1 w kept);
        rise = chain_snoc (λ a b. nat_lt a.index b.index) fits_command (λ a b g. g) p.commands x is.rise kind.2;
      };
    }

-- a line of a unit
unit_step_at : (style : Style) (p : CertSoFar) (word : Item) (rest line : Line) (q : CertSoFar) → line ≡ with_item word rest → p.stage ≡ stage.InUnit
    → KeptAt style stage.InUnit p → certs.in_unit style word rest p ≡ Ok q → CertStep style stage.InUnit p line q
unit_step_at style p word rest line q is at kept e =
    let a = then_ok (units.unit_line style word rest p.unit) _ _ e in
    let s = unit_read style p.unit word rest line a.0 is kept.1 a.1 in
    by_done a.0 s.goes s.ends s.kept s.kind (units.is_done a.0.stage) refl (ok_is (certs.after_unit (record p { unit = a.0 })) q a.2)
  where
    by_done : (u : UnitSoFar) → unit_spelled style u ≡ unit_spelled style p.unit ++ texts line ∷ [] → Ended line → UnitKept style u → u.kind ≡ p.unit.kind
        → (t : Bool) → units.is_done u.stage ≡ t → q ≡ cond t (certs.unit_finished (record p { unit = u })) (record p { unit = u })
        → CertStep style stage.InUnit p line q
    by_done u goes ends good kind true done same =
        let kinds : KindKept style u.kind (certs.cert_so_far p) = subst (λ (k : UnitKind). KindKept style k (certs.cert_so_far p)) (sym kind) kept.2 in
        let next : CertSoFar = certs.unit_finished (record p { unit = u }) in
        let f = finish style u.kind (record p { unit = u }) u (whole style u.kind u refl done good) good kinds kept.0 in
        cert_step style stage.InUnit p line q next (texts line) same
        (ap (λ (t : CertStage). spelled_at style t next) f.at ∙ f.goes ∙ in_back (before style (certs.cert_so_far p)) (unit_spelled style p.unit) (unit_spelled style u) (texts line) goes)
        (record { items = refl; ends = ends }) (subst (λ (t : CertStage). KeptAt style t next) (sym f.at) f.kept)
    by_done u goes ends good kind false done same =
        let kinds : KindKept style u.kind (certs.cert_so_far p) = subst (λ (k : UnitKind). KindKept style k (certs.cert_so_far p)) (sym kind) kept.2 in
        let next : CertSoFar = record p { unit = u } in
        cert_step style stage.InUnit p line q next (texts line) same
        (ap (λ (t : CertStage). spelled_at style t next) at ∙ in_back (before style (certs.cert_so_far p)) (unit_spelled style p.unit) (unit_spelled style u) (texts line) goes)
        (record { items = refl; ends = ends }) (subst (λ (t : CertStage). KeptAt style t next) (sym at) (kept.0, good, kinds))

-- a line of a certificate that is read
line_step : (style : Style) (p : CertSoFar) (word : Item) (rest line : Line) (q : CertSoFar) (s : CertStage) → line ≡ with_item word rest → p.stage ≡ s
    → KeptAt style s p → certs.cert_staged style s word rest p ≡ Ok q → CertStep style s p line q
line_step style p word rest line q stage.Header is at kept e = header_step style p word rest line q is kept e
line_step style p word rest line q stage.Cond is at kept e = cond_step style p word rest line q is kept e
line_step style p word rest line q stage.Units is at kept e = units_step style p word rest line q _ _ _ is kept refl refl refl e
line_step style p word rest line q stage.InUnit is at kept e = unit_step_at style p word rest line q is at kept e
line_step style p word rest line q stage.Done is at kept e = absurd (cc)

-- lines that are read are spelled behind those before them
record Steps (style : Style) (p : CertSoFar) (lines : List Line) (q : CertSoFar) : Type 0 where
  pub goes : spelled_at style q.stage q ≡ spelled_at style p.stage p ++ map texts lines
  pub ends : AllEnded lines
  pub kept : KeptAt style q.stage q

steps : (style : Style) (lines : List Line) (p q : CertSoFar) → KeptAt style p.stage p → certs.cert_lines style lines p ≡ Ok q → Steps style p lines q
steps style [] p q kept e =
    let is : q ≡ p = ok_is p q e in
    record {
      goes = ap (λ (r : CertSoFar). spelled_at style r.stage r) is ∙ sym (append-nil (spelled_at style p.stage p));
      ends = tt;
      kept = subst (λ (r : CertSoFar). KeptAt style r.stage r) (sym is) kept;
    }
steps style (line ∷ lines) p q kept e =
    let a = then_ok (certs.cert_line style line p) _ _ e in
    let b = then_ok (next_item line) _ _ a.1 in
    let one = line_step style p b.0.0 b.0.1 line a.0 p.stage (next_is line b.0.0 b.0.1 b.1) refl kept b.2 in
    let more = steps style lines a.0 q one.kept a.2 in
    record {
      goes = more.goes ∙ ap (λ l. l ++ map texts lines) one.goes ∙ append_assoc (spelled_at style p.stage p) (texts line ∷ []) (map texts lines);
      ends = (one.ends, more.ends);
      kept = more.kept;
    }

-- all lines of a certificate
all_spelled : (style : Style) (c : Cert) → before style c ++ (codes "done" ∷ []) ∷ [] ≡ cert_lines style c
all_spelled style c =
    let conds = cond_items style.names c.cond in
    let s = each_lines (summary_lines style) c.summaries in
    let l = each_lines (loop_lines style) c.loops in
    let k = each_lines (command_lines style) c.commands in
    let end : Lines = (codes "done" ∷ []) ∷ [] in
    ap (λ (x : Lines). header c.list ∷ x) (append_assoc conds (s ++ (l ++ k)) end
    ∙ ap (λ (x : Lines). conds ++ x) (append_assoc s (l ++ k) end ∙ ap (λ (x : Lines). s ++ x) (append_assoc l k end)))

-- what a certificate that is read is
record Read (style : Style) (lines : Lines) (cert : Cert) : Type 0 where
  pub spelled : lines ≡ cert_lines style cert
  pub kept : IsCert style cert

finished : (style : Style) (s : CertStage) (p : CertSoFar) (cert : Cert) → KeptAt style s p → certs.cert_finished p s ≡ Ok cert
    → Read style (spelled_at style s p) cert
finished style stage.Done p cert kept e =
    let is : cert ≡ certs.cert_so_far p = ok_is (certs.cert_so_far p) cert e in
    let read : Read style (spelled_at style stage.Done p) (certs.cert_so_far p) = record { spelled = all_spelled style (certs.cert_so_far p); kept = kept } in
    subst (λ (c : Cert). Read style (spelled_at style stage.Done p) c) (sym is) read
finished style stage.Header p cert kept e = absurd (cc)
finished style stage.Cond p cert kept e = absurd (cc)
finished style stage.Units p cert kept e = absurd (cc)
finished style stage.InUnit p cert kept e = absurd (cc)

-- a certificate that is read spells the text, and keeps the limits
pub cert_is : (style : Style) (source : List ℕ) (cert : Cert) → cert_of style source ≡ Ok cert → (source ≡ text_of (cert_lines style cert)) × IsCert style cert
cert_is style source cert e =
    let a = then_ok (certs.cert_lines style (lines_of source) certs.no_cert) _ _ (told_ok source (certs.cert_read style source) cert e) in
    let all = steps style (lines_of source) certs.no_cert a.0 (refl, (refl, refl, refl)) a.1 in
    let f = finished style a.0.stage a.0 cert all.kept a.2 in
    (split_text source all.ends ∙ ap text_of (sym all.goes ∙ f.spelled), f.kept)
