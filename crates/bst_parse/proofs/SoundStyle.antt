-- A style that is read is sound.
use Rattle.std.proofs.Common.{◌≡◌, ℕ, suc, ◌+◌, ◌≤◌, Bool, true, false, ◌&&◌, not, nat_eq, nat_lt, List, [], ◌∷◌, Option, None, Some, Result, Ok, Err, length, refl, sym, subst, arith}
use Rattle.std.proofs.lemmas.Bool.{eqb-true, ltb-true, and_parts, not-true}
use Rattle.std.specs.Result.{IfOk}
use Rattle.name_table.specs.declared.names.Kind.{Kind}
use Rattle.name_table.specs.declared.names.Kind.TheVariants.{Builtin, Wizard, Field, IntEntry, StrEntry, IntGlobal, StrGlobal}
use Rattle.name_table.specs.declared.style.Body.{Body}
use Rattle.name_table.specs.declared.style.Style.{Style}
use Rattle.name_table.specs.Names.{same_name}
use Rattle.name_table.specs.Numbers.{IsByteList}
use Rattle.name_table.specs.Opening.{opening_names}
use Rattle.name_table.specs.Sound.{Each, AreApart, IsKindSound, IsSound}
use Rattle.bst_lex.specs.declared.lexeme.LexFault.{LexFault}
use Rattle.bst_lex.specs.Grammar.{Spells}
use Rattle.bst_lex.specs.Lexemes.{Seen, lexed}
use Rattle.bv_base.specs.Places.{first_place}
use Rattle.bv_base.specs.declared.limits.TheConstants.{STYLE_BYTES}
use Rattle.bst_parse.specs.declared.fault.StyleFault.{StyleFault}
use Rattle.bst_parse.specs.declared.grammar.Part.{Part}
use Rattle.bst_parse.specs.Progress.{Progress}
use Rattle.bst_parse.specs.Reading.{opening_progress, take_lexeme, is_idle, ended, reading, style_of}
use Rattle.bst_parse.proofs.Lexed.{IsShapeSmall, TextFine, lexed_fine, spelled_small}
use Rattle.bst_parse.proofs.Lists.{each_more}
use Rattle.bst_parse.proofs.SoFar.{coming, IsKindSoFar}
use Rattle.bst_parse.proofs.SoundSteps.{Now, lexeme_keeps}
use Rattle.bv_base.proofs.ThenLemmas.{ok, ok_is, then_ok, where_ok}

-- a list all of whose items pass a test
abbrev all_pass : {X : Type 0} → (X → Bool) → List X → Bool
all_pass test [] = true
all_pass test (x ∷ xs) = test x && all_pass test xs

each_passing : {X : Type 0} (test : X → Bool) (P : X → Type 0) → ((x : X) → test x ≡ true → P x) → (xs : List X)
    → all_pass test xs ≡ true → Each P xs
each_passing test P f [] h = tt
each_passing test P f (x ∷ xs) h =
    (f x (and_parts (test x) (all_pass test xs) h).0, each_passing test P f xs (and_parts (test x) (all_pass test xs) h).1)

bytes_passing : (bytes : List ℕ) → all_pass (λ b. nat_lt b 256) bytes ≡ true → IsByteList bytes
bytes_passing [] h = tt
bytes_passing (b ∷ bytes) h = (ltb-true b 256 (and_parts (nat_lt b 256) (all_pass (λ c. nat_lt c 256) bytes) h).0, bytes_passing bytes (and_parts (nat_lt b 256) (all_pass (λ c. nat_lt c 256) bytes) h).1)

-- the names of every style are apart, and none is a function of the style
abbrev apart_test : List (List ℕ × Kind) → Bool
apart_test [] = true
apart_test (first ∷ rest) = all_pass (λ other. not (same_name other.0 first.0)) rest && apart_test rest

apart_passing : (names : List (List ℕ × Kind)) → apart_test names ≡ true → AreApart names
apart_passing [] h = tt
apart_passing (first ∷ rest) h = (
  each_passing (λ (other : List ℕ × Kind). not (same_name other.0 first.0)) _ (λ (other : List ℕ × Kind) e. not-true (same_name other.0 first.0) e) rest (and_parts _ (apart_test rest) h).0,
  apart_passing rest (and_parts (all_pass (λ (other : List ℕ × Kind). not (same_name other.0 first.0)) rest) (apart_test rest) h).1,
)

abbrev no_function : Kind → Bool
no_function (Wizard id) = false
no_function _ = true

no_function_fine : (kind : Kind) → no_function kind ≡ true → IsKindSoFar [] 0 kind
no_function_fine (Wizard id) e = absurd (cc)
no_function_fine _ e = tt

opening_now : Now 0 opening_progress
opening_now =
    record {
      names = record { declared = []; are = refl; spelled = tt; apart = apart_passing opening_names refl; few = omega arith; bytes = each_passing (λ (entry : List ℕ × Kind). all_pass (λ b. nat_lt b 256) entry.0) _ (λ (entry : List ℕ × Kind) e. bytes_passing entry.0 e) opening_names refl };
      kinds = each_passing (λ (entry : List ℕ × Kind). no_function entry.1) _ (λ (entry : List ℕ × Kind) e. no_function_fine entry.1 e) opening_names refl;
      tokens = tt;
      commands = tt;
      few_commands = omega arith;
      numbered = tt;
      few_bodies = omega arith;
      texts = tt;
      parts = tt;
      busy = tt;
    }

-- once no body is owed, each function has its body
kind_sound : (bodies : List Body) (kind : Kind) → IsKindSoFar bodies 0 kind → IsKindSound bodies kind
kind_sound bodies (Wizard id) h = h.1 (omega (arith, h.0))
kind_sound bodies _ h = tt

pub none_left : {X : Type 0} (xs : List X) → nat_eq (length xs) 0 ≡ true → xs ≡ []
none_left [] e = refl
none_left (x ∷ xs) e = let z : suc (length xs) ≡ 0 = eqb-true (suc (length xs)) 0 e in absurd (omega (arith, z))

now_sound : (n : ℕ) (p : Progress) → n ≤ STYLE_BYTES → p.parts ≡ [] → Now n p
    → IsSound (record { names = p.names; commands = p.commands; bodies = p.bodies; texts = p.texts; macros = p.macros })
now_sound n p small none s =
    record {
      declared = s.names.declared;
      names = s.names.are;
      spelled = s.names.spelled;
      apart = s.names.apart;
      kinds =
          each_more _ _ (λ (entry : List ℕ × Kind). kind_sound p.bodies entry.1) p.names
          (subst (λ (l : List Part). Each (λ (entry : List ℕ × Kind). IsKindSoFar p.bodies (coming l) entry.1) p.names) none s.kinds);
      tokens = s.tokens;
      commands = s.commands;
      numbered = s.numbered;
      few_names = s.names.few;
      few_bodies = s.few_bodies;
      few_commands = omega (arith, s.few_commands);
      short_texts = each_more _ _ (λ (text : List ℕ) (h : TextFine text). h.short) p.texts s.texts;
      byte_names = s.names.bytes;
      byte_texts = each_more _ _ (λ (text : List ℕ) (h : TextFine text). h.bytes) p.texts s.texts;
    }

ended_sound : (source : List ℕ) (fault : Option LexFault) (n : ℕ) (p : Progress) (style : Style) → n ≤ STYLE_BYTES → Now n p
    → ended source fault p ≡ Ok style → IsSound style
ended_sound source (Some fault) n p style small s e = absurd (cc)
ended_sound source None n p style small s e =
    let whole : Style = record { names = p.names; commands = p.commands; bodies = p.bodies; texts = p.texts; macros = p.macros } in
    let w = where_ok (is_idle p) (ok whole) _ style e in
    subst IsSound (sym (ok_is whole style w.1))
    (now_sound n p small (none_left p.parts (and_parts (nat_eq (length p.parts) 0) (nat_eq (length p.opened) 0) w.0).0) s)

reading_sound : (source : List ℕ) (lexemes : List Seen) (fault : Option LexFault) (n : ℕ) (p : Progress) (style : Style)
    → Each (λ l. TextFine l.text) lexemes → Each (λ l. IsShapeSmall l.shape) lexemes → n + length lexemes ≤ STYLE_BYTES → Now n p
    → reading source lexemes fault p ≡ Ok style → IsSound style
reading_sound source [] fault n p style words fits few s e = ended_sound source fault n p style (omega (arith, few)) s e
reading_sound source (l ∷ rest) fault n p style words fits few s e =
    let a = then_ok (take_lexeme source l p) (reading source rest fault) style e in
    reading_sound source rest fault (suc n) a.0 style words.1 fits.1 (omega (arith, few)) (lexeme_keeps n source l p a.0 s words.0 fits.0 a.1) a.2

pub sound_style : (source : List ℕ) (r : Result Style StyleFault) → length source ≤ STYLE_BYTES → IsByteList source → Spells 0 first_place source (lexed source).left (lexed source).fault
    → IfOk r (λ style. style_of source ≡ Ok style) → IfOk r IsSound
sound_style source (Err fault) small bytes spells h = tt
sound_style source (Ok style) small bytes spells h =
    let lexemes = lexed_fine source 0 0 first_place small bytes in
    reading_sound source (lexed source).left (lexed source).fault 0 opening_progress style lexemes.texts
    (spelled_small 0 first_place source (lexed source).left (lexed source).fault spells) (omega (arith, lexemes.few)) opening_now h
