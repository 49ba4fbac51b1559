-- Reading is the grammar, both ways.
use Rattle.std.proofs.Common.{◌≡◌, ◌↔◌, ℕ, List, Option, None, Ok, refl, sym, ap, ◌∙◌}
use Rattle.name_table.specs.declared.style.Style.{Style}
use Rattle.bst_lex.specs.declared.lexeme.LexFault.{LexFault}
use Rattle.bst_lex.specs.Grammar.{Spells}
use Rattle.bst_lex.specs.Lexemes.{Seen, lexed}
use Rattle.bv_base.specs.Places.{first_place}
use Rattle.bst_parse.specs.Grammar.{Reads, spelled}
use Rattle.bst_parse.specs.Reading.{opening_progress, reading, style_of}
use Rattle.bst_parse.proofs.Completed.{completed, CommandsLeft}
use Rattle.bst_parse.proofs.Held.{commands_held}
use Rattle.bv_base.proofs.ThenLemmas.{ok_is}

-- the lexemes of a source are those that the grammar of lexemes spells
abbrev pub AreSpelled : List ℕ → Type 0
AreSpelled source =
    (lexemes : List Seen) → (fault : Option LexFault)
    → Spells 0 first_place source lexemes fault ↔ (((lexed source).left ≡ lexemes) × ((lexed source).fault ≡ fault))

pub reads_of : (source : List ℕ) (style : Style) → AreSpelled source → style_of source ≡ Ok style → Reads source style
reads_of source style are_spelled e =
    let c = completed source (lexed source).left (lexed source).fault opening_progress style e in
    let left : CommandsLeft (lexed source).left = c.1 in
    record {
      trees = left.trees;
      commands = left.commands;
      lexemes = (are_spelled (spelled left.trees) None).1 (left.are, c.0);
      rules =
          sym (commands_held source left.trees opening_progress left.commands refl refl)
          ∙ sym (ap (λ (ls : List Seen). reading source ls None opening_progress) left.are)
          ∙ sym (ap (λ (fault : Option LexFault). reading source (lexed source).left fault opening_progress) c.0)
          ∙ e;
    }

pub of_reads : (source : List ℕ) (style : Style) → AreSpelled source → Reads source style → style_of source ≡ Ok style
of_reads source style are_spelled r =
    let found = (are_spelled (spelled r.trees) None).0 r.lexemes in
    ap (λ (fault : Option LexFault). reading source (lexed source).left fault opening_progress) found.1
    ∙ ap (λ (ls : List Seen). reading source ls None opening_progress) found.0
    ∙ commands_held source r.trees opening_progress r.commands refl refl
    ∙ r.rules

-- what is read as two styles is read as one
pub same_style : (source : List ℕ) (first second : Style) → style_of source ≡ Ok first → style_of source ≡ Ok second → first ≡ second
same_style source first second f s = sym (ok_is first second (sym f ∙ s))
